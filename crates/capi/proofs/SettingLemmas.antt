-- Which of a format's four texts is not UTF-8.
use Rattle.std.proofs.Common.{◌≡◌, ℕ, List, [], ◌∷◌, refl, subst, sym}
use Rattle.std.specs.Prelude.{slice_get, take, All, Some, IsUtf8}
use Rattle.std.proofs.lemmas.List.Elements.{All-cons, All-nil}
use Rattle.std.specs.Str.{IsValidUpTo}
use Rattle.line_segmenter.specs.declared.fault.SegmentFault.{SegmentFault}
use Rattle.line_segmenter.specs.declared.fault.SegmentFault.TheVariants as segment
use Rattle.capi.specs.Settings.{FormatPlace, IsNotUtf8, IsNoTextAt, IsPlaceInTexts, place_at}

-- bytes that are not UTF-8 have one error
is_not_utf8 : (bytes : List ℕ) (fault : SegmentFault) → IsNotUtf8 bytes fault → fault ≡ segment.NotUtf8
is_not_utf8 bytes (segment.Image f) bad = absurd bad
is_not_utf8 bytes (segment.Overlay f) bad = absurd bad
is_not_utf8 bytes (segment.Format f) bad = absurd bad
is_not_utf8 bytes segment.NotUtf8 bad = refl
is_not_utf8 bytes segment.TooLong bad = absurd bad
is_not_utf8 bytes (segment.LineFeed n) bad = absurd bad
is_not_utf8 bytes segment.NothingSegmented bad = absurd bad
is_not_utf8 bytes segment.Shared bad = absurd bad
is_not_utf8 bytes segment.BadGrouping bad = absurd bad
is_not_utf8 bytes (segment.NoWord n) bad = absurd bad
is_not_utf8 bytes segment.Memory bad = absurd bad

-- a list of texts that are all UTF-8, of one to three
pub one : {first : List ℕ} → IsUtf8 first → All IsUtf8 (first ∷ [])
one {first} p = All-cons IsUtf8 first [] p (All-nil IsUtf8)

pub two : {first second : List ℕ} → IsUtf8 first → IsUtf8 second → All IsUtf8 (first ∷ second ∷ [])
two {first} {second} p q = All-cons IsUtf8 first (second ∷ []) p (one q)

pub three : {first second third : List ℕ} → IsUtf8 first → IsUtf8 second → IsUtf8 third → All IsUtf8 (first ∷ second ∷ third ∷ [])
three {first} {second} {third} p q r = All-cons IsUtf8 first (second ∷ third ∷ []) p (two q r)

-- bytes that are not UTF-8, after texts, have the position of the error
pub placed_at : (texts : List (List ℕ)) (bytes : List ℕ) (number : ℕ) (before : FormatPlace) (part at : ℕ) (fault : SegmentFault) → IsNotUtf8 bytes fault → slice_get texts number ≡ Some bytes
    → All IsUtf8 (take number texts) → part ≡ number → IsValidUpTo bytes at → IsPlaceInTexts texts before (place_at part at) fault
placed_at texts bytes number before part at fault bad there front is up_to =
    subst (IsPlaceInTexts texts before (place_at part at)) (sym (is_not_utf8 bytes fault bad))
    (subst (λ (n : ℕ). IsNoTextAt texts (place_at n at)) (sym is) (record { bytes = bytes; there = there; up_to = up_to; before = front }))
