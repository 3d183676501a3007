-- What the first bytes of an image determine: its header, and the first error of its tests.
use Rattle.std.proofs.Common.{◌≡◌, ℕ, ◌+◌, ◌≤◌, ◌<◌, ◌^◌, List, [], ◌∷◌, ◌++◌, length, take, Bool, true, false, None, Some, refl, sym, ap, ◌∙◌, subst, inl, inr, arith}
use Rattle.std.specs.Prelude.{Option, IfSome}
use Rattle.std.proofs.lemmas.List.{length-append, take-append-le}
use Rattle.std.specs.Io.KnownBytes.{Consumes}
use Rattle.mj_model.specs.declared.image_fault.ImageFault.{ImageFault}
use Rattle.mj_model.specs.declared.image_fault.ImageFault.TheVariants.{Truncated, BadMagic, BadLayout, BadSection}
use Rattle.image_format.specs.DictKinds.{kind_numbered}
use Rattle.image_format.specs.ImageBytes.{header_of, header_length, image_magic, number_at, total_length}
use Rattle.image_format.specs.Layouts.{IsReadLayout}
use Rattle.image_format.proofs.NumberLemmas.{number_kept}
use Rattle.programs.specs.ImageHeads.{HasLength, IsFaultOf, IsFaultOfEach, IsForLength, IsHead, IsErrorOrKnownLength, IsErrorOrLengthAt, IsErrorOrLengthOfEach, IsErrorAt, IsRejectedEarly, IsRestError}
use Rattle.programs.specs.Reading.{IsReadOn}
use Rattle.programs.specs.declared.image_reading.ImageReadFault.{ImageReadFault}
use Rattle.programs.specs.declared.image_reading.ImageReadFault.TheVariants.{Read, Image}

pub not_both : (b : Bool) → b ≡ true → b ≡ false → ⊥
not_both b is_true is_false = cc

-- the known number of bytes is the number of bytes
pub has_length : (bytes : List ℕ) (known : Option ℕ) (n : ℕ) → known ≡ Some n → HasLength known bytes → length bytes ≡ n
has_length bytes known n is fits = subst (λ (k : Option ℕ). IfSome k (λ m. length bytes ≡ m)) is fits.same

module _ (first rest : List ℕ) (within : header_length ≤ length first) where
  kept : (n at : ℕ) → at + n ≤ header_length → number_at n (first ++ rest) at ≡ number_at n first at
  kept n at low = number_kept n at first rest (omega (arith, within, low))

  -- the header doesn't depend on the bytes that follow it
  pub header_kept : header_of (first ++ rest) ≡ header_of first
  header_kept = λ j. record {
    layout = kept 4 8 (omega arith) j;
    kind = kind_numbered (kept 4 12 (omega arith) j);
    sizes = record { right = kept 4 16 (omega arith) j; left = kept 4 20 (omega arith) j };
    categories = kept 4 24 (omega arith) j;
    groups = kept 4 28 (omega arith) j;
    tokens = kept 4 32 (omega arith) j;
    unknown = kept 4 36 (omega arith) j;
    lengths = kept 8 40 (omega arith) j ∷ kept 8 48 (omega arith) j ∷ kept 8 56 (omega arith) j ∷ kept 8 64 (omega arith) j ∷ kept 8 72 (omega arith) j ∷ kept 8 80 (omega arith) j ∷ kept 8 88 (omega arith) j ∷ kept 8 96 (omega arith) j ∷ [];
  }

  long : header_length ≤ length (first ++ rest)
  long = let n = length-append first rest in omega (arith, within, n)

  -- neither do the first 8 bytes
  magic_kept : take 8 (first ++ rest) ≡ take 8 first
  magic_kept = take-append-le 8 first rest (omega (arith, within))

  layout_kept : (header_of (first ++ rest)).layout ≡ (header_of first).layout
  layout_kept = kept 4 8 (omega arith)

  total_kept : total_length (header_of (first ++ rest)) ≡ total_length (header_of first)
  total_kept = ap total_length header_kept

  -- neither does the length that the header demands
  pub head_kept : (reported : ℕ) → IsHead first reported → IsHead (first ++ rest) reported
  head_kept reported head = record { long = long; magic = magic_kept ∙ head.magic; layout = subst IsReadLayout (sym layout_kept) head.layout; reported_is = head.reported_is ∙ sym total_kept }

  -- bytes without the magic
  pub no_magic : (take 8 first ≡ image_magic → ⊥) → IsFaultOf (first ++ rest) BadMagic
  no_magic other digest = inr (long, inl ((λ is. other (sym magic_kept ∙ is)), refl))

  module _ (magic : take 8 first ≡ image_magic) where
    has_magic : take 8 (first ++ rest) ≡ image_magic
    has_magic = magic_kept ∙ magic

    -- bytes of a layout that is not supported
    pub no_layout : (IsReadLayout (header_of first).layout → ⊥) → IsFaultOf (first ++ rest) (BadLayout (header_of first).layout)
    no_layout other digest = inr (long, inr (has_magic, inl ((λ read. other (subst IsReadLayout layout_kept read)), ap BadLayout (sym layout_kept))))

    module _ (layout : IsReadLayout (header_of first).layout) where
      is_read : IsReadLayout (header_of (first ++ rest)).layout
      is_read = subst IsReadLayout (sym layout_kept) layout

      -- fewer bytes than the header demands
      pub too_few : length (first ++ rest) < total_length (header_of first) → IsFaultOf (first ++ rest) Truncated
      too_few few digest = inr (long, inr (has_magic, inr (is_read, inl ((λ enough. let t = total_kept in omega (arith, few, enough, t)), refl))))

      -- more bytes than the header demands
      pub too_many : total_length (header_of first) < length (first ++ rest) → IsFaultOf (first ++ rest) (BadSection 9)
      too_many many digest =
          let t = total_kept in
          inr (long, inr (has_magic, inr (is_read, inr (omega (arith, many, t), inl ((λ no_more. omega (arith, many, no_more, t)), refl)))))

-- an error of each image that begins with the bytes given is the error of the reader's bytes
pub rejected_at : (known : Option ℕ) (before after : Option (List ℕ)) (first : List ℕ) (fault : ImageFault) → Consumes before after first → IsFaultOfEach known first fault → IsErrorAt known before (Image fault)
rejected_at known None after first fault gave each = tt
rejected_at known (Some bytes) None first fault gave each = absurd gave
rejected_at known (Some bytes) (Some rest) first fault gave each =
    λ fits. subst (λ (b : List ℕ). IsFaultOf b fault) (sym gave) (each rest (subst (HasLength known) gave fits))

-- an error of the bytes after the first ones is the error of the reader's bytes
pub rejected_after : (known : Option ℕ) (before after : Option (List ℕ)) (first : List ℕ) (fault : ImageReadFault) → Consumes before after first → IsRestError first after fault → IsErrorAt known before fault
rejected_after known before after first (Read fault) gave rest = tt
rejected_after known None after first (Image fault) gave rest = tt
rejected_after known (Some bytes) None first (Image fault) gave rest = absurd gave
rejected_after known (Some bytes) (Some more) first (Image fault) gave rest = λ fits. subst (λ (b : List ℕ). IsFaultOf b fault) (sym gave) rest

-- an error by `IsErrorOrKnownLength` of each image that begins with the bytes given is one of the reader's
-- bytes
pub tested_at : (known : Option ℕ) (before after : Option (List ℕ)) (first : List ℕ) (fault : ImageFault) → Consumes before after first → IsErrorOrLengthOfEach known first fault → IsErrorOrLengthAt known before (Image fault)
tested_at known None after first fault gave each = tt
tested_at known (Some bytes) None first fault gave each = absurd gave
tested_at known (Some bytes) (Some rest) first fault gave each =
    λ few. subst (λ (b : List ℕ). IsErrorOrKnownLength known b fault) (sym gave) (each rest (subst (λ (b : List ℕ). length b < 2 ^ 64) gave few))

pub tested_after : (known : Option ℕ) (before after : Option (List ℕ)) (first : List ℕ) (fault : ImageReadFault) → Consumes before after first → IsRestError first after fault → IsErrorOrLengthAt known before fault
tested_after known before after first (Read fault) gave rest = tt
tested_after known None after first (Image fault) gave rest = tt
tested_after known (Some bytes) None first (Image fault) gave rest = absurd gave
tested_after known (Some bytes) (Some more) first (Image fault) gave rest = λ few. subst (λ (b : List ℕ). IsErrorOrKnownLength known b fault) (sym gave) (inl rest)

-- bytes that are too many are rejected as `IsRejectedEarly` allows
pub late : (before after : Option (List ℕ)) (fault : ImageReadFault) → IsForLength fault → IsRejectedEarly before after fault
late before after (Read fault) longer = tt
late before after (Image fault) longer = inl longer

-- bytes read after a header, no more than it demands
pub head_after : (first now : List ℕ) (reported : ℕ) (before after : Option (List ℕ)) → IsHead first reported → IsReadOn first before after now → length now ≤ reported
    → (demanded : ℕ) × IsHead now demanded × (length now ≤ demanded)
head_after first now reported before after head read few =
    (reported, subst (λ (b : List ℕ). IsHead b reported) (sym read.2) (head_kept first read.0 head.long reported head), few)

-- more bytes than the header demands
pub longer_after : (first now : List ℕ) (reported : ℕ) (before after : Option (List ℕ)) → IsHead first reported → IsReadOn first before after now → reported < length now → IsRestError first before (Image (BadSection 9))
longer_after first now reported None after head read many = tt
longer_after first now reported (Some rest) None head read many = absurd read.1
longer_after first now reported (Some rest) (Some more) head read many =
    let whole = ap length read.2 ∙ length-append first read.0 in
    let following = ap length read.1 ∙ length-append read.0 more in
    let all = length-append first rest in
    let reported_is = head.reported_is in
    too_many first rest head.long head.magic head.layout (omega (arith, whole, following, all, reported_is, many))
