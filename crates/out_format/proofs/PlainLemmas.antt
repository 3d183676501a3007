-- Consecutive words that print only surfaces and features: the cost of the path up to them does not
-- matter.
use Rattle.std.proofs.Common.{◌≡◌, ℕ, ◌+◌, ◌<◌, List, [], ◌∷◌, ◌++◌, append-nil, length, take, get_or, refl, sym, ap, ◌∙◌, subst}
use Rattle.std.specs.Prelude.{ℤ, pos, ◌+ℤ◌, All}
use Rattle.std.proofs.lemmas.List.{take_more}
use Rattle.std.proofs.lemmas.List.Concat.{flat_map-append}
use Rattle.std.proofs.lemmas.List.Elements.{All-append, All-cons, All-head, All-nil, All-tail}
use Rattle.mj_model.specs.declared.format_item.FormatItem.{FormatItem}
use Rattle.mj_model.specs.declared.format_item.FormatItem.TheVariants as item
use Rattle.mj_model.specs.declared.word.Word.{Word}
use Rattle.mj_model.specs.declared.word.Origin.{Origin}
use Rattle.mj_model.specs.declared.word.Origin.TheVariants.{Known, Unknown}
use Rattle.mj_model.specs.Tables.{Overlay}
use Rattle.out_format.specs.Followable.{AreFollowable}
use Rattle.out_format.specs.Formats.{Format, Piece, Byte, ItemPiece}
use Rattle.out_format.specs.Pieces.{bytes_as_pieces, pieces_in, pieces_of}
use Rattle.out_format.specs.Plain.{HasPlainWords, HasSurfaceIn, IsPlain, IsPlainItem, PrintsAnywhere}
use Rattle.out_format.specs.declared.part.Part.{Part}
use Rattle.out_format.specs.PrintedPaths.{PrintsItem, PrintsPieces, PrintsWords, WordContext, word_pieces}
use Rattle.out_format.proofs.FollowLemmas.{next_followable}
use Rattle.out_format.proofs.PrintedLemmas.{WordsSoFar, all_words, no_words_yet, word_more}

-- ---- which parts are plain

pub bytes_plain : (bytes : List ℕ) → All IsPlain (bytes_as_pieces bytes)
bytes_plain [] = All-nil IsPlain
bytes_plain (b ∷ bs) = All-cons IsPlain (Byte b) (bytes_as_pieces bs) tt (bytes_plain bs)

pub not_plain : (i : FormatItem) → (i ≡ item.Surface → ⊥) → (i ≡ item.Feature → ⊥) → IsPlainItem i → ⊥
not_plain item.Surface no_surface no_feature plain = no_surface refl
not_plain item.Feature no_surface no_feature plain = no_feature refl
not_plain i no_surface no_feature plain = plain

pub parts_plain : (parts : List Part) (i : ℕ) (part : Part) → i < length parts → get_or parts i part ≡ part → All IsPlain (pieces_of (take i parts)) → All IsPlain (pieces_in part) → All IsPlain (pieces_of (take (i + 1) parts))
parts_plain parts i part in' here before one =
    let split : pieces_of (take (i + 1) parts) ≡ pieces_of (take i parts) ++ pieces_in part =
    ap pieces_of (take_more parts i part in' ∙ ap (λ (p : Part). take i parts ++ p ∷ []) here) ∙ flat_map-append pieces_in (take i parts) (part ∷ [])
    ∙ ap (λ (ps : List Piece). pieces_of (take i parts) ++ ps) (append-nil (pieces_in part)) in
    subst (All IsPlain) (sym split) (All-append IsPlain (pieces_of (take i parts)) (pieces_in part) before one)

-- ---- what they show

-- the text of plain pieces of a word does not depend on the path
shown_in_path : (o : Overlay) (line : List ℕ) (s : WordContext) (ps : List Piece) (shown : List ℕ) → All IsPlain ps → PrintsPieces (PrintsAnywhere o line s.word) ps shown → PrintsPieces (PrintsItem o line s) ps shown
shown_in_path o line s [] shown plain is = is
shown_in_path o line s (Byte b ∷ ps) shown plain (more, rest, is) = (more, shown_in_path o line s ps more (All-tail IsPlain (Byte b) ps plain) rest, is)
shown_in_path o line s (ItemPiece i ∷ ps) shown plain (front, more, one, rest, is) = (front, more, one (All-head IsPlain (ItemPiece i) ps plain) s refl, shown_in_path o line s ps more (All-tail IsPlain (ItemPiece i) ps plain) rest, is)

plain_pieces : (f : Format) (origin : Origin) → HasPlainWords f → All IsPlain (word_pieces f origin)
plain_pieces f (Known dict number) plain = plain.node
plain_pieces f (Unknown number) plain = plain.unk

-- the text of the words before the remaining ones was appended, and the remaining words may follow
-- them
pub record PlainSoFar (o : Overlay) (f : Format) (line : List ℕ) (words rest : List Word) (old mid : List ℕ) : Type 0 where
  pub right : ℕ
  pub cost : ℤ
  pub follow : AreFollowable o line right cost rest
  pub shown : WordsSoFar o f line words rest right cost old mid

pub no_plain_yet : (o : Overlay) (f : Format) (line : List ℕ) (words : List Word) (old : List ℕ) → AreFollowable o line 0 (pos 0) words → PlainSoFar o f line words words old old
no_plain_yet o f line words old follow = record { right = 0; cost = pos 0; follow = follow; shown = no_words_yet o f line words old }

-- the next word's surface lies in the line
pub next_surface : (o : Overlay) (f : Format) (line : List ℕ) (words rest ws : List Word) (w : Word) (old mid : List ℕ) → rest ≡ w ∷ ws → PlainSoFar o f line words rest old mid → HasSurfaceIn line w
next_surface o f line words rest ws w old mid split before =
    let next = next_followable o line rest ws w before.right before.cost split before.follow in
    record { forward = next.0.forward; within = next.0.within }

pub plain_more : (o : Overlay) (f : Format) (line : List ℕ) (words rest ws : List Word) (w : Word) (ps : List Piece) (old mid new : List ℕ) → HasPlainWords f → rest ≡ w ∷ ws → ps ≡ word_pieces f w.origin
    → PlainSoFar o f line words rest old mid
    → (shown : List ℕ) × PrintsPieces (PrintsAnywhere o line w) ps shown × (new ≡ mid ++ shown)
    → PlainSoFar o f line words ws old new
plain_more o f line words rest ws w ps old mid new plain split pieces before (front, is, e) =
    let now = (before.cost +ℤ o.system.connection before.right w.left) +ℤ w.cost in
    let next = next_followable o line rest ws w before.right before.cost split before.follow in
    let in_path : WordContext = record { word = w; right_before = before.right; cost_so_far = now } in
    let all : All IsPlain ps = subst (All IsPlain) (sym pieces) (plain_pieces f w.origin plain) in
    record {
      right = w.right;
      cost = now;
      follow = next.2;
      shown = word_more o f line words rest ws w before.right before.cost now ps old mid new split refl pieces before.shown (front, shown_in_path o line in_path ps front all is, e);
    }

pub all_plain : (o : Overlay) (f : Format) (line : List ℕ) (words rest : List Word) (old new : List ℕ) → rest ≡ [] → PlainSoFar o f line words rest old new → (shown : List ℕ) × PrintsWords o f line 0 (pos 0) words shown × (new ≡ old ++ shown)
all_plain o f line words rest old new none before = all_words o f line words rest before.right before.cost old new none before.shown
