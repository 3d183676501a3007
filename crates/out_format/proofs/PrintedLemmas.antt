-- The text of consecutive pieces and words.
use Rattle.std.proofs.Common.{◌≡◌, ℕ, ◌+◌, ◌<◌, List, [], ◌∷◌, ◌++◌, length, take, get_or, refl, sym, ◌∙◌, ap, subst, Result, Ok, Err, append_assoc, append-nil}
use Rattle.std.specs.Prelude.{ℤ, pos, ◌+ℤ◌, OnOk}
use Rattle.std.proofs.lemmas.List.{take_more}
use Rattle.std.proofs.lemmas.List.Concat.{flat_map-append}
use Rattle.mj_model.specs.declared.format_item.FormatItem.{FormatItem}
use Rattle.mj_model.specs.declared.word.Word.{Word}
use Rattle.mj_model.specs.declared.word.Origin.TheVariants.{Known}
use Rattle.out_format.specs.Formats.{Piece, Byte, ItemPiece, Format}
use Rattle.out_format.specs.PrintedPaths.{PrintsItem, PrintsPieces, PrintsWords, PrintsPath, line_item, word_pieces}
use Rattle.mj_model.specs.BestOver.{cost_over}
use Rattle.mj_model.specs.Tables.{Overlay}
use Rattle.out_format.specs.declared.part.Part.{Part}
use Rattle.out_format.specs.Pieces.{bytes_as_pieces, pieces_in, pieces_of}

pub shown_as : {E : Type 0} (r : Result (Unit {0}) E) (IsShown : List ℕ → Type 0) (old new shown : List ℕ) → IsShown shown → OnOk r (new ≡ old ++ shown) → OnOk r ((all : List ℕ) × IsShown all × (new ≡ old ++ all))
shown_as (Ok x) IsShown old new shown is e = (shown, is, e)
shown_as (Err x) IsShown old new shown is e = tt

pub bytes_shown : (PrintsOne : FormatItem → List ℕ → Type 0) (bytes : List ℕ) → PrintsPieces PrintsOne (bytes_as_pieces bytes) bytes
bytes_shown PrintsOne [] = refl
bytes_shown PrintsOne (b ∷ bs) = (bs, bytes_shown PrintsOne bs, refl)

pub pieces_then : (PrintsOne : FormatItem → List ℕ → Type 0) (ps qs : List Piece) (front more : List ℕ) → PrintsPieces PrintsOne ps front → PrintsPieces PrintsOne qs more → PrintsPieces PrintsOne (ps ++ qs) (front ++ more)
pieces_then PrintsOne [] qs front more a b = subst (PrintsPieces PrintsOne qs) (ap (λ (xs : List ℕ). xs ++ more) (sym a)) b
pieces_then PrintsOne (Byte c ∷ ps) qs front more (rest, a, is) b =
    (rest ++ more, pieces_then PrintsOne ps qs rest more a b, ap (λ (xs : List ℕ). xs ++ more) is)
pieces_then PrintsOne (ItemPiece i ∷ ps) qs front more (one, rest, h, a, is) b =
    (one, rest ++ more, h, pieces_then PrintsOne ps qs rest more a b, ap (λ (xs : List ℕ). xs ++ more) is ∙ append_assoc one rest more)

-- pieces show these bytes, which were appended
pub record Appended (IsShown : List ℕ → Type 0) (old new : List ℕ) : Type 0 where
  pub shown : List ℕ
  pub is_shown : IsShown shown
  pub appended : new ≡ old ++ shown

pub part_more : (PrintsOne : FormatItem → List ℕ → Type 0) (parts : List Part) (i : ℕ) (part : Part) (old mid new : List ℕ) → i < length parts → get_or parts i part ≡ part
    → Appended (PrintsPieces PrintsOne (pieces_of (take i parts))) old mid → (shown : List ℕ) × PrintsPieces PrintsOne (pieces_in part) shown × (new ≡ mid ++ shown)
    → Appended (PrintsPieces PrintsOne (pieces_of (take (i + 1) parts))) old new
part_more PrintsOne parts i part old mid new in' here so_far (front, is, e) =
    let split : pieces_of (take (i + 1) parts) ≡ pieces_of (take i parts) ++ pieces_in part =
    ap pieces_of (take_more parts i part in' ∙ ap (λ (p : Part). take i parts ++ p ∷ []) here) ∙ flat_map-append pieces_in (take i parts) (part ∷ [])
    ∙ ap (λ (ps : List Piece). pieces_of (take i parts) ++ ps) (append-nil (pieces_in part)) in
    record {
      shown = so_far.shown ++ front;
      is_shown = subst (λ (ps : List Piece). PrintsPieces PrintsOne ps (so_far.shown ++ front)) (sym split)
          (pieces_then PrintsOne (pieces_of (take i parts)) (pieces_in part) so_far.shown front so_far.is_shown is);
      appended = e ∙ ap (λ (xs : List ℕ). xs ++ front) so_far.appended ∙ append_assoc old so_far.shown front;
    }

-- ---- words, one after another

-- the value that the code uses if there is no next word
abbrev pub no_word : Word
no_word = record { place = 0; start = 0; end = 0; left = 0; right = 0; cost = pos 0; origin = Known 0 0 }

-- the text of the words before the remaining ones was appended: together with the text of the
-- remaining words it is the text of all
pub record WordsSoFar (o : Overlay) (f : Format) (line : List ℕ) (words rest : List Word) (right : ℕ) (cost : ℤ) (old mid : List ℕ) : Type 0 where
  pub so_far : List ℕ
  pub appended : mid ≡ old ++ so_far
  pub with_rest : (more : List ℕ) → PrintsWords o f line right cost rest more → PrintsWords o f line 0 (pos 0) words (so_far ++ more)

pub no_words_yet : (o : Overlay) (f : Format) (line : List ℕ) (words : List Word) (old : List ℕ) → WordsSoFar o f line words words 0 (pos 0) old old
no_words_yet o f line words old = record { so_far = []; appended = sym (append-nil old); with_rest = λ more h. h }

pub word_more : (o : Overlay) (f : Format) (line : List ℕ) (words rest ws : List Word) (w : Word) (right : ℕ) (cost next : ℤ) (ps : List Piece) (old mid new : List ℕ) → rest ≡ w ∷ ws
    → next ≡ (cost +ℤ o.system.connection right w.left) +ℤ w.cost → ps ≡ word_pieces f w.origin
    → WordsSoFar o f line words rest right cost old mid
    → (shown : List ℕ) × PrintsPieces (PrintsItem o line (record { word = w; right_before = right; cost_so_far = next })) ps shown × (new ≡ mid ++ shown)
    → WordsSoFar o f line words ws w.right next old new
word_more o f line words rest ws w right cost next ps old mid new split costs pieces before (front, is, e) =
    let now = (cost +ℤ o.system.connection right w.left) +ℤ w.cost in
    let shown : PrintsPieces (PrintsItem o line (record { word = w; right_before = right; cost_so_far = now })) (word_pieces f w.origin) front =
    subst (λ (z : ℤ). PrintsPieces (PrintsItem o line (record { word = w; right_before = right; cost_so_far = z })) (word_pieces f w.origin) front) costs
    (subst (λ (qs : List Piece). PrintsPieces (PrintsItem o line (record { word = w; right_before = right; cost_so_far = next })) qs front) pieces is) in
    record {
      so_far = before.so_far ++ front;
      appended = e ∙ ap (λ (xs : List ℕ). xs ++ front) before.appended ∙ append_assoc old before.so_far front;
      with_rest = λ more h.
          let following : PrintsWords o f line w.right now ws more = subst (λ (z : ℤ). PrintsWords o f line w.right z ws more) costs h in
          let all : PrintsWords o f line right cost rest (front ++ more) = subst (λ (vs : List Word). PrintsWords o f line right cost vs (front ++ more)) (sym split) (front, more, shown, following, refl) in
          subst (PrintsWords o f line 0 (pos 0) words) (sym (append_assoc before.so_far front more)) (before.with_rest (front ++ more) all);
    }

pub all_words : (o : Overlay) (f : Format) (line : List ℕ) (words rest : List Word) (right : ℕ) (cost : ℤ) (old new : List ℕ) → rest ≡ [] → WordsSoFar o f line words rest right cost old new
    → (shown : List ℕ) × PrintsWords o f line 0 (pos 0) words shown × (new ≡ old ++ shown)
all_words o f line words rest right cost old new none before =
    let nothing : PrintsWords o f line right cost rest [] = subst (λ (ws : List Word). PrintsWords o f line right cost ws []) (sym none) refl in
    (before.so_far, subst (PrintsWords o f line 0 (pos 0) words) (append-nil before.so_far) (before.with_rest [] nothing), before.appended)

-- ---- a path

pub path_shown : {E : Type 0} (r : Result (Unit {0}) E) (o : Overlay) (f : Format) (line : List ℕ) (path : List Word) (total : ℤ) (ps qs : List Piece) (old first second new : List ℕ)
    → ps ≡ f.bos → qs ≡ f.eos → total ≡ cost_over o path
    → (shown : List ℕ) × PrintsPieces (λ i text. text ≡ line_item line (pos 0) i) ps shown × (first ≡ old ++ shown)
    → (shown : List ℕ) × PrintsWords o f line 0 (pos 0) path shown × (second ≡ first ++ shown)
    → OnOk r ((shown : List ℕ) × PrintsPieces (λ i text. text ≡ line_item line total i) qs shown × (new ≡ second ++ shown))
    → OnOk r ((shown : List ℕ) × PrintsPath o f line path shown × (new ≡ old ++ shown))
path_shown (Err x) o f line path total ps qs old first second new before following costs a b h = tt
path_shown (Ok x) o f line path total ps qs old first second new before following costs (bos, a, one) (words, b, two) (eos, c, three) = (
  bos ++ (words ++ eos),
  record {
    bos = bos;
    words = words;
    eos = eos;
    before = subst (λ (pieces : List Piece). PrintsPieces (λ i text. text ≡ line_item line (pos 0) i) pieces bos) before a;
    of_words = b;
    following = subst (λ (z : ℤ). PrintsPieces (λ i text. text ≡ line_item line z i) f.eos eos) costs
        (subst (λ (pieces : List Piece). PrintsPieces (λ i text. text ≡ line_item line total i) pieces eos) following c);
    is = refl;
  },
  three ∙ ap (λ (xs : List ℕ). xs ++ eos) (two ∙ ap (λ (xs : List ℕ). xs ++ words) one ∙ append_assoc old bos words) ∙ append_assoc old (bos ++ words) eos
      ∙ ap (λ (xs : List ℕ). old ++ xs) (append_assoc bos words eos),
)
