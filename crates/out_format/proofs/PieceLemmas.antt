-- Pieces at the start of a part's text, and a text parsed piece by piece.
use Rattle.std.proofs.Common.{◌≡◌, ℕ, ◌+◌, ◌-◌, ◌<◌, List, [], ◌∷◌, ◌++◌, length, take, drop, refl, sym, ◌∙◌, ap, subst, arith, Result, Ok, Err, Option, Some, None, inl, inr, ◌⊎◌, append_assoc, append-nil}
use Rattle.std.proofs.lemmas.List.{take_at, drop_at, length-append}
use Rattle.mj_model.specs.declared.format_item.FormatItem.{FormatItem}
use Rattle.mj_model.specs.declared.format_fault.FormatPart.{FormatPart}
use Rattle.mj_model.specs.declared.format_fault.FormatKind.{FormatKind}
use Rattle.mj_model.specs.declared.format_fault.FormatKind.TheVariants.{BadEscape}
use Rattle.mj_model.specs.declared.format_fault.FormatFault.{FormatFault}
use Rattle.mj_model.specs.declared.format_fault.FormatFault.TheVariants as fault
use Rattle.std.specs.Result.{MatchResult}
use Rattle.out_format.specs.declared.first_piece.FirstPiece.{FirstPiece}
use Rattle.out_format.specs.Results.{IsFirstPiece}
use Rattle.out_format.specs.Pieces.{piece_of}
use Rattle.mj_model.proofs.Basics.{same_head, same_tail, no_head}
use Rattle.out_format.specs.Formats.{Piece, Byte, ItemPiece, Spells, SpellsItem, byte_of_escape, StartsWithPiece, Reads, IsBadAt, bad_kind, bad_item}
use Rattle.out_format.specs.FirstItems.{HasNoItem, HasNoPiece, IsFaultOf}
use Rattle.out_format.proofs.ItemLemmas.{percent_first}

none_some : (x : ℕ) → None ≡ Some x → ⊥
none_some x e = cc

-- ---- the pieces at the start of a text

pub begins_byte : (part : FormatPart) (b : ℕ) (rest : List ℕ) → (b ≡ 37 → ⊥) → (b ≡ 92 → ⊥) → StartsWithPiece part (Byte b) (b ∷ rest) rest
begins_byte part b rest not_item not_escape = record { front = b ∷ []; spelled = inl (refl, not_item, not_escape); is = refl }

pub begins_escape : (part : FormatPart) (c b : ℕ) (rest : List ℕ) → byte_of_escape c ≡ Some b → StartsWithPiece part (Byte b) (92 ∷ c ∷ rest) rest
begins_escape part c b rest e = record { front = 92 ∷ c ∷ []; spelled = inr (c, e, refl); is = refl }

-- ---- no piece starts a text

numbers_apart : ◌≡◌ {A = ℕ} 92 37 → ⊥
numbers_apart e = omega arith

item_no_escape : (part : FormatPart) (i : FormatItem) (following front rest : List ℕ) → SpellsItem part i front → 92 ∷ following ≡ front ++ rest → ⊥
item_no_escape part i following front rest h is =
    let p = percent_first part i front h in
    numbers_apart (same_head 92 37 following (p.0 ++ rest) (is ∙ ap (λ (xs : List ℕ). xs ++ rest) p.1))

-- the spelling of a byte, for any table of escapes
abbrev pub SpelledBy : (ℕ → Option ℕ) → ℕ → List ℕ → Type 0
SpelledBy table b front = ((front ≡ b ∷ []) × (b ≡ 37 → ⊥) × (b ≡ 92 → ⊥)) ⊎ ((c : ℕ) × (table c ≡ Some b) × (front ≡ 92 ∷ c ∷ []))

byte_no_escape : (table : ℕ → Option ℕ) (b : ℕ) (following front rest : List ℕ) → SpelledBy table b front → 92 ∷ following ≡ front ++ rest
    → ((c : ℕ) (more : List ℕ) → following ≡ c ∷ more → table c ≡ Some b → ⊥) → ⊥
byte_no_escape table b following front rest (inl plain) is none = plain.2 (sym (same_head 92 b following rest (is ∙ ap (λ (xs : List ℕ). xs ++ rest) plain.0)))
byte_no_escape table b following front rest (inr (c, e, spelled)) is none = none c rest (same_tail 92 92 following (c ∷ rest) (is ∙ ap (λ (xs : List ℕ). xs ++ rest) spelled)) e

pub byte_no_item : (table : ℕ → Option ℕ) (b : ℕ) (following front rest : List ℕ) → SpelledBy table b front → 37 ∷ following ≡ front ++ rest → ⊥
byte_no_item table b following front rest (inl plain) is = plain.1 (sym (same_head 37 b following rest (is ∙ ap (λ (xs : List ℕ). xs ++ rest) plain.0)))
byte_no_item table b following front rest (inr (c, e, spelled)) is = numbers_apart (sym (same_head 37 92 following (c ∷ rest) (is ∙ ap (λ (xs : List ℕ). xs ++ rest) spelled)))

byte_some : (table : ℕ → Option ℕ) (b : ℕ) (front : List ℕ) → SpelledBy table b front → 0 < length front
byte_some table b front (inl plain) = let e : length front ≡ length (b ∷ []) = ap length plain.0 in omega (arith, e)
byte_some table b front (inr (c, e, spelled)) = let long : length front ≡ length (92 ∷ c ∷ []) = ap length spelled in omega (arith, long)

no_escape_by : (part : FormatPart) (following : List ℕ) → ((c b : ℕ) (rest : List ℕ) → following ≡ c ∷ rest → byte_of_escape c ≡ Some b → ⊥)
    → (piece : Piece) (rest : List ℕ) → StartsWithPiece part piece (92 ∷ following) rest → ⊥
no_escape_by part following none (ItemPiece i) rest h = item_no_escape part i following h.front rest h.spelled h.is
no_escape_by part following none (Byte b) rest h = byte_no_escape byte_of_escape b following h.front rest h.spelled h.is (λ c more e found. none c b more e found)

pub stuck_at_end : (part : FormatPart) → HasNoPiece part (92 ∷ []) BadEscape
stuck_at_end part = record { stuck = no_escape_by part [] (λ c b rest e found. no_head c rest e); is_kind = refl }

pub stuck_at_escape : (part : FormatPart) (c : ℕ) (rest : List ℕ) → byte_of_escape c ≡ None → HasNoPiece part (92 ∷ c ∷ rest) BadEscape
stuck_at_escape part c rest none = record {
  stuck = no_escape_by part (c ∷ rest) (λ d b more e found. none_some b (sym none ∙ ap byte_of_escape (same_head c d rest more e) ∙ found));
  is_kind = refl;
}

no_piece : (part : FormatPart) (following : List ℕ) → HasNoItem part (37 ∷ following) → (piece : Piece) (rest : List ℕ) → StartsWithPiece part piece (37 ∷ following) rest → ⊥
no_piece part following none (ItemPiece i) rest h = none i rest h
no_piece part following none (Byte b) rest h = byte_no_item byte_of_escape b following h.front rest h.spelled h.is

pub stuck_at_item : (part : FormatPart) (following : List ℕ) (kind : FormatKind) → HasNoItem part (37 ∷ following) → kind ≡ bad_item part following → HasNoPiece part (37 ∷ following) kind
stuck_at_item part following kind none is = record { stuck = no_piece part following none; is_kind = is }

-- ---- a text read piece by piece

pub reads_more : (part : FormatPart) (pieces : List Piece) (done : List ℕ) (piece : Piece) (text rest : List ℕ) → Reads part pieces done → (h : StartsWithPiece part piece text rest) → Reads part (pieces ++ piece ∷ []) (done ++ h.front)
reads_more part [] done piece text rest is h =
    ([], record { front = h.front; spelled = h.spelled; is = ap (λ (xs : List ℕ). xs ++ h.front) is ∙ sym (append-nil h.front) }, refl)
reads_more part (p ∷ ps) done piece text rest (more, first, is) h =
    (more ++ h.front, record { front = first.front; spelled = first.spelled; is = ap (λ (xs : List ℕ). xs ++ h.front) first.is ∙ append_assoc first.front more h.front }, reads_more part ps more piece text rest is h)

-- the text up to here reads as these pieces
pub record IsReadUpTo (part : FormatPart) (pieces : List Piece) (text rest : List ℕ) : Type 0 where
  pub done : List ℕ
  pub is : text ≡ done ++ rest
  pub reads : Reads part pieces done

pub read_more : (part : FormatPart) (pieces after : List Piece) (piece : Piece) (text rest next : List ℕ) → IsReadUpTo part pieces text rest → StartsWithPiece part piece rest next → after ≡ pieces ++ piece ∷ []
    → IsReadUpTo part after text next
read_more part pieces after piece text rest next so_far h pushed = record {
  done = so_far.done ++ h.front;
  is = so_far.is ∙ ap (λ (xs : List ℕ). so_far.done ++ xs) h.is ∙ sym (append_assoc so_far.done h.front next);
  reads = subst (λ (ps : List Piece). Reads part ps (so_far.done ++ h.front)) (sym pushed) (reads_more part pieces so_far.done piece rest next so_far.reads h);
}

pub read_whole : (part : FormatPart) (pieces : List Piece) (text rest : List ℕ) → IsReadUpTo part pieces text rest → length rest ≡ 0 → Reads part pieces text
read_whole part pieces text [] so_far none = subst (Reads part pieces) (sym (so_far.is ∙ append-nil so_far.done)) so_far.reads
read_whole part pieces text (c ∷ cs) so_far none = absurd (omega arith)

pub bad_at : (part : FormatPart) (pieces : List Piece) (text rest : List ℕ) (at : ℕ) (kind : FormatKind) → IsReadUpTo part pieces text rest → at ≡ length text - length rest → 0 < length rest → HasNoPiece part rest kind
    → IsBadAt part text at kind
bad_at part pieces text rest at kind so_far is some stuck =
    let long : length text ≡ length so_far.done + length rest = ap length so_far.is ∙ length-append so_far.done rest in
    let count : length so_far.done ≡ at = omega (arith, long, is) in
    let before : take at text ≡ so_far.done = ap (take at) so_far.is ∙ take_at so_far.done rest at count in
    let following : drop at text ≡ rest = ap (drop at) so_far.is ∙ drop_at so_far.done rest at count in
    record {
      pieces = pieces;
      before = subst (Reads part pieces) (sym before) so_far.reads;
      within = omega (arith, long, count, some);
      stuck = λ piece more h. stuck.stuck piece more (subst (λ (xs : List ℕ). StartsWithPiece part piece xs more) following h);
      is_kind = stuck.is_kind ∙ ap (bad_kind part) (sym following);
    }

spelled_some : (part : FormatPart) (piece : Piece) (front : List ℕ) → Spells part piece front → 0 < length front
spelled_some part (ItemPiece i) front h = let p = percent_first part i front h in let e : length front ≡ length (37 ∷ p.0) = ap length p.1 in omega (arith, e)
spelled_some part (Byte b) front h = byte_some byte_of_escape b front h

pub rest_shorter : (part : FormatPart) (piece : Piece) (text rest : List ℕ) → StartsWithPiece part piece text rest → length rest < length text
rest_shorter part piece text rest h =
    let some = spelled_some part piece h.front h.spelled in
    let long = ap length h.is in
    omega (arith, some, long, length-append h.front rest)

-- ---- the first piece, or the error if there is none

pub piece_there : (part : FormatPart) (text : List ℕ) (first : Result FirstPiece FormatKind) (found : FirstPiece) → IsFirstPiece part text first
    → MatchResult first (λ piece. ◌≡◌ {A = Result FirstPiece FormatFault} (Ok found) (Ok piece)) (λ kind. ⊥) → StartsWithPiece part (piece_of found.piece) text found.rest.now
piece_there part text (Ok piece) found begins is = let same : piece ≡ found = cc in subst (λ (p : FirstPiece). StartsWithPiece part (piece_of p.piece) text p.rest.now) same begins
piece_there part text (Err kind) found stuck is = absurd is

pub fault_there : (part : FormatPart) (pieces : List Piece) (text rest : List ℕ) (at : ℕ) (first : Result FirstPiece FormatKind) (found : FormatFault) → IsReadUpTo part pieces text rest
    → at ≡ length text - length rest → 0 < length rest → IsFirstPiece part rest first
    → MatchResult first (λ piece. ◌≡◌ {A = Result FirstPiece FormatFault} (Err found) (Ok piece)) (λ kind. found ≡ fault.Bad part at kind) → IsFaultOf part text found
fault_there part pieces text rest at (Ok piece) found so_far is some begins reported = absurd (cc)
fault_there part pieces text rest at (Err kind) found so_far is some stuck reported =
    subst (IsFaultOf part text) (sym reported) (refl, bad_at part pieces text rest at kind so_far is some stuck)
