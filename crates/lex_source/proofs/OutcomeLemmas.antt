-- The outcome of a line, from the spelling of its parts.
use Rattle.std.proofs.Common.{◌≡◌, ℕ, Bool, true, false, cond, ◌==◌, ◌&&◌, List, [], ◌∷◌, length, refl, sym, ◌∙◌, ap, subst, arith, Option, Some, None, ◌⊎◌, inl, inr}
use Rattle.std.specs.Prelude.{ℤ, pos, neg_ℤ, option_map, option_and_then, int_le, nat_abs}
use Rattle.std.proofs.lemmas.Bool.{cases_eq, cond-true, cond-false, ne_eqb}
use Rattle.std.specs.Str.{IsUtf8}
use Rattle.mj_model.specs.declared.source_fault.SourceKind.{SourceKind}
use Rattle.mj_model.specs.declared.source_fault.SourceKind.TheVariants.{Memory, TooFewFields, BadNumber}
use Rattle.mj_model.specs.Bytes.{quote}
use Rattle.mj_model.specs.Lines.{is_blank_line}
use Rattle.mj_model.specs.Fields.{with_doubled_quotes, AreFields, AreFirstFields}
use Rattle.mj_model.specs.Numbers.{number, context_id, cost}
use Rattle.mj_model.specs.Lexicon.{Row, Parts, Outcome, Skipped, Rejected, Accepted, IsOutcome, too_few, has_parts, row_from, lexicon_outcome, accept_short}
use Rattle.lex_source.specs.declared.parts.LineParts.{LineParts}
use Rattle.lex_source.specs.Spelled.{IsRawForm, HasFewFields, HasEntry}
use Rattle.lex_source.specs.Steps.{accept_any, row_outcome}
use Rattle.mj_model.proofs.FieldLemmas.{doubled_quote, doubled_other}
use Rattle.lex_source.proofs.NumberLemmas.{number_spelled}

pub id_spelled : (raw : List ℕ) (quoted : Bool) (field : List ℕ) → IsRawForm raw quoted field → context_id raw ≡ context_id field
id_spelled raw quoted field is =
    ap (λ (n : Option ℤ). option_map nat_abs (option_and_then (λ z. cond (int_le (pos 0) z && int_le z (pos 65535)) (Some z) None) n)) (number_spelled raw quoted field is)

pub cost_spelled : (raw : List ℕ) (quoted : Bool) (field : List ℕ) → IsRawForm raw quoted field → cost raw ≡ cost field
cost_spelled raw quoted field is =
    ap (λ (n : Option ℤ). option_and_then (λ z. cond (int_le (neg_ℤ (pos 32768)) z && int_le z (pos 32767)) (Some z) None) n) (number_spelled raw quoted field is)

-- a row from its numbers
row_of_numbers : ℕ → Parts → Option ℕ → Option ℕ → Option ℤ → Option Row
row_of_numbers line parts left right price =
    option_and_then (λ l. option_and_then (λ r. option_map (λ p.
    record { line = line; surface = parts.surface; left = l; right = r; cost = p; feature = parts.feature })
    price) right) left

-- the context id of a field is that of its bytes
pub id_read : (bytes raw : List ℕ) (quoted : Bool) (field : List ℕ) (found : Option ℕ) → IsRawForm raw quoted field → bytes ≡ raw → found ≡ context_id bytes → context_id field ≡ found
id_read bytes raw quoted field found is same e = sym (id_spelled raw quoted field is) ∙ ap context_id (sym same) ∙ sym e

pub cost_read : (bytes raw : List ℕ) (quoted : Bool) (field : List ℕ) (found : Option ℤ) → IsRawForm raw quoted field → bytes ≡ raw → found ≡ cost bytes → cost field ≡ found
cost_read bytes raw quoted field found is same e = sym (cost_spelled raw quoted field is) ∙ ap cost (sym same) ∙ sym e

row_is : (line : ℕ) (parts : Parts) (left right : Option ℕ) (price : Option ℤ) → context_id parts.left ≡ left → context_id parts.right ≡ right → cost parts.cost ≡ price
    → row_from line parts ≡ row_of_numbers line parts left right price
unfolding row_of_numbers
row_is line parts left right price l r p =
    ap (λ (o : Option ℕ). row_of_numbers line parts o (context_id parts.right) (cost parts.cost)) l
    ∙ ap (λ (o : Option ℕ). row_of_numbers line parts left o (cost parts.cost)) r ∙ ap (λ (o : Option ℤ). row_of_numbers line parts left right o) p

pub no_left_id : (line : ℕ) (parts : Parts) → context_id parts.left ≡ None → row_from line parts ≡ None
unfolding row_of_numbers
no_left_id line parts l = row_is line parts None (context_id parts.right) (cost parts.cost) l refl refl

pub no_right_id : (line : ℕ) (parts : Parts) (left : ℕ) → context_id parts.left ≡ Some left → context_id parts.right ≡ None → row_from line parts ≡ None
unfolding row_of_numbers
no_right_id line parts left l r = row_is line parts (Some left) None (cost parts.cost) l r refl

pub no_cost : (line : ℕ) (parts : Parts) (left right : ℕ) → context_id parts.left ≡ Some left → context_id parts.right ≡ Some right → cost parts.cost ≡ None → row_from line parts ≡ None
unfolding row_of_numbers
no_cost line parts left right l r p = row_is line parts (Some left) (Some right) None l r p

pub a_row : (line : ℕ) (parts : Parts) (left right : ℕ) (price : ℤ) → context_id parts.left ≡ Some left → context_id parts.right ≡ Some right → cost parts.cost ≡ Some price
    → row_from line parts ≡ Some (record { line = line; surface = parts.surface; left = left; right = right; cost = price; feature = parts.feature })
unfolding row_of_numbers
a_row line parts left right price l r p = row_is line parts (Some left) (Some right) (Some price) l r p

-- a field is empty if its bytes are
doubled_some : (c : ℕ) (cs : List ℕ) → (length (with_doubled_quotes (c ∷ cs)) == 0) ≡ false
doubled_some c cs = elim (cases_eq c quote) [
  | inl q ↦
      let e : length (with_doubled_quotes (c ∷ cs)) ≡ length (quote ∷ quote ∷ with_doubled_quotes cs) = ap (λ (xs : List ℕ). length xs) (doubled_quote c cs q) in
      ne_eqb (length (with_doubled_quotes (c ∷ cs))) 0 (λ h. omega arith)
  | inr n ↦
      let e : length (with_doubled_quotes (c ∷ cs)) ≡ length (c ∷ with_doubled_quotes cs) = ap (λ (xs : List ℕ). length xs) (doubled_other c cs n) in
      ne_eqb (length (with_doubled_quotes (c ∷ cs))) 0 (λ h. omega arith)
]

doubled_empty : (field : List ℕ) → (length (with_doubled_quotes field) == 0) ≡ (length field == 0)
doubled_empty [] = refl
doubled_empty (c ∷ cs) = doubled_some c cs ∙ sym (ne_eqb (length (c ∷ cs)) 0 (λ h. omega arith))

pub spelled_empty : (raw : List ℕ) (quoted : Bool) (field : List ℕ) → IsRawForm raw quoted field → (length raw == 0) ≡ (length field == 0)
spelled_empty raw true field is = ap (λ (xs : List ℕ). length xs == 0) is ∙ doubled_empty field
spelled_empty raw false field is = ap (λ (xs : List ℕ). length xs == 0) is

pub is_skipped_line : (line : ℕ) (parts : Parts) (raw : List ℕ) (quoted : Bool) → IsRawForm raw quoted parts.surface → (length raw == 0) ≡ true → lexicon_outcome line parts ≡ Skipped
is_skipped_line line parts raw quoted is empty =
    cond-true (length parts.surface == 0) Skipped (accept_short (row_from line parts)) (sym (spelled_empty raw quoted parts.surface is) ∙ empty)

pub is_tested_line : (line : ℕ) (parts : Parts) (raw : List ℕ) (quoted : Bool) → IsRawForm raw quoted parts.surface → (length raw == 0) ≡ false
    → lexicon_outcome line parts ≡ accept_short (row_from line parts)
is_tested_line line parts raw quoted is some =
    cond-false (length parts.surface == 0) Skipped (accept_short (row_from line parts)) (sym (spelled_empty raw quoted parts.surface is) ∙ some)

pub tested_error : (line : ℕ) (parts : Parts) (raw : List ℕ) (quoted : Bool) (kind : SourceKind) → IsRawForm raw quoted parts.surface → (length raw == 0) ≡ false
    → (kind ≡ Memory) ⊎ (accept_short (row_from line parts) ≡ Rejected kind) → (kind ≡ Memory) ⊎ (lexicon_outcome line parts ≡ Rejected kind)
tested_error line parts raw quoted kind is some (inl memory) = inl memory
tested_error line parts raw quoted kind is some (inr cause) = inr (is_tested_line line parts raw quoted is some ∙ cause)

-- ---- a line's outcome

pub few_outcome : (outcome_from : ℕ → Parts → Outcome) (number : ℕ) (line text : List ℕ) → is_blank_line line ≡ false → text ≡ line → IsUtf8 line → HasFewFields text → IsOutcome outcome_from number line (Rejected TooFewFields)
few_outcome outcome_from number line text some same utf8 few =
    too_few some utf8 few.0 (subst (λ (xs : List ℕ). AreFields xs few.0) same few.1) few.2

pub parts_outcome : (outcome_from : ℕ → Parts → Outcome) (number : ℕ) (line text : List ℕ) (parts : Parts) (o : Outcome) → is_blank_line line ≡ false → text ≡ line → IsUtf8 line
    → AreFirstFields text (parts.surface ∷ parts.left ∷ parts.right ∷ parts.cost ∷ []) parts.feature → outcome_from number parts ≡ o → IsOutcome outcome_from number line o
parts_outcome outcome_from number line text parts o some same utf8 first is =
    subst (λ (x : Outcome). IsOutcome outcome_from number line x) is
    (has_parts some utf8 parts (subst (λ (xs : List ℕ). AreFirstFields xs (parts.surface ∷ parts.left ∷ parts.right ∷ parts.cost ∷ []) parts.feature) same first))

pub parts_error : (outcome_from : ℕ → Parts → Outcome) (number : ℕ) (line text : List ℕ) (parts : Parts) (kind : SourceKind) → is_blank_line line ≡ false → text ≡ line → IsUtf8 line
    → AreFirstFields text (parts.surface ∷ parts.left ∷ parts.right ∷ parts.cost ∷ []) parts.feature → (kind ≡ Memory) ⊎ (outcome_from number parts ≡ Rejected kind)
    → (kind ≡ Memory) ⊎ IsOutcome outcome_from number line (Rejected kind)
parts_error outcome_from number line text parts kind some same utf8 first (inl memory) = inl memory
parts_error outcome_from number line text parts kind some same utf8 first (inr cause) = inr (parts_outcome outcome_from number line text parts (Rejected kind) some same utf8 first cause)

-- the outcome of a line if every row is accepted
pub row_accepted : (number : ℕ) (line : List ℕ) (raw : LineParts) (row : Row) (entry : HasEntry line raw) → row_from number entry.has.parts ≡ Some row → IsOutcome row_outcome number line (Accepted row)
row_accepted number line raw row entry is =
    parts_outcome row_outcome number line line entry.has.parts (Accepted row) entry.filled refl entry.utf8 entry.has.first (ap accept_any is)

pub row_rejected : (number : ℕ) (line : List ℕ) (raw : LineParts) (kind : SourceKind) (entry : HasEntry line raw) → (kind ≡ Memory) ⊎ ((kind ≡ BadNumber) × (row_from number entry.has.parts ≡ None))
    → (kind ≡ Memory) ⊎ IsOutcome row_outcome number line (Rejected kind)
row_rejected number line raw kind entry (inl memory) = inl memory
row_rejected number line raw kind entry (inr cause) =
    inr (parts_outcome row_outcome number line line entry.has.parts (Rejected kind) entry.filled refl entry.utf8 entry.has.first (ap accept_any cause.1 ∙ sym (ap Rejected cause.0)))
