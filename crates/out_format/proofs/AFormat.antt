-- Four texts parse as a format, or have a first error.
use Rattle.std.proofs.Common.{◌≡◌, ℕ, zero, suc, ◌-◌, ◌<◌, ◌≤◌, List, [], ◌∷◌, ◌++◌, length, take, drop, refl, sym, ap, subst, arith, Option, Some, None, inl, inr, ◌⊎◌}
use Rattle.std.specs.Prelude.{Result, Ok, Err, nat_le}
use Rattle.std.proofs.lemmas.Bool.{cases_Bool, cases_eq, cases_lt, cond-true, cond-false}
use Rattle.std.proofs.lemmas.List.Folds.{Any-from_list_any}
use Rattle.std.proofs.lemmas.List.Sums.{prefix_len-le-length}
use Rattle.std.specs.List.{list_any}
use Rattle.mj_model.proofs.Basics.{same_head, no_head}
use Rattle.std.specs.Char.{is_ascii_digit}
use Rattle.mj_model.specs.declared.format_item.FormatItem.{FormatItem}
use Rattle.mj_model.specs.declared.format_item.FormatItem.TheVariants as item
use Rattle.mj_model.specs.declared.format_fault.FormatPart.{FormatPart}
use Rattle.mj_model.specs.declared.format_fault.FormatPart.TheVariants.{Node, Unk, Bos, Eos}
use Rattle.mj_model.specs.declared.format_fault.FormatKind.{FormatKind}
use Rattle.mj_model.specs.declared.format_fault.FormatKind.TheVariants.{BadEscape}
use Rattle.mj_model.specs.declared.format_fault.FormatFault.{FormatFault}
use Rattle.mj_model.specs.declared.format_fault.FormatFault.TheVariants as fault
use Rattle.out_format.specs.Formats.{Piece, Byte, ItemPiece, byte_of_escape, bad_item, includes, StartsWithPiece, Reads, IsBadAt, Format, FormatTexts, part_text, IsFormat, HasOneFormat}
use Rattle.mj_model.specs.Numbers.{digits_value}
use Rattle.out_format.specs.FirstItems.{HasIndex, HasNoIndex, HasNoField, HasNoItem, HasNoPiece}
use Rattle.out_format.specs.declared.items.AllowedIn.TheVariants.{Words}
use Rattle.out_format.specs.declared.items.TheConstants.{ITEMS}
use Rattle.out_format.proofs.IndexLemmas.{digits_before, has_index, no_bracket, no_text, too_few, too_many, at_end, not_closed, too_great}
use Rattle.out_format.proofs.ItemLemmas.{fits, begins_listed, begins_field, no_field_of, no_field, no_index, no_item}
use Rattle.out_format.proofs.PieceLemmas.{begins_byte, begins_escape, stuck_at_end, stuck_at_escape, stuck_at_item, IsReadUpTo, read_more, read_whole, bad_at, rest_shorter}
use Rattle.out_format.proofs.OneFormat.{at_most_one_format}

-- ---- an index

abbrev AnIndex : List ℕ → Type 0
AnIndex text = ((n : ℕ) × (rest : List ℕ) × HasIndex text n rest) ⊎ HasNoIndex text

closed_index : (cs sub : List ℕ) → sub ≡ drop (digits_before cs) cs → (digits_before cs ≡ 0 → ⊥) → digits_before cs ≤ 5 → AnIndex (91 ∷ cs)
closed_index cs [] following some few = inr (at_end cs [] (digits_before cs) refl following refl)
closed_index cs (d ∷ more) following some few = elim (cases_eq d 93) [
  | inl is ↦
      let value = digits_value (take (digits_before cs) cs) in
      elim (cases_Bool (nat_le value 65535)) [
        | inl fits ↦ inl (
          value,
          more,
          has_index cs (d ∷ more) more (digits_before cs) value refl (prefix_len-le-length is_ascii_digit cs) some few following (ap (λ (k : ℕ). k ∷ more) is)
              (sym (cond-true (nat_le value 65535) (Some value) None fits)),
        )
        | inr great ↦ inr (too_great cs (digits_before cs) refl (sym (cond-false (nat_le value 65535) (Some value) None great)))
      ]
  | inr other ↦ inr (not_closed cs (d ∷ more) more (digits_before cs) d refl following refl other)
]

inside_index : (cs : List ℕ) → AnIndex (91 ∷ cs)
inside_index cs = elim (cases_eq (digits_before cs) 0) [
  | inl none ↦ inr (too_few cs (digits_before cs) refl none)
  | inr some ↦ elim (cases_lt 5 (digits_before cs)) [
    | inl many ↦ inr (too_many cs (digits_before cs) refl many)
    | inr few ↦ closed_index cs (drop (digits_before cs) cs) refl some few
  ]
]

an_index : (text : List ℕ) → AnIndex text
an_index [] = inr no_text
an_index (c ∷ cs) = elim (cases_eq c 91) [
  | inl is ↦ subst (λ (k : ℕ). AnIndex (k ∷ cs)) (sym is) (inside_index cs)
  | inr other ↦ inr (no_bracket c cs other)
]

-- ---- an item

abbrev AField : FormatPart → List ℕ → Type 0
AField part following = ((n : ℕ) × (rest : List ℕ) × StartsWithPiece part (ItemPiece (item.Field n)) (37 ∷ following) rest) ⊎ HasNoField part (37 ∷ following)

a_field : (part : FormatPart) (following : List ℕ) → AField part following
a_field part [] = inr (no_field part [] (λ inside e. absurd (no_head 102 inside e)))
a_field part (c ∷ cs) = elim (cases_eq c 102) [
  | inr other ↦ inr (no_field part (c ∷ cs) (λ inside e. absurd (other (same_head c 102 cs inside e))))
  | inl is ↦ subst (λ (k : ℕ). AField part (k ∷ cs)) (sym is) (elim (cases_Bool (includes Words part)) [
    | inr may_not ↦ inr (no_field_of part (37 ∷ 102 ∷ cs) may_not)
    | inl may ↦ elim (an_index cs) [
      | inl (n, rest, has) ↦ inl (n, rest, begins_field part cs rest n may has)
      | inr none ↦ inr (no_index part cs none)
    ]
  ])
]

abbrev AnItem : FormatPart → List ℕ → Type 0
AnItem part following = ((i : FormatItem) × (rest : List ℕ) × StartsWithPiece part (ItemPiece i) (37 ∷ following) rest) ⊎ HasNoItem part (37 ∷ following)

an_item : (part : FormatPart) (following : List ℕ) → AnItem part following
an_item part following = elim (cases_Bool (list_any (fits part following) ITEMS)) [
  | inl some ↦
      let found = Any-from_list_any (fits part following) ITEMS some in
      let row = found.1 in
      inl (row.1, drop (length row.0.now) following, begins_listed part following row (found.0, found.2, found.3) found.4)
  | inr none ↦ elim (a_field part following) [
    | inl (n, rest, h) ↦ inl (item.Field n, rest, h)
    | inr no_one ↦ inr (no_item part following none no_one)
  ]
]

-- ---- a piece

abbrev APiece : FormatPart → List ℕ → Type 0
APiece part text = ((piece : Piece) × (rest : List ℕ) × StartsWithPiece part piece text rest) ⊎ ((kind : FormatKind) × HasNoPiece part text kind)

escape_by : (part : FormatPart) (c : ℕ) (cs : List ℕ) (found : Option ℕ) → byte_of_escape c ≡ found → APiece part (92 ∷ c ∷ cs)
escape_by part c cs None e = inr (BadEscape, stuck_at_escape part c cs e)
escape_by part c cs (Some b) e = inl (Byte b, cs, begins_escape part c b cs e)

an_escape : (part : FormatPart) (text : List ℕ) → APiece part (92 ∷ text)
an_escape part [] = inr (BadEscape, stuck_at_end part)
an_escape part (c ∷ cs) = escape_by part c cs (byte_of_escape c) refl

item_of_part : (part : FormatPart) (following : List ℕ) → APiece part (37 ∷ following)
item_of_part part following = elim (an_item part following) [
  | inl (i, rest, h) ↦ inl (ItemPiece i, rest, h)
  | inr none ↦ inr (bad_item part following, stuck_at_item part following (bad_item part following) none refl)
]

a_piece : (part : FormatPart) (c : ℕ) (cs : List ℕ) → APiece part (c ∷ cs)
a_piece part c cs = elim (cases_eq c 92) [
  | inl is ↦ subst (λ (k : ℕ). APiece part (k ∷ cs)) (sym is) (an_escape part cs)
  | inr not_escape ↦ elim (cases_eq c 37) [
    | inl is ↦ subst (λ (k : ℕ). APiece part (k ∷ cs)) (sym is) (item_of_part part cs)
    | inr not_item ↦ inl (Byte c, cs, begins_byte part c cs not_item not_escape)
  ]
]

-- ---- a text

abbrev IsDecided : FormatPart → List ℕ → Type 0
IsDecided part text = ((pieces : List Piece) × Reads part pieces text) ⊎ ((at : ℕ) × (kind : FormatKind) × IsBadAt part text at kind)

read_on : (n : ℕ) (part : FormatPart) (text : List ℕ) (pieces : List Piece) (rest : List ℕ) → length rest ≤ n → IsReadUpTo part pieces text rest → IsDecided part text
read_on n part text pieces [] short so_far = inl (pieces, read_whole part pieces text [] so_far refl)
read_on zero part text pieces (c ∷ cs) short so_far = absurd (omega arith)
read_on (suc n) part text pieces (c ∷ cs) short so_far = elim (a_piece part c cs) [
  | inl (piece, next, h) ↦
      let less : length next < length (c ∷ cs) = rest_shorter part piece (c ∷ cs) next h in
      read_on n part text (pieces ++ piece ∷ []) next (omega (arith, less, short)) (read_more part pieces (pieces ++ piece ∷ []) piece text (c ∷ cs) next so_far h refl)
  | inr (kind, stuck) ↦
      inr (length text - length (c ∷ cs), kind, bad_at part pieces text (c ∷ cs) (length text - length (c ∷ cs)) kind so_far refl (omega arith) stuck)
]

decided : (part : FormatPart) (text : List ℕ) → IsDecided part text
decided part text = read_on (length text) part text [] text (omega arith) (record { done = []; is = refl; reads = refl })

a_format : (texts : FormatTexts) → (read : Result Format FormatFault) × IsFormat texts read
a_format texts = elim (decided Node (part_text texts Node)) [
  | inr (at, kind, bad) ↦ (Err (fault.Bad Node at kind), (tt, bad))
  | inl (node, reads_node) ↦ elim (decided Unk (part_text texts Unk)) [
    | inr (at, kind, bad) ↦ (Err (fault.Bad Unk at kind), ((node, reads_node), bad))
    | inl (unk, reads_unk) ↦ elim (decided Bos (part_text texts Bos)) [
      | inr (at, kind, bad) ↦ (Err (fault.Bad Bos at kind), (((node, reads_node), (unk, reads_unk)), bad))
      | inl (bos, reads_bos) ↦ elim (decided Eos (part_text texts Eos)) [
        | inr (at, kind, bad) ↦ (Err (fault.Bad Eos at kind), (((node, reads_node), (unk, reads_unk), (bos, reads_bos)), bad))
        | inl (eos, reads_eos) ↦ (Ok (record { node = node; unk = unk; bos = bos; eos = eos }), record { node = reads_node; unk = reads_unk; bos = reads_bos; eos = reads_eos })
      ]
    ]
  ]
]

pub one_format : HasOneFormat
one_format texts = let read = a_format texts in (read.0, read.1, λ other h. at_most_one_format texts read.0 other read.1 h)
