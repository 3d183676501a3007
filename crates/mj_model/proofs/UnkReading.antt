-- An `unk.def` has exactly one reading, whatever the sizes and the categories.
use Rattle.std.proofs.Common.{◌≡◌, ℕ, List, refl, sym, ap, ◌∙◌}
use Rattle.std.specs.Prelude.{Result}
use Rattle.mj_model.specs.declared.matrix_sizes.MatrixSizes.{MatrixSizes}
use Rattle.mj_model.specs.declared.source_fault.SourceFault.{SourceFault}
use Rattle.mj_model.specs.declared.source_fault.TheConstants.{UNK_FILE}
use Rattle.mj_model.specs.CharDef.{NamedCategory}
use Rattle.mj_model.specs.Lexicon.{Row}
use Rattle.mj_model.specs.UnkDef.{HasOneUnkDef, IsUnkWithin, unk_outcome, unknown_within}
use Rattle.mj_model.proofs.ReadingLemmas.{a_reading, readings_are_one}

pub unk_is_one : (sizes : MatrixSizes) (categories : List NamedCategory) (bytes : List ℕ) (unknown other : Result (List (List Row)) SourceFault) → IsUnkWithin sizes categories bytes unknown → IsUnkWithin sizes categories bytes other → other ≡ unknown
unk_is_one sizes categories bytes unknown other h k =
    k.2 ∙ ap (unknown_within sizes categories) (readings_are_one (unk_outcome categories) UNK_FILE 0 bytes h.0 k.0 h.1 k.1) ∙ sym h.2

pub one_unk_def : HasOneUnkDef
one_unk_def sizes categories bytes =
    let reading = a_reading (unk_outcome categories) UNK_FILE 0 bytes in
    let unknown = unknown_within sizes categories reading.0 in
    let read : IsUnkWithin sizes categories bytes unknown = (reading.0, reading.1, refl) in
    (unknown, read, λ other h. unk_is_one sizes categories bytes unknown other read h)
