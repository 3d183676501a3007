use Rattle.std.proofs.Common.{◌≡◌, ◌+◌, ℕ, List, ◌++◌, length, ap, sym, ◌∙◌, rules, arith, subst}
use Rattle.std.proofs.lemmas.Int.{to_z-of_z}
use mir.Syntax.{w32}
use mir.Val.{SFits}
use Rattle.image_writer.specs.TokenBytes.{cell_bytes_of}
use Rattle.image_writer.specs.Written.{HoldsCells}
use Rattle.image_writer.proofs.CellLemmas.{cells_more, all_cells}
use Rattle.image_writer.proofs.cell_bytes.write_cells.Goals as goal

pub loop-i-preserved : goal.loop-i-preserved
loop-i-preserved c =
    let b = c.cell-base.result.0 in
    let k = c.cell-base.result.1 in
    let base : SFits w32 b = search rules in
    let check : SFits w32 k = search rules in
    let same_base = to_z-of_z w32 b base in
    let same_check = to_z-of_z w32 k check in
    let written =
    c.in_ok-extend_from_slice.ensures.items
    ∙ ap (λ (bytes : List ℕ). c.loop-i.bytes.items ++ bytes) (c.cell_bytes.ensures ∙ (λ j. cell_bytes_of (same_base j, same_check j))) in
    subst (HoldsCells c.args.array.now (c.loop-i.i + 1)) (sym written)
    (cells_more c.args.array.now c.loop-i.i c.loop-i.bytes.items b k c.loop-i.invariant c.cell-base.ensures base check)

pub returns-clause-cells : goal.returns-clause-cells
returns-clause-cells c =
    let past = c.loop-i-test.false in
    let all : c.loop-i.i ≡ length c.args.array.now = omega arith in
    all_cells c.args.array.now c.loop-i.bytes.items (subst (λ (n : ℕ). HoldsCells c.args.array.now n c.loop-i.bytes.items) all c.loop-i.invariant)
