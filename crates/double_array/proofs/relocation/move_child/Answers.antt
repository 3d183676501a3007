use Rattle.std.proofs.Common.{rules, arith, ◌≡◌, ℤ, set, pos, ap, subst, ◌∙◌, w32, to_z, of_z}
use mir.Val.{SFits}
use Rattle.std.proofs.lemmas.Int.{to_z-of_z}
use Rattle.std.proofs.lemmas.Option.{get_or_from_slice_get}
use Rattle.mj_model.specs.CellMap.{Cell, free_cell, base}
use Rattle.mj_model.proofs.CellWalks.{named_within}
use Rattle.double_array.specs.Moves.{AreChildrenRenamed}
use Rattle.double_array.proofs.Moving.{child_moved_by}
use Rattle.double_array.proofs.relocation.move_child.Goals as goal

pub returns-clause-moved : goal.returns-clause-moved
returns-clause-moved c =
    let old = c.args.pool.now.cells in
    let z = c.cell-base.result.0 in
    let fits : SFits w32 z = search rules in
    let z_is : to_z w32 (of_z w32 z) ≡ z = to_z-of_z w32 z fits in
    let at : base old c.args.old ≡ z = ap (λ (x : Cell). x.0) (get_or_from_slice_get old c.args.old c.cell-base.result free_cell c.cell-base.ensures) in
    let filled = c.take_free_cell.ensures.cells ∙ ap (λ (b : ℤ). set old c.args.new (b, pos c.args.state)) z_is in
    let renamed = subst (λ (b : ℤ). AreChildrenRenamed b c.take_free_cell.new.self.cells c.rename_children.new.pool.cells c.args.old c.args.new) z_is c.rename_children.ensures.renamed in
    child_moved_by old c.take_free_cell.new.self.cells c.rename_children.new.pool.cells c.release_cell.new.self.cells c.args.state c.args.old c.args.new z at filled renamed c.requires.window c.release_cell.ensures.cells
    c.requires.free (omega (arith, c.requires.room)) c.requires.child (named_within old c.args.old c.args.state c.requires.child) c.requires.no_self
