use Rattle.std.proofs.Common.{rules, arith, ◌≡◌, ℕ, ◌+◌, below_more, w32}
use mir.Val.{SFits}
use Rattle.std.proofs.lemmas.Option.{slice_get_within}
use Rattle.mj_model.specs.CellMap.{free_cell, cell_at}
use Rattle.double_array.specs.Views.{cell_views}
use Rattle.double_array.specs.Family.{HasCode}
use Rattle.double_array.proofs.PoolLemmas.{free_by_check, no_code}
use Rattle.double_array.proofs.search.fits.Goals as goal
use Rattle.double_array.proofs.search.fits.Goals.{else-member-via-then-member+else-get-ge0, else-member-via-else-member}

pub overflow_add-base : goal.overflow_add-base
overflow_add-base c = omega (arith, c.requires.within, c.requires.few, c.requires.codes)

pub loop-code-preserved : goal.loop-code-preserved
loop-code-preserved c =
    below_more (λ (k : ℕ). HasCode c.args.family.now k → cell_at (cell_views c.args.cells.now) (c.args.base + k) ≡ free_cell) c.loop-code.code c.loop-code.invariant
    (elim c.else-member.branch [
      | else-member-via-then-member+else-get-ge0 w ↦ λ has.
          let fits : SFits w32 w.get.result.1 = search rules in
          free_by_check c.args.cells.now (c.args.base + c.loop-code.code) w.get.result w.get.ensures (omega (arith, c.requires.above)) w.if-get-ge0.false fits
      | else-member-via-else-member w ↦ λ has. absurd (no_code c.args.family.now c.loop-code.code w.if-member.false has)
    ])

pub returns : goal.returns
returns c = λ yes_all code has. c.loop-code.invariant code (let w = slice_get_within c.args.family.now code _ has in omega (arith, w)) has
