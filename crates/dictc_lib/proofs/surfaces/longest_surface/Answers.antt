use Rattle.std.proofs.Common.{arith}
use Rattle.std.proofs.lemmas.Result.{err_from_is_err_and}
use Rattle.dictc_lib.proofs.SurfaceLemmas.{first_fault, longest_with}
use Rattle.dictc_lib.proofs.surfaces.longest_surface.Goals as goal

pub loop-number-preserved : goal.loop-number-preserved
loop-number-preserved c =
    let was = c.loop-number.invariant.file in
    let next = c.saturating_add-file.ensures in
    record {
      longest =
          longest_with c.args.lexicons.now c.loop-number.number _ c.loop-number.longest c.in_ok-found.found c.longer_of-longest.result c.loop-number-test.true
          c.loop-number.invariant.longest c.in_ok-found.ensures.longest c.longer_of-longest.ensures;
      file = omega (arith, was, next);
    }

pub returns-in_err-found-clause-rejected : goal.returns-in_err-found-clause-rejected
returns-in_err-found-clause-rejected c =
    let p = err_from_is_err_and c.from_residual.result c.from_residual.ensures.1 in
    rw (p.1, p.2)
    (first_fault c.args.lexicons.now c.loop-number.number c.loop-number.file _ c.in_err-found.field-0.0 c.loop-number.longest c.loop-number-test.true
    c.loop-number.invariant.file c.loop-number.invariant.longest c.in_err-found.ensures.rejected)
