use Rattle.std.proofs.Common.{ℕ, Some, arith, ap, sym, ◌∙◌}
use Rattle.mj_model.specs.Hits.{hits_from}
use Rattle.mj_model.proofs.CellWalks.{walk_none}
use Rattle.mj_model.proofs.HitLemmas.{all_hits}
use Rattle.mj_model.proofs.ReadLemmas.{reads_of_none}
use Rattle.mj_model.proofs.cell_walk.walk.start_walk.Goals as goal

pub returns-clause-hits : goal.returns-clause-hits
returns-clause-hits g c =
    let cells = g.C.CellRead.cells c.args.cells.now in
    ap (λ (s : ℕ). hits_from cells s 0 c.args.text.now) c.root-place.ensures.root ∙ all_hits cells c.args.text.now

pub returns-clause-walking : goal.returns-clause-walking
returns-clause-walking g c =
    let cells = g.C.CellRead.cells c.args.cells.now in
    let root = c.root-place.ensures in
    record {
      are = c.requires;
      within = omega arith;
      place = root.base;
      led = walk_none cells 0 ∙ ap Some (sym root.root);
      reads = let e = reads_of_none cells c.args.text.now in let f = root.reads in omega (arith, e, f);
    }
