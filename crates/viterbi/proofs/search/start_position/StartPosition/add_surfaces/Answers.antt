use Rattle.std.proofs.Common.{arith, ◌≡◌, ℕ, ◌+◌, ◌-◌, subst}
use Rattle.viterbi.specs.Search.Interchangeable.{EndsWithAny}
use Rattle.viterbi.specs.Search.StartPositions.{AreKeptFrom}
use Rattle.viterbi.proofs.KeptWords.{lattice_goes_on}
use Rattle.viterbi.proofs.search.start_position.StartPosition.add_surfaces.Goals as goal

pub loop-number-init : goal.loop-number-init
loop-number-init g c = record {
  within = omega arith;
  previous = λ less. absurd (omega (arith, less));
  kept = c.requires.stored;
  added = c.requires.none_added;
  predecessors = c.requires.predecessors;
}

pub returns-clause-lattice : goal.returns-clause-lattice
returns-clause-lattice g c =
    let t = g.S.WordSource.searched_text c.args.source.now in
    let by_surface = c.loop-number.nodes.by_surface.items in
    let backpointers = c.loop-number.nodes.backpointers.items in
    let first : c.loop-number.number ≡ 0 = omega (arith, c.loop-number-test.false) in
    lattice_goes_on t c.args.self.now by_surface backpointers (subst (λ (n : ℕ). AreKeptFrom t c.args.self.now n 0 by_surface backpointers) first c.loop-number.invariant.added)

pub add_surface-requires-clause-previous : goal.add_surface-requires-clause-previous
add_surface-requires-clause-previous g c =
    let t = g.S.WordSource.searched_text c.args.source.now in
    let some = c.loop-number-test.true in
    let same : c.loop-number.number ≡ (c.loop-number.number - 1) + 1 = omega (arith, some) in
    subst (λ (n : ℕ). EndsWithAny t c.args.self.now.surfaces.now n c.loop-number.nodes.by_surface.items) same c.loop-number.invariant.previous

pub add_surface-requires-clause-added : goal.add_surface-requires-clause-added
add_surface-requires-clause-added g c =
    let t = g.S.WordSource.searched_text c.args.source.now in
    let some = c.loop-number-test.true in
    let same : c.loop-number.number ≡ (c.loop-number.number - 1) + 1 = omega (arith, some) in
    subst (λ (n : ℕ). AreKeptFrom t c.args.self.now n 0 c.loop-number.nodes.by_surface.items c.loop-number.nodes.backpointers.items) same c.loop-number.invariant.added

pub loop-number-preserved : goal.loop-number-preserved
loop-number-preserved g c =
    let within = c.loop-number.invariant.within in
    record {
      within = omega (arith, within);
      previous = λ less. c.in_ok-add_surface.ensures.following;
      kept = c.in_ok-add_surface.ensures.stored;
      added = c.in_ok-add_surface.ensures.added;
      predecessors = c.in_ok-add_surface.ensures.predecessors;
    }
