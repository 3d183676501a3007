use Rattle.std.proofs.Common.{arith, ◌+◌, ◌<◌, ◌++◌, ◌∷◌, [], List, length, get_or, take, subst, sym}
use Rattle.std.proofs.lemmas.List.{take_all, take_more}
use Rattle.std.proofs.lemmas.Option.{slice_get-get_or}
use Rattle.mj_model.specs.declared.paths.surface.Surface.{Surface}
use Rattle.mj_model.specs.Surfaces.{IsWhole}
use Rattle.viterbi.specs.Search.EndNodes.{AreLeast}
use Rattle.viterbi.specs.Search.Pruning.{ArePrunedSurfaces}
use Rattle.viterbi.proofs.PrunedWords.{no_surfaces, one_can_be_pruned, surfaces_more, whole_surface}
use Rattle.viterbi.proofs.WordNumbers.{no_surface}
use Rattle.viterbi.proofs.search.pruning.Pruning.prune_all.Goals as goal

pub loop-number-init : goal.loop-number-init
loop-number-init g c =
    let t = g.S.WordSource.searched_text c.args.source.now in
    record {
      predecessors = subst (AreLeast t.connection c.args.ends.now) (sym c.clear.ensures) (λ i x at. absurd (cc));
      kept = subst (ArePrunedSurfaces t c.args.ends.now []) (sym c.clear-2.ensures.items) (no_surfaces t c.args.ends.now);
    }

pub add_pruned-requires-clause-surface : goal.add_pruned-requires-clause-surface
add_pruned-requires-clause-surface g c =
    let t = g.S.WordSource.searched_text c.args.source.now in
    let ss = c.args.surfaces.now in
    let number = c.loop-number.number in
    let within : number < length ss = omega (arith, c.loop-number.auto.number-end, c.loop-number-test.true) in
    whole_surface (IsWhole t.surface_words) ss number (get_or ss number no_surface) c.requires.whole (slice_get-get_or ss number no_surface within)

pub add_pruned-requires-clause-words : goal.add_pruned-requires-clause-words
add_pruned-requires-clause-words g c =
    let t = g.S.WordSource.searched_text c.args.source.now in
    let ss = c.args.surfaces.now in
    let number = c.loop-number.number in
    let within : number < length ss = omega (arith, c.loop-number.auto.number-end, c.loop-number-test.true) in
    one_can_be_pruned t c.args.ends.now ss number (get_or ss number no_surface) c.requires (slice_get-get_or ss number no_surface within)

pub add_pruned-requires-clause-predecessors : goal.add_pruned-requires-clause-predecessors
add_pruned-requires-clause-predecessors g c = c.loop-number.invariant.predecessors

pub loop-number-preserved : goal.loop-number-preserved
loop-number-preserved g c =
    let t = g.S.WordSource.searched_text c.args.source.now in
    let ends = c.args.ends.now in
    let ss = c.args.surfaces.now in
    let number = c.loop-number.number in
    let within : number < length ss = omega (arith, c.loop-number.auto.number-end, c.loop-number-test.true) in
    let grown = c.in_ok-add_pruned.ensures.appended in
    let more = surfaces_more t ends (take number ss) c.loop-number.self.kept.items grown.0 (get_or ss number no_surface) c.loop-number.invariant.kept grown.1 in
    record {
      predecessors = c.in_ok-add_pruned.ensures.predecessors;
      kept = subst (λ (xs : List Surface). ArePrunedSurfaces t ends xs c.add_pruned.new.self.kept.items) (sym (take_more ss number no_surface within))
          (subst (ArePrunedSurfaces t ends (take number ss ++ get_or ss number no_surface ∷ [])) (sym grown.2) more);
    }

pub returns : goal.returns
returns g c =
    let t = g.S.WordSource.searched_text c.args.source.now in
    let ss = c.args.surfaces.now in
    let all : length ss < c.loop-number.number + 1 = omega (arith, c.loop-number.auto.number-end, c.loop-number-test.false) in
    subst (λ (xs : List Surface). ArePrunedSurfaces t c.args.ends.now xs c.loop-number.self.kept.items) (take_all c.loop-number.number ss (omega (arith, all))) c.loop-number.invariant.kept
