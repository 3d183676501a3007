use Rattle.std.proofs.Common.{arith, ◌≡◌, ◌<◌, ℕ, ◌+◌, List, length, slice_index_or, false, subst, sym, ◌∙◌}
use Rattle.std.proofs.lemmas.Option.{slice_get-get_or}
use Rattle.viterbi.specs.Search.Nodes.{reached}
use Rattle.viterbi.specs.Search.SearchedText.{IsLatticeTo, stored_nodes}
use Rattle.viterbi.proofs.Growth.{not_reached}
use Rattle.viterbi.proofs.KeptWords.{kept_on}
use Rattle.viterbi.proofs.search.build.next_reachable.Goals as goal

pub loop-place-init : goal.loop-place-init
loop-place-init g c = c.requires.lattice

pub returns-then-is_reached-clause-lattice : goal.returns-then-is_reached-clause-lattice
returns-then-is_reached-clause-lattice g c = c.loop-place.invariant

pub loop-place-preserved : goal.loop-place-preserved
loop-place-preserved g c =
    let t = g.S.WordSource.searched_text c.args.source.now in
    let nodes = c.args.nodes.now in
    let heads = nodes.heads.items in
    let place = c.loop-place.place in
    let kept = c.requires.stored in
    let long = kept.places in
    let less = c.loop-place-test.true in
    let within : place < length heads = omega (arith, less, c.length-length.ensures, long) in
    let none : reached place (slice_index_or heads place 0) ≡ false =
    subst (λ (xs : List ℕ). reached place (slice_index_or xs place 0) ≡ false) c.as_slice-heads.ensures.value (sym c.is_reached.ensures ∙ c.if-is_reached.false) in
    let l = c.loop-place.invariant in
    record {
      kept = l.kept;
      pruned = kept_on t place (place + 1) l.kept (omega arith) l.pruned;
      lattice = not_reached l.kept t.connection t.text_length l.pruned.searched.source
          t.surface_words nodes.by_surface.items nodes.backpointers.items heads place (slice_index_or heads place 0) kept.groups_are kept.all l.lattice kept.linked (slice_get-get_or heads place 0 within) none;
    }

pub returns-clause-lattice : goal.returns-clause-lattice
returns-clause-lattice g c =
    let t = g.S.WordSource.searched_text c.args.source.now in
    let low = c.requires.from in
    let last = c.loop-place.auto.place-end (omega (arith, low, c.length-length.ensures)) in
    let all : c.loop-place.place ≡ c.length-length.result = omega (arith, last, c.loop-place-test.false) in
    subst (IsLatticeTo t (stored_nodes t c.args.nodes.now)) all c.loop-place.invariant
