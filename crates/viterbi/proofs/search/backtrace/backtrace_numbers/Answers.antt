use Rattle.std.proofs.Common.{◌<◌, List, ℕ, Some, Option, get_or, length, sym, subst}
use Rattle.std.proofs.lemmas.Option.{slice_get-get_or}
use Rattle.viterbi.specs.Search.Lattice.{IsBelow}
use Rattle.viterbi.specs.Search.Nodes.{link_of}
use Rattle.viterbi.proofs.SurfaceNodeLemmas.{no_back}
use Rattle.viterbi.proofs.EndNodeLemmas.{link_size}
use Rattle.viterbi.proofs.Links.{below_up, size_below}
use Rattle.viterbi.proofs.BacktraceNumbers.{NumbersOn, numbers_all, numbers_more}
use Rattle.viterbi.proofs.search.backtrace.backtrace_numbers.Goals as goal

pub loop-link-smaller : goal.loop-link-smaller
loop-link-smaller c =
    let backpointers = c.args.backpointers.now in
    let i = c.in-Some.i in
    let low : i < length backpointers = subst (λ (o : Option ℕ). IsBelow o (length backpointers)) c.in-Some.is c.loop-link.invariant.link_below in
    let b = get_or backpointers i no_back in
    subst (λ (o : Option ℕ). link_size o < link_size c.loop-link.link) (sym c.link-link.ensures)
    (subst (λ (o : Option ℕ). link_size (link_of b.before) < link_size o) (sym c.in-Some.is) (size_below (link_of b.before) i (c.requires.links i b (slice_get-get_or backpointers i no_back low))))

pub loop-link-preserved : goal.loop-link-preserved
loop-link-preserved c =
    let backpointers = c.args.backpointers.now in
    let i = c.in-Some.i in
    let low : i < length backpointers = subst (λ (o : Option ℕ). IsBelow o (length backpointers)) c.in-Some.is c.loop-link.invariant.link_below in
    let b = get_or backpointers i no_back in
    let at = slice_get-get_or backpointers i no_back low in
    let on : NumbersOn backpointers c.args.from c.loop-link.numbers.items (Some i) = subst (NumbersOn backpointers c.args.from c.loop-link.numbers.items) c.in-Some.is c.loop-link.invariant.on in
    let more : NumbersOn backpointers c.args.from c.push.new.self.items (link_of b.before) = subst (λ (js : List ℕ). NumbersOn backpointers c.args.from js (link_of b.before)) (sym c.in_ok-push.ensures.items) (numbers_more backpointers c.args.from c.loop-link.numbers.items i b at on) in
    record {
      link_below = subst (λ (o : Option ℕ). IsBelow o (length backpointers)) (sym c.link-link.ensures) (below_up (link_of b.before) i (length backpointers) (c.requires.links i b at) low);
      on = subst (λ (o : Option ℕ). NumbersOn backpointers c.args.from c.push.new.self.items o) (sym c.link-link.ensures) more;
    }

pub returns : goal.returns
returns c =
    let backpointers = c.args.backpointers.now in
    numbers_all backpointers c.args.from c.loop-link.numbers.items (subst (NumbersOn backpointers c.args.from c.loop-link.numbers.items) c.in_default.is c.loop-link.invariant.on)
