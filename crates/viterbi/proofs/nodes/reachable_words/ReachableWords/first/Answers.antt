use Rattle.std.proofs.Common.{◌≡◌, ◌≤◌, ◌∙◌, ℕ, List, Some, length, refl, subst, slice_get}
use Rattle.std.proofs.lemmas.Option.{slice_get_read}
use Rattle.viterbi.proofs.ReachableLemmas.{first_past}
use Rattle.viterbi.proofs.nodes.reachable_words.ReachableWords.first.Goals as goal

pub returns-in-Some : goal.returns-in-Some
returns-in-Some c =
    let first = c.in-Some.first.now in
    let read = slice_get_read c.deref.result.now (length c.deref.result.now) c.args.place first refl c.in-Some.ensures.lookup.3.0 c.in-Some.ensures.lookup.1 in
    c.requires.each c.args.place first (subst (λ (xs : List ℕ). slice_get xs c.args.place ≡ Some first) c.deref.ensures.value read)

pub returns-in-None : goal.returns-in-None
returns-in-None c =
    let firsts = c.args.self.now.firsts.items in
    let past : length firsts ≤ c.args.place = subst (λ (xs : List ℕ). length xs ≤ c.args.place) c.deref.ensures.value c.in-None.ensures.lookup.3 in
    first_past c.args.self.now.words.items firsts c.args.place c.len.result c.requires past (c.len.ensures ∙ c.args.self.now.words.ok.0)
