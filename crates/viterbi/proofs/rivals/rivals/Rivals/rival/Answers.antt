use Rattle.std.proofs.Common.{◌≡◌, List, Option, None, Some, get_or, sym, subst, arith, slice_get}
use Rattle.std.proofs.lemmas.Option.{slice_get-get_or, slice_get_within}
use Rattle.viterbi.proofs.Pushed.{Contains_from_get}
use Rattle.viterbi.specs.Rivals.RivalsState.{AreRivals}
use Rattle.viterbi.specs.Rivals.Rivals.{IsBestRival}
use Rattle.viterbi.specs.declared.rivals.rival.Rival.{Rival}
use Rattle.viterbi.proofs.rivals.rivals.Rivals.rival.Goals as goal

pub path_through-requires-clause-node : goal.path_through-requires-clause-node
path_through-requires-clause-node c =
    let r = c.in-Some.best in
    c.self.invariant.nodes c.args.number r (subst (λ (os : List (Option Rival)). slice_get os c.args.number ≡ Some (Some r)) c.deref.ensures.value (c.rival_at.ensures.some r c.in-Some.is))

pub returns-in_ok-path_through-in-Some-clause-rival : goal.returns-in_ok-path_through-in-Some-clause-rival
returns-in_ok-path_through-in-Some-clause-rival c = λ words conn len path word are here.
    let r = c.in-Some.best in
    let kept = subst (AreRivals words conn len path) (sym c.self.view_is) are in
    let at = subst (λ (os : List (Option Rival)). slice_get os c.args.number ≡ Some (Some r)) c.deref.ensures.value (c.rival_at.ensures.some r c.in-Some.is) in
    c.in_ok-path_through-in-Some.ensures words conn len path word kept.linked (Contains_from_get path c.args.number word here) (kept.bests.each c.args.number word (Some r) here at)

pub returns-in-None-clause-rival : goal.returns-in-None-clause-rival
returns-in-None-clause-rival c = λ words conn len path word are here.
    let kept = subst (AreRivals words conn len path) (sym c.self.view_is) are in
    let bests = c.self.inside.bests.items in
    let low = slice_get_within path c.args.number word here in
    let long = kept.bests.long in
    let o = get_or bests c.args.number None in
    let at = slice_get-get_or bests c.args.number None (omega (arith, low, long)) in
    let none = c.rival_at.ensures.none o c.in-None.is (subst (λ (os : List (Option Rival)). slice_get os c.args.number ≡ Some o) (sym c.deref.ensures.value) at) in
    subst (IsBestRival words conn c.self.inside.linked.nodes.items word) none (kept.bests.each c.args.number word o here at)

pub returns-in_ok-path_through-in-Some-clause-none : goal.returns-in_ok-path_through-in-Some-clause-none
returns-in_ok-path_through-in-Some-clause-none c = λ words conn len path are next_ones.
    let r = c.in-Some.best in
    let kept = subst (AreRivals words conn len path) (sym c.self.view_is) are in
    let at = subst (λ (os : List (Option Rival)). slice_get os c.args.number ≡ Some (Some r)) c.deref.ensures.value (c.rival_at.ensures.some r c.in-Some.is) in
    let low = slice_get_within c.self.inside.bests.items c.args.number (Some r) at in
    let long = kept.bests.long in
    absurd (omega (arith, low, long, next_ones))
