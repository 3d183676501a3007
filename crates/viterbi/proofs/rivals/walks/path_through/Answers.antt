use Rattle.std.proofs.Common.{rules, w64, ◌≡◌, ◌++◌, ◌∙◌, List, ap}
use Rattle.std.proofs.lemmas.Int.{to_z-of_z}
use mir.Val.{SFits, of_z, to_z}
use Rattle.viterbi.specs.declared.rivals.step.PathStep.{PathStep}
use Rattle.viterbi.proofs.ThroughLemmas.{is_rival_path}
use Rattle.viterbi.proofs.rivals.walks.path_through.Goals as goal

pub returns : goal.returns
returns c = λ words conn len path word are has rival.
    let n = rival.node in
    let back = c.in_ok-before.before.steps.items in
    let on = c.in_ok-after.after.steps.items in
    let same : c.deref.result.now ≡ on = c.deref.ensures.value in
    let fits : SFits w64 c.args.best.now.cost = search rules in
    is_rival_path words conn len path c.args.linked.now are word has c.args.best.now rival
    (record { cost = to_z w64 (of_z w64 c.args.best.now.cost); begins = c.in_ok-before.before.reaches; ends = c.in_ok-after.after.reaches; steps = c.extend_from_slice.new.self }) back on
    (c.in_ok-before.ensures words conn len path n are rival.here)
    (c.in_ok-after.ensures words conn len path n c.args.best.now.cost are rival.here rival.through)
    (to_z-of_z w64 c.args.best.now.cost fits)
    (c.in_ok-extend_from_slice.ensures.items ∙ ap (λ (xs : List PathStep). c.reverse.new.self.items ++ xs) same ∙ ap (λ (xs : List PathStep). xs ++ on) c.reverse.ensures.items)
