use Rattle.std.proofs.Common.{reverse, ap, ◌∙◌}
use Rattle.mj_model.specs.ReversedChains.{last_right}
use Rattle.lattice_view.proofs.EosLemmas.{eos_may_follow}
use Rattle.lattice_view.proofs.why_printer.explained_line.ExplainedLine.eos_connection.Goals as goal

pub cost-requires : goal.cost-requires
cost-requires c = eos_may_follow c.args.self.now c.last_right-right.result c.requires (c.last_right-right.ensures ∙ ap (λ ws. last_right (reverse ws)) c.deref.ensures.value)
