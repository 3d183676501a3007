use Rattle.std.proofs.Common.{ℕ, List, length, ap, ◌∙◌}
use Rattle.std.specs.Prelude.{chars}
use Rattle.word_lookup.proofs.PlaceLemmas.{boundary}
use Rattle.word_lookup.proofs.cached_runs.count_between.Goals as goal

pub range-requires-clause-start_boundary : goal.range-requires-clause-start_boundary
range-requires-clause-start_boundary c = λ above. boundary c.args.text.now c.args.from c.requires.from

pub range-requires-clause-end_boundary : goal.range-requires-clause-end_boundary
range-requires-clause-end_boundary c = boundary c.args.text.now c.args.to c.requires.to

pub returns : goal.returns
returns c = c.count.ensures ∙ ap (λ (bytes : List ℕ). length (chars bytes)) c.range.ensures.value
