use Rattle.segmenter.proofs.JoinedTexts.{outputs_join, output_stops_at}
use Rattle.segmenter.proofs.laws.outputs_join.Goals as goal

pub returns-clause-joined : goal.returns-clause-joined
returns-clause-joined c = outputs_join

pub returns-clause-stopped : goal.returns-clause-stopped
returns-clause-stopped c = output_stops_at
