use Rattle.image_writer.proofs.LexiconLemmas.{few_features}
use Rattle.image_writer.proofs.tokens.TokenWriter.into_bytes.Goals as goal

pub returns : goal.returns
returns c = λ rows written. record { tokens = written.tokens; features = written.features.bytes; few = few_features rows c.args.self written }
