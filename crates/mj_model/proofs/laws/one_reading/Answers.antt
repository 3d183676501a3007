use Rattle.mj_model.specs.Lexicon.{lexicon_outcome}
use Rattle.mj_model.proofs.ReadingLemmas.{a_reading, readings_are_one}
use Rattle.mj_model.proofs.laws.one_reading.Goals as goal

pub returns : goal.returns
returns c = λ file held bytes.
    let reading = a_reading lexicon_outcome file held bytes in
    (reading.0, reading.1, λ other h. readings_are_one lexicon_outcome file held bytes reading.0 other reading.1 h)
