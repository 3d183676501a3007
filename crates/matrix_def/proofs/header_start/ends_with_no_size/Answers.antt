use Rattle.std.proofs.lemmas.Bool.{OnTrue_at, OnTrue_from}
use Rattle.matrix_def.specs.Headers.{EndsWithNoSize}
use Rattle.matrix_def.proofs.header_start.ends_with_no_size.Goals as goal

pub returns : goal.returns
returns c = OnTrue_from _ (EndsWithNoSize c.args.start.now) (λ yes. record {
  front = c.split_last_word.result.0.now;
  word = c.split_last_word.result.1.now;
  is_cut = c.split_last_word.ensures;
  none = OnTrue_at yes c.is_no_size.ensures;
})
