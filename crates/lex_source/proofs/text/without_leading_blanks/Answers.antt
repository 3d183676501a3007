use Rattle.std.proofs.Common.{ap, ◌∙◌}
use Rattle.std.specs.List.{prefix_len}
use Rattle.mj_model.specs.Bytes.{is_blank}
use Rattle.lex_source.proofs.SplitLemmas.{after_blanks}
use Rattle.lex_source.proofs.text.without_leading_blanks.Goals as goal

pub range_from-requires : goal.range_from-requires
range_from-requires c = λ some. after_blanks c.args.text.now c.blanks_before.result c.utf8.text (c.blanks_before.ensures.count ∙ ap (prefix_len is_blank) c.as_bytes.ensures.value) some
