use Rattle.out_format.proofs.NamedFormats.{default_reads}
use Rattle.out_format.proofs.format.Format.default_of.Goals as goal

pub returns : goal.returns
returns c = default_reads c.for_all_words.result c.for_all_words.ensures
