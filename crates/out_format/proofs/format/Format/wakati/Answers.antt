use Rattle.out_format.proofs.NamedFormats.{wakati_reads}
use Rattle.out_format.proofs.format.Format.wakati.Goals as goal

pub returns : goal.returns
returns c = wakati_reads c.for_all_words.result c.for_all_words.ensures
