use Rattle.std.proofs.Common.{subst}
use Rattle.dict_image.specs.Fitting.{AreBytes}
use Rattle.dict_image.proofs.FittingLemmas.{fitting_tables}
use Rattle.dict_image.proofs.dict.Dict.tables_fit.Goals as goal

pub returns : goal.returns
returns c = fitting_tables c.args.self.now c.section.ensures.formed (subst AreBytes c.section.ensures.section c.are_bytes.ensures) (subst AreBytes c.section-2.ensures.section c.are_bytes-2.ensures)
