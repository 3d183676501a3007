use Rattle.image_format.specs.ImageMeaning.{image_tables}
use Rattle.word_lookup.specs.Overlays.{overlay_of}
use Rattle.word_lookup.specs.Surfaces.{all_tables}
use Rattle.word_lookup.proofs.TableLemmas.{all_fit, fits_at, user_at}
use Rattle.word_lookup.proofs.dictionaries.Dictionaries.numbered.Goals as goal

pub returns-then-number-eq0-clause-fits : goal.returns-then-number-eq0-clause-fits
returns-then-number-eq0-clause-fits c = (all_fit c.args.self.now).0

pub returns-else-number-eq0-clause-tables : goal.returns-else-number-eq0-clause-tables
unfolding overlay_of
returns-else-number-eq0-clause-tables c =
    let d = c.args.self.now in
    user_at (image_tables d.system.now) d.users.now c.args.number _ c.if-number-eq0.false c.requires

pub returns-else-number-eq0-clause-fits : goal.returns-else-number-eq0-clause-fits
unfolding overlay_of
returns-else-number-eq0-clause-fits c =
    let d = c.args.self.now in
    fits_at (all_tables (overlay_of d)) c.args.number _ (all_fit d) (user_at (image_tables d.system.now) d.users.now c.args.number _ c.if-number-eq0.false c.requires)
