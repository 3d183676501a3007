use Rattle.std.proofs.Common.{◌≡◌, take}
use Rattle.image_writer.specs.Entries.{all_rows}
use Rattle.image_writer.specs.FirstUses.{AreNumbered, features_used}
use Rattle.image_writer.specs.Sections.{features_of}
use Rattle.image_writer.proofs.lexicon.feature_uses.Given as goal

-- the uses of the categories so far are appended
abbrev pub invariant-loop-category : goal.invariant-loop-category
invariant-loop-category l = AreNumbered l.uses.items × (features_used l.uses.items ≡ features_of (all_rows l.fn.lexicon.rows (take l.category l.unknown)))
