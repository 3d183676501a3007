use Rattle.std.proofs.Common.{◌≡◌, ◌++◌, take}
use Rattle.mj_model.specs.Lexicon.{rows_of}
use Rattle.image_writer.specs.FirstUses.{AreNumbered, features_used}
use Rattle.image_writer.specs.Sections.{features_of}
use Rattle.image_writer.proofs.first_uses.append_uses.Given as goal

-- the uses of the records so far are appended
abbrev pub invariant-loop-record : goal.invariant-loop-record
invariant-loop-record l = (AreNumbered l.fn.uses.items → AreNumbered l.uses.items)
    × (features_used l.uses.items ≡ features_used l.fn.uses.items ++ features_of (rows_of (take l.record-index l.records)))
