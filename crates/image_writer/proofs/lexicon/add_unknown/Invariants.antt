use Rattle.std.proofs.Common.{List, take}
use Rattle.mj_model.specs.Lexicon.{Row}
use Rattle.image_writer.specs.Entries.{all_rows}
use Rattle.image_writer.specs.Sections.{AreWritten}
use Rattle.image_writer.proofs.lexicon.add_unknown.Given as goal

-- the tokens of the categories so far are written
abbrev pub invariant-loop-category : goal.invariant-loop-category
invariant-loop-category l = (rows : List Row) → AreWritten (all_rows rows l.unknown) rows l.fn.writer → AreWritten (all_rows rows l.unknown) (all_rows rows (take l.category l.unknown)) l.writer
