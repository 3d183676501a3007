use Rattle.std.proofs.Common.{◌≡◌, ◌++◌, List, take}
use Rattle.mj_model.specs.Lexicon.{Row, rows_of}
use Rattle.image_writer.specs.Sections.{AreWritten}
use Rattle.image_writer.proofs.tokens.TokenWriter.add_all.Given as goal

-- the tokens of the records so far are written
abbrev pub invariant-loop-record : goal.invariant-loop-record
invariant-loop-record l = (all rows rest : List Row) → all ≡ (rows ++ rows_of l.records) ++ rest → AreWritten all rows l.fn.self → AreWritten all (rows ++ rows_of (take l.record-index l.records)) l.self
