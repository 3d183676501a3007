-- The segmentation of a text: what a successful run reads and writes.
use Rattle.std.specs.Prelude.{◌≡◌, ℕ, ◌+◌, List, length, false}
use Rattle.std.specs.Io.KnownBytes.{Consumes, Appends, IsAtEnd}
use Rattle.mj_model.specs.Counts.{ReaderState, WriterState}
use Rattle.mj_model.specs.Output.{text_lines}
use Rattle.mj_model.specs.Tables.{Overlay}
use Rattle.out_format.specs.Formats.{Format}
use Rattle.out_format.specs.Segmentation.{IsSegmentation}

-- the reader's whole remaining text, of `lines` lines, was read, and its segmentation was written
-- and then flushed once. If the bytes in the state of the reader or writer are unknown (`None`),
-- some `text` has these properties
pub record WroteSegmentation (o : Overlay) (format : Format) (reader_before reader_after : ReaderState) (writer_before writer_after : WriterState) (lines : ℕ) : Type 0 where
  pub text : List ℕ
  pub output : List ℕ
  pub read : Consumes reader_before.left reader_after.left text
  pub whole : IsAtEnd reader_after.left
  pub counted : lines ≡ length (text_lines text)
  pub segmented : IsSegmentation o format (text_lines text) output
  pub written : Appends writer_before.held writer_after.held output
  pub one_flush : writer_after.flushes ≡ writer_before.flushes + 1
  pub flushed : writer_after.unflushed ≡ false
