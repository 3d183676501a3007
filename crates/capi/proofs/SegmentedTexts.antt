-- A text whose lines all print has a segmentation, which C borrows.
use Rattle.std.proofs.Common.{ℕ, refl}
use Rattle.std.specs.Prelude.{List, Option, Some, None}
use Rattle.line_segmenter.specs.Segmenters.{SegmenterState}
use Rattle.line_segmenter.proofs.SegmentedTexts.{segmented_text}
use Rattle.capi.specs.TextLines.{BorrowsLines, BorrowsSegmentation, LinesReport}
use Rattle.capi.specs.declared.session.Session.{Session}

pub borrows_segmentation : (old : Option SegmenterState) (new : Option Session) (text : List ℕ) (reported : LinesReport)
    → BorrowsLines old new text reported → BorrowsSegmentation old new text reported
borrows_segmentation (Some h) (Some session) text reported borrowed = record {
  h = h;
  segmenter = refl;
  counted = borrowed.is.counted;
  segmented = record {
    is = segmented_text h text reported.lines session.output.items borrowed.is;
    place = borrowed.place;
    all = borrowed.all;
  };
}
borrows_segmentation (Some h) None text reported borrowed = absurd borrowed
borrows_segmentation None new text reported borrowed = absurd borrowed
