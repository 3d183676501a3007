use Rattle.out_format.specs.PrintedPaths.{PrintsPieces}
use Rattle.out_format.specs.Pieces.{pieces_in}
use Rattle.out_format.proofs.PrintedLemmas.{shown_as, bytes_shown}
use Rattle.out_format.proofs.item_printer.append_one.Goals as goal

pub returns-in-Bytes-clause-appended : goal.returns-in-Bytes-clause-appended
returns-in-Bytes-clause-appended g c =
    let PrintsOne = g.S.ItemPrinter.prints c.args.subject.now in
    shown_as c.append_run.result (PrintsPieces PrintsOne (pieces_in c.args.part.now)) c.args.out.now.items c.append_run.new.out.items c.deref.result.now
    (rw (c.in-Bytes.is, c.deref.ensures.value) (bytes_shown PrintsOne c.in-Bytes.bytes.items)) c.append_run.ensures.appended
