use Rattle.std.proofs.Common.{take}
use Rattle.out_format.specs.PrintedPaths.{PrintsPieces}
use Rattle.out_format.specs.Pieces.{pieces_of}
use Rattle.out_format.proofs.PrintedLemmas.{Appended}
use Rattle.out_format.proofs.item_printer.append_parts.Given as goal

abbrev pub invariant-loop-part : goal.invariant-loop-part
invariant-loop-part g l = Appended (PrintsPieces (g.S.ItemPrinter.prints l.subject) (pieces_of (take l.part-index l.parts))) l.initial.out.items l.out.items
