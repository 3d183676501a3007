use Rattle.jseg_lib.proofs.TextWarningLemmas.{scanned_next}
use Rattle.jseg_lib.proofs.text_scan.TextScan.after.Goals as goal

pub returns : goal.returns
returns c = λ read scanned.
    scanned_next read c.args.piece.now c.args.self (record { mark = c.after.result; returns = c.after-2.result }) scanned c.after.ensures c.after-2.ensures
