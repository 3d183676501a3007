use Rattle.std.proofs.Common.{◌∙◌}
use Rattle.jseg_lib.specs.TextWarnings.{return_from}
use Rattle.jseg_lib.proofs.TextWarningLemmas.{scan_next, scan_end}
use Rattle.jseg_lib.proofs.return_scan.ReturnScan.after.Goals as goal

pub loop-byte-preserved : goal.loop-byte-preserved
loop-byte-preserved c = λ rest.
    c.loop-byte.invariant rest
    ∙ scan_next return_from c.loop-byte.scan c.after_byte-scan.result c.args.piece.now rest c.loop-byte.byte-index c.loop-byte-test.true c.after_byte-scan.ensures

pub returns : goal.returns
returns c = λ rest.
    c.loop-byte.invariant rest ∙ scan_end return_from c.loop-byte.scan c.args.piece.now rest c.loop-byte.byte-index c.loop-byte-test.false
