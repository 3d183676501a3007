use Rattle.std.proofs.Common.{◌≡◌, ◌∙◌, []}
use Rattle.jseg_lib.specs.TextWarnings.{warnings_from}
use Rattle.jseg_lib.proofs.TextWarningLemmas.{scanned_all}
use Rattle.jseg_lib.proofs.text_scan.TextScan.end.Goals as goal

pub returns : goal.returns
returns c = λ read scanned.
    let found : record { mark = c.is_present.result; line = c.end.result } ≡ warnings_from c.args.self [] = cc in
    found ∙ scanned_all read c.args.self scanned
