use Rattle.programs.specs.ImageHeads.{IfRejected, IsErrorOrLengthAt, IsErrorOfAFile}
use Rattle.programs.proofs.ImageErrors.{rejected_by}
use Rattle.programs.proofs.Results.{if_err_so}
use Rattle.programs.proofs.images.image_at.Goals as goal

pub returns-clause-rejected : goal.returns-clause-rejected
returns-clause-rejected g c =
    let remaining = g.R.File.Read.remaining in
    let file = c.in-Ok.file in
    let known = c.length_of-known.result in
    if_err_so (IfRejected (IsErrorOrLengthAt known (remaining file))) (IsErrorOfAFile remaining) c.image_from.result (rejected_by remaining file known)
    c.image_from.ensures.checked
