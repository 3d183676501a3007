use Rattle.std.proofs.Common.{subst}
use Rattle.programs.specs.ImageHeads.{IsErrorOrLengthAt, IsErrorAt, IsRejectedEarly}
use Rattle.programs.proofs.ImageErrors.{reported_so}
use Rattle.programs.proofs.images.image_from.Goals as goal

pub returns-in-Err-Image-clause-rejected : goal.returns-in-Err-Image-clause-rejected
returns-in-Err-Image-clause-rejected g c =
    let IsSo = IsErrorAt c.args.known (g.F.Read.remaining c.args.file.now) in
    reported_so IsSo c.in-Err-Image.fault c.args.path.now c.of_image.result (subst IsSo c.in-Err-Image.field-0-is c.in-Err-Image.ensures.rejected) c.of_image.ensures

pub returns-in-Err-Image-clause-checked : goal.returns-in-Err-Image-clause-checked
returns-in-Err-Image-clause-checked g c =
    let IsSo = IsErrorOrLengthAt c.args.known (g.F.Read.remaining c.args.file.now) in
    reported_so IsSo c.in-Err-Image.fault c.args.path.now c.of_image.result (subst IsSo c.in-Err-Image.field-0-is c.in-Err-Image.ensures.checked) c.of_image.ensures

pub returns-in-Err-Image-clause-early : goal.returns-in-Err-Image-clause-early
returns-in-Err-Image-clause-early g c =
    let IsSo = IsRejectedEarly (g.F.Read.remaining c.args.file.now) (g.F.Read.remaining c.read_image.new.reader) in
    reported_so IsSo c.in-Err-Image.fault c.args.path.now c.of_image.result (subst IsSo c.in-Err-Image.field-0-is c.in-Err-Image.ensures.early) c.of_image.ensures
