use Rattle.std.proofs.Common.{◌≡◌, ◌⊎◌}
use Rattle.mj_model.specs.declared.image_fault.ImageFault.TheVariants.{Memory}
use Rattle.image_format.specs.ImageFaults.{IsAccepted, IsImageFault}
use Rattle.programs.proofs.HashLemmas.{accepted_alike, rejected_alike}
use Rattle.programs.proofs.Results.{if_err_so, on_ok_so}
use Rattle.programs.proofs.image_reading.ReadImage.load.Goals as goal

pub returns-clause-accepted : goal.returns-clause-accepted
returns-clause-accepted c = λ requested alike.
    let left = c.args.self.digest in
    let bytes = c.args.self.bytes.items in
    on_ok_so (IsAccepted left bytes) (IsAccepted requested bytes) c.load_checking.result (accepted_alike requested left bytes alike) c.load_checking.ensures.accepted

pub returns-clause-rejected : goal.returns-clause-rejected
returns-clause-rejected c = λ requested alike.
    let left = c.args.self.digest in
    let bytes = c.args.self.bytes.items in
    if_err_so (λ fault. (fault ≡ Memory) ⊎ IsImageFault left bytes fault) (λ fault. (fault ≡ Memory) ⊎ IsImageFault requested bytes fault) c.load_checking.result
    (rejected_alike requested left bytes alike) c.load_checking.ensures.rejected
