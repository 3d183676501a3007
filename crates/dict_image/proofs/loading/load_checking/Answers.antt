use Rattle.std.proofs.Common.{◌≡◌, IfErr, List, OnOk, ℕ, subst}
use Rattle.image_format.specs.ImageFaults.{IsAccepted}
use Rattle.dict_image.specs.Validation.BeforeMemory.{ReachKeys}
use Rattle.mj_model.specs.declared.image_fault.ImageFault.TheVariants.{Memory}
use Rattle.dict_image.proofs.loading.load_checking.Goals as goal

pub returns-clause-accepted : goal.returns-clause-accepted
returns-clause-accepted c = subst (λ (bytes : List ℕ). OnOk c.load_image_bytes.result (IsAccepted c.args.digest bytes)) c.owned.ensures c.load_image_bytes.ensures.accepted

pub returns-clause-out_of_memory : goal.returns-clause-out_of_memory
returns-clause-out_of_memory c = subst (λ (bytes : List ℕ). IfErr c.load_image_bytes.result (λ fault. fault ≡ Memory → ReachKeys c.args.digest bytes)) c.owned.ensures c.load_image_bytes.ensures.out_of_memory
