use Rattle.std.proofs.Common.{◌≡◌, IfOk, List, ℕ, subst, sym}
use Rattle.image_format.specs.ImageFaults.{IsIntact}
use Rattle.dict_image.proofs.loading.load_written.Goals as goal

pub load_trusted-requires-clause-intact : goal.load_trusted-requires-clause-intact
load_trusted-requires-clause-intact c = subst IsIntact (sym c.owned.ensures) c.requires.intact

pub returns : goal.returns
returns c = subst (λ (bytes : List ℕ). IfOk c.load_trusted.result (λ dict. dict ≡ bytes)) c.owned.ensures c.load_trusted.ensures
