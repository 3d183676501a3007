use Rattle.std.proofs.Common.{ℕ, ◌<◌, subst}
use Rattle.image_format.specs.OlderSections.{IsListedKey}
use Rattle.dict_image.specs.KeyLists.{KeyList}
use Rattle.dict_image.proofs.listed_keys.ListedKeys.len.Goals as goal

pub returns-clause-listed : goal.returns-clause-listed
returns-clause-listed c = subst (λ (list : KeyList). (i : ℕ) → i < list.count → IsListedKey list.bytes i) c.self.view_is c.self.invariant.0.listed
