use Rattle.std.proofs.Common.{ℕ, ◌<◌}
use Rattle.mj_model.specs.CharDef.{IsInfoOf}
use Rattle.image_format.specs.OlderSections.{entry_at}
use Rattle.dict_image.proofs.validation.infos.are_entries_of.Given as goal

abbrev pub invariant-loop-i : goal.invariant-loop-i
invariant-loop-i l = (k : ℕ) → k < l.i → IsInfoOf l.categories (entry_at l.entries k)
