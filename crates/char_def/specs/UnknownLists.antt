-- The unknown entries of all categories together.
use Rattle.std.specs.Prelude.{◌<◌, ◌≤◌, List, length}
use Rattle.std.specs.List.{AllByRecursion, sum_by}
use Rattle.mj_model.specs.declared.limits.TheConstants.{ENTRIES_MAX}
use Rattle.mj_model.specs.Lexicon.{Row}

-- each category has an entry, and there are at most `ENTRIES_MAX` in all
pub record AreUnknownLists (unknown : List (List Row)) : Type 0 where
  pub some : AllByRecursion (λ rows. 0 < length rows) unknown
  pub few : sum_by length unknown ≤ ENTRIES_MAX
