-- Surfaces whose words come from the same entries.
use Rattle.std.specs.Prelude.{◌≡◌}
use Rattle.mj_model.specs.declared.paths.surface.Surface.{Surface}

-- the words of two surfaces come from the same entries, at any positions
pub record HaveSameEntries (s u : Surface) : Type 0 where
  pub list : s.list ≡ u.list
  pub first : s.first ≡ u.first
  pub count : s.count ≡ u.count
