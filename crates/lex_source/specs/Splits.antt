-- Splitting of bytes at the first one that passes a test.
use Rattle.std.specs.Prelude.{◌≡◌, ℕ, Bool, true, List}
use Rattle.std.specs.List.{list_any, before_first, after_first}

-- the bytes before and after the first one that passes
pub record IsSplit (test : ℕ → Bool) (bytes before following : List ℕ) : Type 0 where
  pub found : list_any test bytes ≡ true
  pub before_is : before ≡ before_first test bytes
  pub following_is : following ≡ after_first test bytes
