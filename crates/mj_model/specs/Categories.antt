-- Character categories.
use Rattle.std.specs.Prelude.{Bool, not, ◌==◌, bit_and}
use Rattle.mj_model.specs.declared.category.CharInfo.{CharInfo}

-- two characters have a category in common
abbrev pub shares : CharInfo → CharInfo → Bool
shares a b = not (bit_and a.bits b.bits == 0)
