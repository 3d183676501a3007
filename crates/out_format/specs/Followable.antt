-- Words of a line each of which may follow the one before it.
use Rattle.std.specs.Prelude.{ℕ, ◌^◌, ℤ, ◌+ℤ◌, List, [], ◌∷◌}
use Rattle.mj_model.specs.declared.word.Word.{Word}
use Rattle.mj_model.specs.Bounds.{IsWithin}
use Rattle.mj_model.specs.Tables.{Overlay}
use Rattle.out_format.specs.WordContexts.{IsWordOf}

-- the cost is far from overflow of 64 bits
abbrev pub IsLow : ℤ → Type 0
IsLow cost = IsWithin (2 ^ 40) cost

-- words of a line that may follow a word of right id `right`, with `cost` the cost of the path up
-- to there
abbrev pub AreFollowable : Overlay → List ℕ → ℕ → ℤ → List Word → Type 0
AreFollowable o line right cost [] = Unit {0}
AreFollowable o line right cost (w ∷ ws) =
    IsWordOf o line right w × IsLow cost × AreFollowable o line w.right ((cost +ℤ o.system.connection right w.left) +ℤ w.cost) ws
