-- The kinds of dictionaries and their numbers in headers.
use Rattle.std.specs.Prelude.{ℕ, ◌==◌, if◌then◌else◌}
use Rattle.image_format.specs.declared.kind.DictKind.{DictKind}
use Rattle.image_format.specs.declared.kind.DictKind.TheVariants as dict
use Rattle.mj_model.specs.Tables.{Kind, System, User}

-- the kind with number `n`: 0 is a system dictionary, 1 a user dictionary
abbrev pub kind_numbered : ℕ → DictKind
kind_numbered n = if n == 0 then dict.System else (if n == 1 then dict.User else dict.Other n)

-- the number of a kind
abbrev pub number_of_kind : DictKind → ℕ
number_of_kind dict.System = 0
number_of_kind dict.User = 1
number_of_kind (dict.Other n) = n

-- the kind is system or user
abbrev pub IsKind : DictKind → Type 0
IsKind dict.System = Unit {0}
IsKind dict.User = Unit {0}
IsKind (dict.Other n) = ⊥

-- the kind in the model; a number that is no kind counts as a system dictionary
abbrev pub kind_meant : DictKind → Kind
kind_meant dict.System = System
kind_meant dict.User = User
kind_meant (dict.Other n) = System
