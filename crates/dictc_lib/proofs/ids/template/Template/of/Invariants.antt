use Rattle.std.proofs.Common.{◌≡◌, ℕ, List, map, take, string_bytes}
use Rattle.mj_model.specs.Fields.{AreFields}
use Rattle.dictc_lib.proofs.ids.template.Template.of.Given as goal

-- the fields found so far are the first fields of the text
abbrev pub invariant-loop-n : goal.invariant-loop-n
invariant-loop-n l = (all : List (List ℕ)) → AreFields l.text all → map string_bytes l.fields.items ≡ take l.n all
