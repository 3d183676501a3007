use Rattle.std.proofs.Common.{◌≡◌, ℕ, ◌<◌, List, Some}
use Rattle.std.specs.Prelude.{slice_get}
use Rattle.dictc_lib.specs.Templates.{FitsField, fields_of}
use Rattle.dictc_lib.proofs.ids.template.Template.fits.Given as goal

-- the fields before this one fit the template
abbrev pub invariant-loop-n : goal.invariant-loop-n
invariant-loop-n l = (k : ℕ) (wanted : List ℕ) → k < l.n → slice_get (fields_of l.self) k ≡ Some wanted → FitsField k wanted l.feature
