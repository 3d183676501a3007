-- A part of speech as a template for the first fields of a feature.
use Rattle.std.specs.Prelude.{◌≡◌, ◌⊎◌, ℕ, List, [], ◌∷◌, map, slice_get, string_bytes, Some}
use Rattle.lex_source.specs.Results.{IsField}
use Rattle.dictc_lib.specs.declared.ids.template.Template.{Template}

-- a field that fits any: an empty one, or an asterisk
abbrev pub IsAny : List ℕ → Type 0
IsAny field = (field ≡ []) ⊎ (field ≡ 0x2a ∷ [])

-- field `n` of a feature fits the template's field `wanted`
abbrev pub FitsField : ℕ → List ℕ → List ℕ → Type 0
FitsField n wanted feature = IsAny wanted ⊎ IsField feature n (Some wanted)

-- the first fields of a feature fit the template
abbrev pub Fits : List (List ℕ) → List ℕ → Type 0
Fits template feature = (n : ℕ) (wanted : List ℕ) → slice_get template n ≡ Some wanted → FitsField n wanted feature

-- the fields of a template
abbrev pub fields_of : Template → List (List ℕ)
fields_of template = map string_bytes template.fields.items
