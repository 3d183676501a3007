-- Defined categories.
use Rattle.std.specs.Prelude.{◌≡◌, ℕ, ◌<◌, true, List, map, length, string_bytes}
use Rattle.mj_model.specs.CharDef.{NamedCategory, is_defined, category_number}
use Rattle.char_def.specs.declared.definitions.Definition.{Definition}

-- the contents of a definition
abbrev pub definition_is : Definition → NamedCategory
definition_is d = record { name = string_bytes d.name; category = d.category }

abbrev pub definitions_are : List Definition → List NamedCategory
definitions_are = map definition_is

-- the category with this name is defined and has this number
pub record HasNumber (categories : List NamedCategory) (name : List ℕ) (number : ℕ) : Type 0 where
  pub defined : is_defined categories name ≡ true
  pub is : number ≡ category_number categories name
  pub within : number < length categories
