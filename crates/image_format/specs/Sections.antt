-- The numbers of the sections.
use Rattle.std.specs.Prelude.{ℕ}
use Rattle.image_format.specs.declared.section.Section.{Section}
use Rattle.image_format.specs.declared.section.Section.TheVariants.{Costs, Categories, Infos, UnknownIndex, Keys, Groups, Tokens, Features}

-- the number of a section
abbrev pub number_of : Section → ℕ
number_of Costs = 1
number_of Categories = 2
number_of Infos = 3
number_of UnknownIndex = 4
number_of Keys = 5
number_of Groups = 6
number_of Tokens = 7
number_of Features = 8
