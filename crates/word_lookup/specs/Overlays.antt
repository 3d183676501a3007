-- The overlay that dictionaries form.
use Rattle.std.specs.Prelude.{ℕ, List, [], map, Option, Some, None}
use Rattle.std.specs.Borrow.{Bor}
use Rattle.mj_model.specs.declared.limits.TheConstants.{GROUPING_DEFAULT}
use Rattle.mj_model.specs.declared.overlay_fault.OverlayFault.{OverlayFault}
use Rattle.image_format.specs.ImageMeaning.{image_tables}
use Rattle.mj_model.specs.Overlays.{overlay_fault}
use Rattle.mj_model.specs.Tables.{Lexeme, Overlay}
use Rattle.word_lookup.specs.declared.dictionaries.Dictionaries.{Dictionaries}

-- the overlay of dictionaries, as a name that is not unfolded
unfoldable pub overlay_of : Dictionaries → Overlay
overlay_of d = record { system = image_tables d.system.now; users = map image_tables d.users.now; grouping = d.grouping }

-- the overlay of the images of a system dictionary and user dictionaries, with the default grouping
abbrev pub overlay_by_default : List ℕ → List (List ℕ) → Overlay
overlay_by_default system users = record { system = image_tables system; users = map image_tables users; grouping = GROUPING_DEFAULT }

-- the first error of an overlay of the images of a system dictionary and user dictionaries
abbrev pub fault_of_images : List ℕ → List (List ℕ) → Option OverlayFault
fault_of_images system users = overlay_fault (image_tables system) (map image_tables users)

-- the lexicon of a dictionary, or an empty one if there is no dictionary
abbrev pub lexicon_in : Option (Bor (List ℕ)) → List Lexeme
lexicon_in None = []
lexicon_in (Some dict) = (image_tables dict.now).lexicon
