-- The items except for fields: letters and meaning are MeCab's (format.html); which parts may use
-- an item is this project's own choice.
use Rattle.std.specs.Prelude.{ℕ, List, [], ◌∷◌, codes}
use Rattle.mj_model.specs.declared.format_item.FormatItem.{FormatItem}
use Rattle.mj_model.specs.declared.format_item.FormatItem.TheVariants as item
use Rattle.out_format.specs.declared.items.AllowedIn.{AllowedIn}
use Rattle.out_format.specs.declared.items.AllowedIn.TheVariants.{EveryText, Words, WordsAndEnd}
use Rattle.out_format.specs.Formats.{Row}

-- the letters after the percent sign, the item that they spell, and the parts that may use it
abbrev row : List ℕ → FormatItem → AllowedIn → Row
row letters i texts = (record { now = letters }, i, texts)

-- all items of the table
abbrev pub listed_items : List Row
listed_items =
    row (codes "m") item.Surface Words
    ∷ row (codes "M") item.SurfaceWithBlanks Words
    ∷ row (codes "pS") item.Blanks Words
    ∷ row (codes "H") item.Feature Words
    ∷ row (codes "c") item.WordCost Words
    ∷ row (codes "s") item.IsUnknown Words
    ∷ row (codes "S") item.Sentence EveryText
    ∷ row (codes "L") item.SentenceLength EveryText
    ∷ row (codes "phl") item.LeftId Words
    ∷ row (codes "phr") item.RightId Words
    ∷ row (codes "pC") item.ConnectionCost Words
    ∷ row (codes "pn") item.CostHere Words
    ∷ row (codes "pc") item.CostSoFar WordsAndEnd
    ∷ row (codes "pl") item.SurfaceLength Words
    ∷ row (codes "pL") item.LengthWithBlanks Words
    ∷ row (codes "ps") item.Start Words
    ∷ row (codes "pe") item.End Words
    ∷ row (codes "t") item.CharacterCategory Words
    ∷ row (codes "%") item.Percent EveryText
    ∷ []
