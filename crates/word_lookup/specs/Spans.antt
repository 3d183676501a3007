-- Unknown spans as they are looked up.
use Rattle.std.specs.Prelude.{◌≡◌, ℕ, ◌+◌, max, min, nat_le, ◌&&◌, if◌then◌else◌, List, [], ◌∷◌, ◌++◌, Option, Some, None}
use Rattle.mj_model.specs.declared.category.Category.{Category}
use Rattle.mj_model.specs.Lists.{up_to}
use Rattle.mj_model.specs.Run.{bytes_of}
use Rattle.word_lookup.specs.declared.run.Run.{Run}
use Rattle.word_lookup.specs.declared.spans.Spans.{Spans}

-- the grouped span in characters, if there is one
abbrev pub grouped_spans : Option Run → List ℕ
grouped_spans None = []
grouped_spans (Some run) = run.characters ∷ []

-- the grouped span, then those of 1 character to the longest
abbrev pub spans_in : Spans → List ℕ
spans_in s = grouped_spans s.grouped ++ up_to s.longest

-- how many characters after the first one are scanned for its run: none if the category doesn't
-- group, otherwise enough to know whether more follow than the grouping, and whether LENGTH many
-- follow
abbrev pub lookahead : Category → ℕ → ℕ
lookahead category grouping = if category.group then max (grouping + 1) category.length else 0

-- the whole run of a first character of `first` bytes and the characters after it, if the category
-- groups and at most `grouping` characters follow
abbrev pub grouped_with : Category → ℕ → ℕ → Run → Option Run
grouped_with category grouping first run =
    if category.group && nat_le run.characters grouping
    then Some (record { characters = 1 + run.characters; bytes = first + run.bytes })
    else None

-- the longest span that is not grouped, if `following` characters follow the first one in its run
-- and `alike` characters, itself included, share a category with it
abbrev pub longest_of : Category → ℕ → ℕ → ℕ
longest_of category following alike =
    if category.group then min (min category.length alike) following else min category.length alike

-- the number of characters that certainly share a category with the first one
abbrev pub certainly_sharing : Category → ℕ
certainly_sharing category = if category.group then 2 else 1

-- the run has the bytes of its characters
abbrev pub HasBytes : List ℕ → Run → Type 0
HasBytes cs run = run.bytes ≡ bytes_of run.characters cs
