-- Accepted sources have words for every text, for every grouping, with or without user
-- dictionaries.
use Rattle.std.specs.Prelude.{ℕ, List}
use Rattle.mj_model.specs.declared.sources.Sources.{Sources}
use Rattle.mj_model.specs.Tables.{Overlay}
use Rattle.mj_model.specs.Laws.{CoversAll, HasWords}
use Rattle.mj_model.specs.PathLaws.{CoversTexts}
use Rattle.dict_compile.specs.SourceOverlays.{HaveOverlay}

-- a property of all overlays of accepted sources and user lexicons
abbrev pub SourcesKeep : (Overlay → Type 0) → Type 0
SourcesKeep Keeps = (s : Sources) (users : List (List (List ℕ))) (grouping : ℕ) (o : Overlay) → HaveOverlay s users grouping o → Keeps o

-- surfaces are UTF-8, and no two entries of a lexicon or of a category have one number
abbrev pub SourcesHaveWords : Type 0
SourcesHaveWords = SourcesKeep HasWords

-- the first category of each code point has an unknown entry
abbrev pub SourcesCoverAll : Type 0
SourcesCoverAll = SourcesKeep CoversAll

-- each text has exactly one best path, after which only blanks remain
abbrev pub SourcesCoverTexts : Type 0
SourcesCoverTexts = SourcesKeep CoversTexts
