-- Surfaces at the start of the words of a position.
use Rattle.std.specs.Prelude.{ℕ}
use Rattle.dict_image.specs.declared.entry_range.EntryRange.{EntryRange}
use Rattle.mj_model.specs.declared.paths.entry_list.EntryList.{EntryList}
use Rattle.mj_model.specs.declared.paths.surface.Surface.{Surface}
use Rattle.word_lookup.specs.declared.word_start.WordStart.{WordStart}

-- the surface from the start `at` to `end`, with the entries `row` of a list
abbrev pub surface_here : WordStart → EntryList → EntryRange → ℕ → Surface
surface_here at list row end = record { list = list; first = row.first; count = row.count; place = at.place; start = at.start; end = end }
