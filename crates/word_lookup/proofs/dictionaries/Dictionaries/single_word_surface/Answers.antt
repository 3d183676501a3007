use Rattle.std.proofs.Common.{arith, refl, ◌+◌}
use Rattle.word_lookup.specs.EntryWords.{entry_word}
use Rattle.word_lookup.specs.Overlays.{overlay_of}
use Rattle.word_lookup.specs.Surfaces.{tokens_of}
use Rattle.word_lookup.proofs.RowLemmas.{row_within}
use Rattle.word_lookup.proofs.SurfaceLemmas.{one_word}
use Rattle.word_lookup.proofs.TableLemmas.{few_tokens}
use Rattle.word_lookup.proofs.dictionaries.Dictionaries.single_word_surface.Goals as goal

pub overflow_add-result : goal.overflow_add-result
overflow_add-result c =
    let s = c.args.surface.now in
    let within = row_within (tokens_of (overlay_of c.args.self.now) s.list) (entry_word s.list s.place s.start s.end) s.first s.count c.requires.surface.count_is c.requires.surface.some in
    let few = few_tokens c.args.self.now s.list in
    let less = c.requires.within in
    omega (arith, within, few, less)

pub returns : goal.returns
returns c =
    let s = c.args.surface.now in
    one_word (overlay_of c.args.self.now) s (record s { first = s.first + c.args.i; count = 1 }) c.args.i refl c.requires.surface c.requires.within
