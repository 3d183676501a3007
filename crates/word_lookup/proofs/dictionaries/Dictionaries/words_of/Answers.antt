use Rattle.std.proofs.Common.{List, ap, arith, length, sym, ◌≤◌, ◌∙◌, ◌+◌, subst}
use Rattle.mj_model.specs.Tables.{Token}
use Rattle.word_lookup.specs.EntryWords.{entry_word}
use Rattle.word_lookup.specs.Overlays.{overlay_of}
use Rattle.word_lookup.specs.Surfaces.{tokens_of, words_among}
use Rattle.word_lookup.proofs.RowLemmas.{row_within}
use Rattle.word_lookup.proofs.dictionaries.Dictionaries.words_of.Goals as goal

pub listed-requires : goal.listed-requires
listed-requires c =
    let s = c.args.surface.now in
    let some = c.requires.some in
    let within = row_within (tokens_of (overlay_of c.args.self.now) s.list) (entry_word s.list s.place s.start s.end) s.first s.count c.requires.count_is some in
    omega (arith, within, some)

pub among-requires-clause-there : goal.among-requires-clause-there
among-requires-clause-there c =
    let s = c.args.surface.now in
    subst (λ (ts : List Token). s.first + s.count ≤ length ts) c.listed.ensures.tokens
    (row_within (tokens_of (overlay_of c.args.self.now) s.list) (entry_word s.list s.place s.start s.end) s.first s.count c.requires.count_is c.requires.some)

pub returns : goal.returns
returns c =
    let s = c.args.surface.now in
    c.among.ensures ∙ ap (λ (ts : List Token). words_among ts s) (sym c.listed.ensures.tokens)
