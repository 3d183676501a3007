use Rattle.std.proofs.Common.{ap, arith, drop, length, length-take, take, ◌∙◌}
use Rattle.std.proofs.lemmas.List.{length-map}
use Rattle.image_format.specs.ImageMeaning.{image_tables}
use Rattle.dict_image.specs.Numbered.{numbered_tokens}
use Rattle.dict_image.specs.Views.{ids_and_cost_of}
use Rattle.word_lookup.specs.Surfaces.{words_by_ids}
use Rattle.word_lookup.proofs.RowLemmas.{words_of_row}
use Rattle.word_lookup.proofs.surface_words.SurfaceWords.among.Goals as goal

pub invariant_of-result : goal.invariant_of-result
invariant_of-result c =
    let s = c.args.surface in
    let all = numbered_tokens (image_tables c.args.dict.now) in
    let many = ap length c.entry_row.ensures ∙ length-map (take s.count (drop s.first all)) ids_and_cost_of in
    let taken = length-take s.count (drop s.first all) in
    let there = c.requires.there in
    let few = c.requires.fits.few in
    omega (arith, many, taken, there, few)

pub returns : goal.returns
returns c =
    let s = c.args.surface in
    ap (words_by_ids s s.first) c.entry_row.ensures ∙ words_of_row (numbered_tokens (image_tables c.args.dict.now)) s c.requires.fits.numbered
