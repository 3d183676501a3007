use Rattle.std.proofs.Common.{map, subst}
use Rattle.std.specs.Iterator.{YieldsFirstBy}
use Rattle.image_format.specs.ImageMeaning.{lexicon_sections}
use Rattle.dict_image.specs.KeyHits.{hits_view}
use Rattle.dict_image.specs.Prefixes.{PrefixesView, prefix_in}
use Rattle.dict_image.proofs.ProgressLemmas.{progress_of}
use Rattle.dict_image.proofs.hits.PrefixesIterator.next.Goals as goal

pub returns-clause-goes : goal.returns-clause-goes
returns-clause-goes c =
    let hits = hits_view c.next_prefix.new.hits in
    let left : PrefixesView =
    record { prefixes = map (prefix_in (lexicon_sections c.self.inside.dict.now)) hits.hits; cells = hits.cells; text = hits.text; walked = hits.walked } in
    progress_of (λ prefix. (prefix.0, prefix.1)) (λ (it : PrefixesView). it.prefixes) _ c.args.self.now c.next_prefix.result left tt
    (subst (λ (old : PrefixesView). YieldsFirstBy (λ prefix. (prefix.0, prefix.1)) (λ (it : PrefixesView). it.prefixes) old c.next_prefix.result left) c.self.view_is c.next_prefix.ensures.prefixes)
