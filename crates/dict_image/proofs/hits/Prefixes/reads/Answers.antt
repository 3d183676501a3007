use Rattle.std.proofs.Common.{List, ap, ◌∙◌}
use Rattle.mj_model.specs.CellMap.{Cell}
use Rattle.mj_model.specs.Reads.{walk_reads}
use Rattle.mj_model.proofs.ReadLemmas.{no_reads}
use Rattle.dict_image.specs.KeyHits.{hits_view}
use Rattle.dict_image.specs.Prefixes.{PrefixesView}
use Rattle.dict_image.proofs.hits.Prefixes.reads.Goals as goal

pub returns-clause-none : goal.returns-clause-none
returns-clause-none c = λ none.
    let hits = hits_view c.self.inside.hits in
    let cells = ap (λ (it : PrefixesView). it.cells) c.self.view_is ∙ none in
    c.reads.ensures.reads ∙ ap (λ (cs : List Cell). walk_reads cs hits.text hits.walked) cells ∙ no_reads hits.text hits.walked
