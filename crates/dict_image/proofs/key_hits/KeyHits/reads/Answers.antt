use Rattle.std.proofs.Common.{ap, sym, ◌∙◌}
use Rattle.mj_model.specs.Reads.{walk_reads}
use Rattle.mj_model.proofs.ReadLemmas.{no_reads}
use Rattle.dict_image.specs.KeyHits.{hits_view}
use Rattle.dict_image.specs.declared.key_hits.KeyHits.{KeyHits}
use Rattle.dict_image.proofs.key_hits.KeyHits.reads.Goals as goal

pub returns-in-Listed-clause-reads : goal.returns-in-Listed-clause-reads
returns-in-Listed-clause-reads c =
    let it = c.in-Listed.field-0 in
    sym (ap (λ (hits : KeyHits). walk_reads (hits_view hits).cells (hits_view hits).text (hits_view hits).walked) c.in-Listed.is ∙ no_reads it.text it.walked)
