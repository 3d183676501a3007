use Rattle.std.proofs.Common.{◌-◌, List, map, sym, ap, ◌∙◌}
use Rattle.mj_model.specs.Tables.{Token}
use Rattle.dict_image.proofs.NumberLemmas.{number_of, numbers_are}
use Rattle.dict_image.proofs.entries.Entries.row.Goals as goal

pub returns : goal.returns
returns c =
    let it = c.self.inside in
    ap (λ (ts : List Token). map number_of ts) (sym c.self.view_is) ∙ numbers_are it.tokens.now it.features.now it.next (it.end - it.next)
