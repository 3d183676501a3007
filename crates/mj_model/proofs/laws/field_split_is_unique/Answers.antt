use Rattle.mj_model.specs.Fields.{without_leading_blanks}
use Rattle.mj_model.proofs.FieldLemmas.{a_field, one_field}
use Rattle.mj_model.proofs.laws.field_split_is_unique.Goals as goal

pub returns : goal.returns
returns c = λ line.
    let f = a_field (without_leading_blanks line) in
    (f.0, f.1, f.2, λ other more h. one_field (without_leading_blanks line) other f.0 more f.1 h f.2)
