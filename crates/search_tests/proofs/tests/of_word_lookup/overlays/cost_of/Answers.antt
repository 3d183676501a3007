use Rattle.std.proofs.Common.{ap, ◌∙◌, sym, subst}
use Rattle.std.specs.Prelude.{IsTrue}
use Rattle.mj_model.specs.declared.matrix_sizes.MatrixSizes.{MatrixSizes}
use Rattle.mj_model.specs.Connection.{is_pair}
use Rattle.mj_model.specs.Tables.{Overlay}
use Rattle.search_tests.proofs.tests.of_word_lookup.overlays.cost_of.Goals as goal

pub cost-requires : goal.cost-requires
cost-requires c =
    let same = ap (λ (o : Overlay). o.system.sizes) c.in_ok-dictionaries.ensures.overlay in
    subst (λ (s : MatrixSizes). IsTrue (is_pair s c.args.right c.args.left)) (c.matrix_sizes.ensures.sizes ∙ sym same) (sym c.contains.ensures ∙ c.if-contains.true)
