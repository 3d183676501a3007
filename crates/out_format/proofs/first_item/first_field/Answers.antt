use Rattle.std.proofs.Common.{◌∷◌, [], Some, None, sym, ◌∙◌}
use Rattle.std.proofs.lemmas.Bool.Decides.{Decides-eqb}
use Rattle.std.proofs.lemmas.Slice.Eq.{strip_prefix_is}
use Rattle.out_format.proofs.ItemLemmas.{begins_field, no_field, no_index}
use Rattle.out_format.proofs.first_item.first_field.Goals as goal

pub returns-in_err-inside : goal.returns-in_err-inside
returns-in_err-inside c =
    rw c.from_residual.ensures
    (no_field c.args.part c.args.following.now (λ inside e. absurd (strip_prefix_is Decides-eqb c.args.following.now (102 ∷ []) None c.in_err-inside.ensures.cases inside e)))

pub returns-in_err-index : goal.returns-in_err-index
returns-in_err-index c =
    let there = strip_prefix_is Decides-eqb c.args.following.now (102 ∷ []) (Some c.in_ok-inside.inside) c.in_ok-inside.ensures.cases in
    rw (c.from_residual-in_err-index.ensures, there) (no_index c.args.part c.in_ok-inside.inside.now c.in_err-index.ensures)

pub returns : goal.returns
returns c =
    let there = strip_prefix_is Decides-eqb c.args.following.now (102 ∷ []) (Some c.in_ok-inside.inside) c.in_ok-inside.ensures.cases in
    rw there (begins_field c.args.part c.in_ok-inside.inside.now _ _ (sym c.includes.ensures ∙ c.if-not-includes.false) c.in_ok-index.ensures)
