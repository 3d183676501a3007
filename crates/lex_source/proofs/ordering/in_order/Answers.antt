use Rattle.std.proofs.Common.{rules}
use Rattle.std.proofs.lemmas.List.Sorted.{answers_always}
use Rattle.std.proofs.lemmas.Result.{IfOk-weaker}
use Rattle.lex_source.proofs.PrefixLemmas.{is_headed_below, is_headed_below_order, order_alone}
use Rattle.lex_source.proofs.ordering.in_order.Goals as goal

pub returns : goal.returns
returns c =
    IfOk-weaker c.without_prefixes.result _ _
    (λ ordered same. order_alone _ _ _ _ c.in_ok-headed.ensures same c.sort_by.ensures.permutation
    (c.in_ok-sort_by.ensures.sorted is_headed_below is_headed_below_order (answers_always _ _ _ (λ f a r g h. search rules)))
    (c.sort_by.ensures.stable is_headed_below is_headed_below_order (answers_always _ _ _ (λ f a r g h. search rules)))) c.without_prefixes.ensures
