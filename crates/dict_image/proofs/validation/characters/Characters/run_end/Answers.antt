use Rattle.std.proofs.Common.{rules, ◌≡◌, ◌≤◌, ℕ, List, Option, option_copied, ltb, get_or, length, sym, ap, ◌∙◌, subst}
use Rattle.std.proofs.lemmas.List.Sorted.{IsPartitionPoint-from_clause, IsPartitionedBy-ltb}
use Rattle.std.specs.Option.{unwrap_or}
use Rattle.dict_image.specs.Validation.Stretches.{IsEndOf}
use Rattle.dict_image.proofs.StretchLemmas.{ArePast, read_or, stretch_of}
use Rattle.dict_image.proofs.validation.characters.Characters.run_end.Goals as goal

pub returns : goal.returns
returns c =
    let bytes = c.self.inside.bytes.now in
    let wrong = c.self.inside.wrong.items in
    let are = c.self.invariant in
    let within = subst (λ (xs : List ℕ). c.args.place ≤ length xs) (sym c.self.view_is) c.requires in
    let n = c.partition_point-before.result in
    let same = c.deref.ensures.value in
    let parted = IsPartitionedBy-ltb (λ x. x) c.deref.result.now c.args.place (rw same are.before.rising) in
    let past = IsPartitionPoint-from_clause (λ x. ltb x c.args.place) _ _ c.partition_point-before.ensures.partitioned parted (λ a r q k. search rules) in
    let here = stretch_of bytes wrong c.args.place n are within (subst (λ (xs : List ℕ). ArePast xs c.args.place n) same past) (search rules) in
    let copied = c.unwrap_or.ensures ∙ ap (λ (o : Option ℕ). unwrap_or o (length bytes)) c.copied-wrong.ensures in
    let is = copied ∙ subst (λ (xs : List ℕ). unwrap_or (option_copied c.get.result) (length bytes) ≡ get_or xs n (length bytes)) c.deref-2.ensures.value (read_or c.deref-2.result.now n (length bytes) c.get.result c.get.ensures.lookup.0 c.get.ensures.lookup.1) in
    subst (λ (xs : List ℕ). IsEndOf xs c.args.place c.unwrap_or.result) c.self.view_is (subst (λ (to : ℕ). IsEndOf bytes c.args.place to) (sym is) here)
