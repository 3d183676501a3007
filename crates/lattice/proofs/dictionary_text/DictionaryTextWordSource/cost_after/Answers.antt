use Rattle.std.proofs.Common.{◌≡◌, ℤ, false, true, List, Option, IsSome, length, subst, inl, inr}
use Rattle.std.proofs.lemmas.Bool.{cases_lt}
use Rattle.std.proofs.lemmas.Option.{slice_get_past}
use Rattle.lattice.proofs.dictionary_text.DictionaryTextWordSource.cost_after.Goals as goal

pub after-requires : goal.after-requires
after-requires c =
    let costs : List ℤ = c.args.costs.now in
    elim (cases_lt c.args.right (length costs)) [
      | inl less ↦ less
      | inr past ↦ let some : false ≡ true = subst (λ (o : Option ℤ). IsSome o) (slice_get_past costs c.args.right past) c.requires in absurd (cc)
    ]
