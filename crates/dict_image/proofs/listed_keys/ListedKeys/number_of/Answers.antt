use Rattle.std.proofs.Common.{ℕ, ◌≡◌, ◌<◌, subst, sym, ap, ◌∙◌, arith}
use Rattle.std.proofs.lemmas.Slice.Eq.{bytes_eq-Decides}
use Rattle.image_format.specs.OlderSections.{IsListedKey, listed_key}
use Rattle.dict_image.specs.KeyLists.{KeyList}
use Rattle.dict_image.proofs.ListedOrder.{number_here, number_nowhere}
use Rattle.dict_image.proofs.ValueLemmas.{not_both}
use Rattle.dict_image.proofs.listed_keys.ListedKeys.number_of.Goals as goal
use Rattle.dict_image.proofs.listed_keys.ListedKeys.number_of.Goals.{else-at-self-via-then-at-self+else-eq, else-at-self-via-else-at-self}

pub returns-then-eq : goal.returns-then-eq
returns-then-eq c =
    let list = c.args.self.now in
    let found = c.first_not_below-at.ensures in
    let are = subst (λ (l : KeyList). (i : ℕ) → i < l.count → IsListedKey l.bytes i) c.self.view_is c.self.invariant.0.listed in
    let count = ap (λ (l : KeyList). l.count) c.self.view_is in
    let less = c.if-at-self.true in
    let same : c.key.result.now ≡ c.args.key.now = (bytes_eq-Decides c.key.result.now c.args.key.now).0 (sym c.eq.ensures ∙ c.if-eq.true) in
    sym (number_here list.count list.bytes are c.args.key.now c.first_not_below-at.result (omega (arith, less, count)) found.below (sym c.key.ensures ∙ same))

pub returns-else-at-self : goal.returns-else-at-self
returns-else-at-self c =
    let list = c.args.self.now in
    let found = c.first_not_below-at.ensures in
    let at = c.first_not_below-at.result in
    let are = subst (λ (l : KeyList). (i : ℕ) → i < l.count → IsListedKey l.bytes i) c.self.view_is c.self.invariant.0.listed in
    let count = ap (λ (l : KeyList). l.count) c.self.view_is in
    let not_here : at < list.count → listed_key list.bytes at ≡ c.args.key.now → ⊥ = elim c.else-at-self.branch [
      | else-at-self-via-then-at-self+else-eq w ↦ λ less is. not_both w.eq.result (w.eq.ensures ∙ (bytes_eq-Decides w.key.result.now c.args.key.now).1 (w.key.ensures ∙ is)) w.if-eq.false
      | else-at-self-via-else-at-self w ↦ let e = w.if-at-self.false in λ less. absurd (omega (arith, e, less, count))
    ] in
    sym (number_nowhere list.count list.bytes are c.args.key.now at found.below found.others not_here)
