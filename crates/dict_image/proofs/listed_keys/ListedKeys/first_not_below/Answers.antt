use Rattle.std.proofs.Common.{ℕ, ◌≡◌, ◌≢◌, ◌+◌, ◌-◌, ◌/◌, ◌<◌, List, subst, ap, ◌∙◌, arith}
use Rattle.std.specs.declared.cmp.Ordering.TheVariants.{Less}
use Rattle.image_format.specs.OlderSections.{IsListedKey, listed_key}
use Rattle.dict_image.specs.KeyLists.{KeyList}
use Rattle.dict_image.proofs.ListedOrder.{below_up_to, is_less, not_less, order}
use Rattle.dict_image.proofs.listed_keys.ListedKeys.first_not_below.Goals as goal

pub loop-low-preserved-then-is_lt : goal.loop-low-preserved-then-is_lt
loop-low-preserved-then-is_lt c =
    let list = c.args.self.now in
    let text = c.args.text.now in
    let are = subst (λ (l : KeyList). (i : ℕ) → i < l.count → IsListedKey l.bytes i) c.self.view_is c.self.invariant.0.listed in
    let low = c.loop-low.low in
    let high = c.loop-low.high in
    let middle = low + (high - low) / 2 in
    let test = c.loop-low-test.true in
    let within = c.loop-low.invariant.within in
    let less : order (listed_key list.bytes middle) text ≡ Less =
    is_less (listed_key list.bytes middle) text c.cmp.result (c.cmp.ensures ∙ ap (λ (xs : List ℕ). order xs text) c.key.ensures) (rw c.is_lt.ensures at c.if-is_lt.true) in
    record {
      order = omega (arith, test);
      within = within;
      below = λ i up. below_up_to list.count list.bytes are text i middle (omega (arith, up)) (omega (arith, test, within)) less;
      others = c.loop-low.invariant.others;
    }

pub loop-low-preserved : goal.loop-low-preserved
loop-low-preserved c =
    let list = c.args.self.now in
    let text = c.args.text.now in
    let are = subst (λ (l : KeyList). (i : ℕ) → i < l.count → IsListedKey l.bytes i) c.self.view_is c.self.invariant.0.listed in
    let low = c.loop-low.low in
    let high = c.loop-low.high in
    let middle = low + (high - low) / 2 in
    let test = c.loop-low-test.true in
    let within = c.loop-low.invariant.within in
    let other : order (listed_key list.bytes middle) text ≢ Less =
    not_less (listed_key list.bytes middle) text c.cmp.result (c.cmp.ensures ∙ ap (λ (xs : List ℕ). order xs text) c.key.ensures) (rw c.is_lt.ensures at c.if-is_lt.false) in
    record {
      order = omega (arith, test);
      within = omega (arith, test, within);
      below = c.loop-low.invariant.below;
      others = λ i up following less. other (below_up_to list.count list.bytes are text middle i up following less);
    }
