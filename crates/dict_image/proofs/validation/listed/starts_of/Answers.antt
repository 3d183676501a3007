use Rattle.std.proofs.Common.{◌≡◌, ◌+◌, ℕ, suc, List, length, inr, sym, subst, ap, ◌∙◌, arith}
use Rattle.std.proofs.lemmas.List.{take_rest}
use Rattle.image_format.specs.OlderSections.{first_key_in}
use Rattle.dict_image.specs.Validation.KeyPlaces.{AreListedUpTo, IsKeyAbove}
use Rattle.dict_image.proofs.StartLemmas.{all_listed, one_more, some_after, reported_key}
use Rattle.dict_image.proofs.validation.listed.starts_of.Goals as goal

pub returns-in_default : goal.returns-in_default
returns-in_default c =
    let none = subst (λ (xs : List ℕ). IsKeyAbove xs c.loop-group.before.now → ⊥) (take_rest c.args.keys.now c.loop-group.at) c.in_default.ensures in
    inr (reported_key c.args.keys.now c.args.groups c.loop-group.group c.loop-group.starts.items c.loop-group.at c.loop-group.before.now c.loop-group.invariant c.loop-group-test.true none)

pub loop-group-preserved : goal.loop-group-preserved
loop-group-preserved c =
    let keys = c.args.keys.now in
    let at = c.loop-group.at in
    let rest = take_rest keys at in
    let above = subst (λ (xs : List ℕ). IsKeyAbove xs c.loop-group.before.now) rest c.in-Some.ensures.0 in
    let key = c.in-Some.ensures.1 ∙ ap first_key_in rest in
    let e : suc c.loop-group.group ≡ c.loop-group.group + 1 = omega arith in
    subst (λ (n : ℕ). AreListedUpTo keys n c.push.new.self.items (at + (2 + length c.in-Some.key.now)) c.in-Some.key.now) e
    (subst (λ (starts : List ℕ). AreListedUpTo keys (suc c.loop-group.group) starts (at + (2 + length c.in-Some.key.now)) c.in-Some.key.now) (sym c.in_ok-push.ensures.items)
    (one_more keys c.loop-group.group c.loop-group.starts.items at c.loop-group.before.now c.loop-group.invariant c.in-Some.key.now above key))

pub returns-then-at-keys : goal.returns-then-at-keys
returns-then-at-keys c =
    let a = c.loop-group-test.false in
    let b = c.loop-group.auto.group-end in
    let e : c.loop-group.group ≡ c.args.groups = omega (arith, a, b) in
    let so_far = subst (λ (n : ℕ). AreListedUpTo c.args.keys.now n c.loop-group.starts.items c.loop-group.at c.loop-group.before.now) e c.loop-group.invariant in
    all_listed c.args.keys.now c.args.groups c.loop-group.starts.items c.loop-group.at c.loop-group.before.now so_far c.if-at-keys.true

pub returns-else-at-keys : goal.returns-else-at-keys
returns-else-at-keys c =
    let a = c.loop-group-test.false in
    let b = c.loop-group.auto.group-end in
    let e : c.loop-group.group ≡ c.args.groups = omega (arith, a, b) in
    let so_far = subst (λ (n : ℕ). AreListedUpTo c.args.keys.now n c.loop-group.starts.items c.loop-group.at c.loop-group.before.now) e c.loop-group.invariant in
    inr (some_after c.args.keys.now c.args.groups c.loop-group.starts.items c.loop-group.at c.loop-group.before.now so_far c.if-at-keys.false)
