use Rattle.std.proofs.Common.{◌≡◌, ◌∷◌, ◌++◌, ◌≤◌, ℕ, ap, ◌∙◌, sym, subst, take, arith}
use Rattle.image_format.specs.OlderSections.{listed_number}
use Rattle.dict_image.specs.ListedHits.{listed_hits_after}
use Rattle.dict_image.proofs.PrefixBytes.{no_longer_number, none_begins}
use Rattle.dict_image.proofs.ListedHitLemmas.{hit_here, no_hit_here, no_hits_at_end, no_hits_after}
use Rattle.dict_image.proofs.listed_hits.next_listed.Goals as goal

pub returns-in-Some-clause-hits : goal.returns-in-Some-clause-hits
returns-in-Some-clause-hits c =
    let list = c.args.keys.now in
    let text = c.args.text.now in
    let n = c.loop-started.started.length in
    let value = c.in-Some.value in
    let long = c.narrow.ensures.longer in
    let number = ap (λ (k : ℕ). listed_number list.count list.bytes (take k text)) (sym long) ∙ sym c.in-Some.ensures in
    subst (λ (k : ℕ). listed_hits_after list text c.args.started.now.length ≡ (k, value) ∷ listed_hits_after list text k) (sym long)
    (c.loop-started.invariant.hits ∙ hit_here list text n value c.loop-started-test.true number)

pub loop-started-preserved-then-started : goal.loop-started-preserved-then-started
loop-started-preserved-then-started c =
    let list = c.args.keys.now in
    let text = c.args.text.now in
    let n = c.loop-started.started.length in
    let started = c.narrow.result in
    let are = c.narrow.ensures.key_range.are in
    let empty : started.high ≤ started.low = let e = c.if-started.true in omega (arith, e) in
    let long = c.narrow.ensures.longer in
    record {
      started = record { short = omega arith; are = none_begins list text started.length started.low started.high empty are };
      hits = c.loop-started.invariant.hits
          ∙ no_hits_after list text n (λ more. ap (λ (k : ℕ). listed_number list.count list.bytes (take k text ++ more)) (sym long) ∙ no_longer_number list (take started.length text) started.low started.high are empty more)
          ∙ sym (no_hits_at_end list text);
    }

pub loop-started-preserved : goal.loop-started-preserved
loop-started-preserved c =
    let list = c.args.keys.now in
    let text = c.args.text.now in
    let n = c.loop-started.started.length in
    let long = c.narrow.ensures.longer in
    let none = ap (λ (k : ℕ). listed_number list.count list.bytes (take k text)) (sym long) ∙ sym c.whole.ensures ∙ c.in_default.is in
    record {
      started = c.narrow.ensures.key_range;
      hits = c.loop-started.invariant.hits ∙ no_hit_here list text n c.loop-started-test.true none ∙ ap (listed_hits_after list text) (sym long);
    }
