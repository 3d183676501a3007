use Rattle.std.proofs.Common.{arith, ◌≡◌, ◌<◌, ℕ, ap, length, sym, take}
use Rattle.dict_image.proofs.PrefixBytes.{prefix_long, number_of_first, number_of_none}
use Rattle.image_format.specs.OlderSections.{listed_key}
use Rattle.dict_image.proofs.listed_keys.ListedKeys.whole.Goals as goal
use Rattle.dict_image.proofs.listed_keys.ListedKeys.whole.Goals.{else-started-via-then-started+else-key-started, else-started-via-else-started}

pub overflow_cast-result : goal.overflow_cast-result
overflow_cast-result c =
    let few = c.len.ensures.few in
    let count = c.len.ensures.count in
    let within = c.requires.are.within in
    omega (arith, few, count, within)

pub returns-then-key-started : goal.returns-then-key-started
returns-then-key-started c =
    let started = c.args.started in
    let text = c.args.text.now in
    let long = prefix_long started.length text c.requires.short in
    let key = ap (length {A = ℕ}) c.key.ensures in
    sym (number_of_first c.args.self.now c.len.ensures.listed (take started.length text) started.low started.high c.requires.are (omega arith) (omega (arith, key, long)))

pub returns-else-started : goal.returns-else-started
returns-else-started c =
    let started = c.args.started in
    let text = c.args.text.now in
    let long = prefix_long started.length text c.requires.short in
    let other : started.low < started.high → length (listed_key c.args.self.now.bytes started.low) ≡ length (take started.length text) → ⊥ = elim c.else-started.branch [
      | else-started-via-then-started+else-key-started w ↦ λ some same. let key = ap (length {A = ℕ}) w.key.ensures in w.if-key-started.false (omega (arith, key, same, long))
      | else-started-via-else-started w ↦ λ some same. let none = w.if-started.false in absurd (omega (arith, none, some))
    ] in
    sym (number_of_none c.args.self.now c.len.ensures.listed (take started.length text) started.low started.high c.requires.are other)
