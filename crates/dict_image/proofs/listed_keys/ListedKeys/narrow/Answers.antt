use Rattle.std.proofs.Common.{arith, ◌≡◌, ℕ, ◌+◌, List, get_or, subst, sym, take}
use Rattle.dict_image.specs.ListedHits.{CodesRise, IsFirstFrom, IsRangeOf}
use Rattle.dict_image.proofs.PrefixBytes.{codes_rise, prefix_long, prefix_more, narrowed}
use Rattle.dict_image.proofs.listed_keys.ListedKeys.narrow.Goals as goal

pub first_from-low-requires-clause-rise : goal.first_from-low-requires-clause-rise
first_from-low-requires-clause-rise c =
    let list = c.args.self.now in
    let started = c.args.started in
    let are = c.requires.key_range.are in
    let long = prefix_long started.length c.args.text.now c.requires.key_range.short in
    subst (λ (n : ℕ). CodesRise list n started.low started.high) long (codes_rise list c.len-code.ensures.listed (take started.length c.args.text.now) started.low started.high are)

pub first_from-high-requires-clause-rise : goal.first_from-high-requires-clause-rise
first_from-high-requires-clause-rise c = λ i j up less below.
    let list = c.args.self.now in
    let started = c.args.started in
    let are = c.requires.key_range.are in
    let long = prefix_long started.length c.args.text.now c.requires.key_range.short in
    let above = c.first_from-low.ensures.above in
    subst (λ (n : ℕ). CodesRise list n started.low started.high) long (codes_rise list c.len-code.ensures.listed (take started.length c.args.text.now) started.low started.high are) i j (omega (arith, up, above)) less below

pub returns-clause-key_range : goal.returns-clause-key_range
returns-clause-key_range c =
    let list = c.args.self.now in
    let started = c.args.started in
    let text = c.args.text.now in
    let front = take started.length text in
    let byte = get_or text started.length 0 in
    let long = prefix_long started.length text c.requires.key_range.short in
    let low = c.first_from-low.result in
    let high = c.first_from-high.result in
    let two : byte + 1 + 1 ≡ byte + 2 = omega arith in
    let first = subst (λ (n : ℕ). IsFirstFrom list n (byte + 1) started.low started.high low) (sym long) c.first_from-low.ensures in
    let last = subst (λ (n : ℕ). IsFirstFrom list n (byte + 2) low started.high high) (sym long) (subst (λ (code : ℕ). IsFirstFrom list started.length code low started.high high) two c.first_from-high.ensures) in
    record {
      short = let more = c.requires.more in omega (arith, more);
      are = subst (λ (bytes : List ℕ). IsRangeOf list bytes low high) (sym (prefix_more started.length text c.requires.more))
          (narrowed list c.len-code.ensures.listed front started.low started.high c.requires.key_range.are byte low high first last);
    }
