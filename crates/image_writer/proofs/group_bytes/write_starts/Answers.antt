use Rattle.std.proofs.Common.{◌≡◌, ◌<◌, ◌+◌, ◌^◌, ℕ, List, ◌++◌, length, get_or, ap, sym, ◌∙◌, rules, arith, subst}
use Rattle.std.proofs.lemmas.List.{get_or_past, get_or_default}
use Rattle.image_writer.specs.Written.{HoldsNumbers}
use Rattle.image_writer.proofs.CellLemmas.{numbers_more}
use Rattle.image_writer.proofs.group_bytes.write_starts.Goals as goal

pub loop-start-preserved : goal.loop-start-preserved
loop-start-preserved c =
    let starts = c.args.starts.now in
    let i = c.loop-start.start-index in
    let entries = c.args.entries in
    let fits : get_or starts i 0 < 2 ^ 32 = search rules in
    let less = c.loop-start-test.true in
    let written = c.in_ok-extend_from_slice.ensures.items ∙ ap (λ (bytes : List ℕ). c.loop-start.bytes.items ++ bytes) c.to_le_bytes.ensures in
    subst (HoldsNumbers (λ g. get_or starts g entries) (i + 1)) (sym written)
    (numbers_more (λ g. get_or starts g entries) i c.loop-start.bytes.items (get_or starts i 0) c.loop-start.invariant (get_or_default starts i 0 entries less) fits)

pub returns-clause-numbers : goal.returns-clause-numbers
returns-clause-numbers c =
    let starts = c.args.starts.now in
    let n = c.loop-start.start-index in
    let entries = c.args.entries in
    let fits : entries < 2 ^ 32 = search rules in
    let past = c.loop-start-test.false in
    let all : n ≡ length starts = omega arith in
    let written = c.in_ok-extend_from_slice-2.ensures.items ∙ ap (λ (bytes : List ℕ). c.loop-start.bytes.items ++ bytes) c.to_le_bytes-2.ensures in
    let holds = numbers_more (λ g. get_or starts g entries) n c.loop-start.bytes.items entries c.loop-start.invariant (sym (get_or_past starts n entries past)) fits in
    λ g less. (subst (HoldsNumbers (λ g. get_or starts g entries) (n + 1)) (sym written) holds).each g (omega (arith, less, all))
