use Rattle.std.proofs.Common.{◌≡◌, ◌+◌, ◌<◌, ◌^◌, ℕ, List, ◌++◌, length, take, ap, sym, ◌∙◌, arith, subst}
use Rattle.std.specs.List.{sum_by}
use Rattle.std.proofs.lemmas.List.Sums.{sum_by-take-le}
use Rattle.byteorder.specs.Endian.{little_bytes}
use Rattle.image_writer.specs.Written.{HoldsNumbers}
use Rattle.image_writer.proofs.CellLemmas.{numbers_more}
use Rattle.image_writer.proofs.IndexLemmas.{index_is}
use Rattle.image_writer.proofs.unknown_index.write_unknown_index.Goals as goal

pub returns : goal.returns
returns c =
    let unknown = c.args.unknown.now in
    let next : ℕ → ℕ = λ i. c.args.entries + sum_by length (take i unknown) in
    let n = c.loop-category.category in
    let before = c.loop-category.bytes.items in
    let past = c.loop-category-test.false in
    let all : n ≡ length unknown = omega (arith, past, c.count-category-end.ensures.count) in
    let is = c.loop-category.invariant.0 in
    let fits : c.loop-category.next < 2 ^ 32 =
    (let part = sum_by-take-le length unknown n in let few = c.count-category-end.ensures.formed.few in let before = c.requires in omega (arith, is, part, few, before)) in
    let written = c.in_ok-extend_from_slice-2.ensures.items ∙ ap (λ (bytes : List ℕ). before ++ bytes) c.to_le_bytes-2.ensures in
    index_is c.args.entries unknown _ c.count-category-end.ensures.formed
    (subst (HoldsNumbers next (length unknown + 1)) (sym written)
    (subst (λ m. HoldsNumbers next (m + 1) (before ++ little_bytes 4 c.loop-category.next)) all (numbers_more next n before c.loop-category.next c.loop-category.invariant.1 is fits)))
