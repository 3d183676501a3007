-- The index of the unknown entries.
use Rattle.std.proofs.Common.{◌≡◌, ℕ, suc, ◌+◌, ◌<◌, List, [], length, take, take_all, ap, ◌∙◌, arith}
use Rattle.std.specs.Prelude.{sum_by}
use Rattle.std.proofs.lemmas.List.Elements.{All-from_recursion}
use Rattle.std.proofs.lemmas.List.Sums.{sum_by_more}
use Rattle.mj_model.specs.Lexicon.{Row}
use Rattle.char_def.specs.UnknownLists.{AreUnknownLists}
use Rattle.image_writer.specs.StoredTables.{AreUnknownOf}
use Rattle.image_writer.specs.Written.{HoldsNumbers}

pub index_is : (entries : ℕ) (unknown : List (List Row)) (bytes : List ℕ) → AreUnknownLists unknown
    → HoldsNumbers (λ i. entries + sum_by length (take i unknown)) (length unknown + 1) bytes → AreUnknownOf entries unknown bytes
index_is entries unknown bytes formed holds = record {
  formed = record {
    fills = holds.fill;
    first = holds.each 0 (omega (arith)) ∙ omega (arith);
    rising = λ i less.
        let a = holds.each i (omega (arith, less)) in
        let b = holds.each (suc i) (omega (arith, less)) in
        let next : suc i ≡ i + 1 = omega (arith) in
        let more = ap (λ n. sum_by length (take n unknown)) next ∙ sum_by_more length unknown i [] less in
        let some = All-from_recursion (λ (rows : List Row). 0 < length rows) unknown formed.some i [] less in
        omega (arith, a, b, more, some);
    last = holds.each (length unknown) (omega (arith)) ∙ ap (λ (rows : List (List Row)). entries + sum_by length rows) (take_all (length unknown) unknown (omega (arith)));
  };
  each = λ i within. holds.each i (omega (arith, within));
}
