-- The image of a system dictionary, from its parts.
use Rattle.std.proofs.Common.{◌≡◌, ℕ, zero, suc, ◌+◌, ◌-◌, ◌<◌, ◌≤◌, Bool, true, false, List, [], ◌∷◌, length, take, refl, sym, ap, ◌∙◌, arith}
use Rattle.std.specs.Prelude.{pos, if◌then◌else◌, map, nat_lt, slice_get, slice_index_or, sum_by, Some}
use Rattle.std.specs.List.{range_with_len}
use Rattle.std.proofs.lemmas.Bool.{ltb-true, ltb-false}
use Rattle.std.proofs.lemmas.List.Sums.{sum_by_more}
use Rattle.std.proofs.lemmas.Option.{slice_get_within}
use Rattle.mj_model.specs.Connection.{is_pair}
use Rattle.image_format.specs.ImageMeaning.{tokens_in}
use Rattle.image_format.specs.ImageSections.{index_at, stored_cost, token_from}
use Rattle.mj_model.specs.Lexicon.{Row}
use Rattle.mj_model.specs.UnkDef.{token_of, unknown_tokens}
use Rattle.matrix_def.specs.Costs.{CostTable, matrix_cost}
use Rattle.image_writer.specs.StoredTables.{AreCostsOf, AreUnknownOf}
use Rattle.image_writer.specs.Entries.{all_rows}
use Rattle.image_writer.specs.Sections.{HoldTokens}
use Rattle.image_writer.proofs.RowLemmas.{get_after, get_joined, joined, numbered, tokens_at}

-- connection costs as functions
pub same_cost : (m : CostTable) (costs : List ℕ) → AreCostsOf m costs → (right left : ℕ) (b : Bool) → is_pair m.sizes right left ≡ b
    → (if b then stored_cost m.sizes costs right left else pos 0) ≡ (if b then matrix_cost m right left else pos 0)
same_cost m costs are right left true is = are.costs right left is
same_cost m costs are right left false is = refl

-- the unknown entries of a category
unknown_at : (rows : List Row) (unknown : List (List Row)) (index tokens features : List ℕ) → AreUnknownOf (length rows) unknown index → HoldTokens (all_rows rows unknown) tokens features
    → (i : ℕ) → i < length unknown → tokens_in tokens features index i ≡ unknown_tokens (length rows) unknown i
unknown_at rows unknown index tokens features are hold i less =
    let first = length rows + sum_by length (take i unknown) in
    let here = slice_index_or unknown i [] in
    let a : index_at index i ≡ first = are.each i (omega (arith, less)) in
    let b = are.each (suc i) less in
    let next : suc i ≡ i + 1 = omega (arith) in
    let r = ap (λ n. sum_by length (take n unknown)) next ∙ sum_by_more length unknown i [] less in
    let count : index_at index (suc i) - index_at index i ≡ length here = omega (arith, a, b, r) in
    ap (λ n. map (token_from tokens features) (range_with_len (index_at index i) n)) count
    ∙ ap (λ n. map (token_from tokens features) (range_with_len n (length here))) a
    ∙ numbered (token_from tokens features) token_of first here (λ k row is.
    let within = slice_get_within here k row is in
    let place : first + k ≡ length rows + (sum_by length (take i unknown) + k) = omega (arith) in
    let there : slice_get (all_rows rows unknown) (first + k) ≡ Some row =
    ap (slice_get (all_rows rows unknown)) place ∙ get_after rows (joined unknown) (sum_by length (take i unknown) + k) ∙ get_joined unknown i k within ∙ is in
    (hold.each (first + k) row there).token)
    ∙ sym (tokens_at (length rows) unknown i)

-- there are none after the last category
no_unknown : (first : ℕ) (unknown : List (List Row)) (i : ℕ) → length unknown ≤ i → [] ≡ unknown_tokens first unknown i
no_unknown first [] i past = refl
no_unknown first (rows ∷ unknown) zero past = absurd (omega (arith, past))
no_unknown first (rows ∷ unknown) (suc i) past = no_unknown (first + length rows) unknown i (omega (arith, past))

pub same_unknown : (rows : List Row) (unknown : List (List Row)) (index tokens features : List ℕ) → AreUnknownOf (length rows) unknown index → HoldTokens (all_rows rows unknown) tokens features
    → (i : ℕ) (b : Bool) → nat_lt i (length unknown) ≡ b → (if b then tokens_in tokens features index i else []) ≡ unknown_tokens (length rows) unknown i
same_unknown rows unknown index tokens features are hold i true is = unknown_at rows unknown index tokens features are hold i (ltb-true i (length unknown) is)
same_unknown rows unknown index tokens features are hold i false is = no_unknown (length rows) unknown i (ltb-false i (length unknown) is)
