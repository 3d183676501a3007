-- Unknown spans: the lengths in characters of the unknown words at a position (MeCab, unk; what it
-- leaves open is this project's own choice).
use Rattle.std.specs.Prelude.{ℕ, ◌+◌, ◌-◌, Bool, not, ◌&&◌, ◌||◌, nat_lt, nat_le, ◌==◌, if◌then◌else◌, List, [], ◌∷◌, ◌++◌, length, filter, slice_index_or}
use Rattle.mj_model.specs.declared.category.Category.{Category}
use Rattle.mj_model.specs.Tables.{Overlay, Tables, no_category}
use Rattle.mj_model.specs.Run.{run, sharing_with_first}
use Rattle.mj_model.specs.Lists.{up_to}

-- the whole run, if the category has GROUP and at most `grouping` characters follow the first one
abbrev pub grouped_span : Category → ℕ → ℕ → List ℕ
grouped_span category grouping whole = if category.group && nat_le (whole - 1) grouping then whole ∷ [] else []

-- the lengths from 1 to LENGTH of characters that share a category with the first one; with GROUP,
-- only those shorter than the run
abbrev pub length_spans : Category → ℕ → ℕ → List ℕ
length_spans category whole same = filter (λ n. nat_le n same && (not category.group || nat_lt n whole)) (up_to category.length)

-- one character, if there is neither a known word nor another span
abbrev pub one_if_none : Bool → List ℕ → List ℕ
one_if_none none_known spans = if none_known && length spans == 0 then 1 ∷ [] else spans

-- the spans for a category whose run has `whole` characters, of which `same` share a category with
-- the first one
abbrev pub spans_of : Category → Bool → ℕ → ℕ → ℕ → List ℕ
spans_of category none_known grouping whole same =
    if category.invoke || none_known
    then one_if_none none_known (grouped_span category grouping whole ++ length_spans category whole same)
    else []

-- the unknown spans for the characters c and cs, by the tables t
abbrev pub spans_by : Tables → ℕ → Bool → ℕ → List ℕ → List ℕ
spans_by t grouping none_known c cs =
    spans_of (slice_index_or t.categories (t.info c).head no_category) none_known grouping (1 + run t.info (t.info c) cs) (sharing_with_first t.info c cs)

-- the unknown spans for the characters c and cs, by the system dictionary of an overlay
abbrev pub spans : Overlay → Bool → ℕ → List ℕ → List ℕ
spans o none_known c cs = spans_by o.system o.grouping none_known c cs
