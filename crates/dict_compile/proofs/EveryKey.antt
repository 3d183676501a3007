-- A lexicon of rows returns for every key the rows with that surface, in the order of the rows.
--
-- The lexicon's entries are the rows in the byte order of their surfaces. A test of the surface
-- selects the same entries as rows. The selected rows tie with the key in that order, and a stable
-- sort keeps their order.
use Rattle.std.proofs.Common.{◌≡◌, ℕ, ◌+◌, Bool, true, false, not, cond, ◌&&◌, List, [], ◌∷◌, map, refl, sym, ap, ◌∙◌}
use Rattle.std.specs.Prelude.{Ok, bytes_eq, filter, pos}
use Rattle.std.specs.List.{enumerate_from}
use Rattle.std.specs.declared.cmp.Ordering.{Ordering}
use Rattle.std.specs.declared.cmp.Ordering.TheVariants.{Less, Equal, Greater}
use Rattle.std.specs.Ordering.{is_eq, is_lt, ordering_reverse}
use Rattle.std.proofs.lemmas.Cmp.{nat_list_cmp_total}
use Rattle.std.proofs.lemmas.List.Elements.{filter_agree}
use Rattle.std.proofs.lemmas.Map.Text.{is_eq-slice_cmp}
use Rattle.mj_model.specs.declared.sources.Sources.{Sources}
use Rattle.dict_compile.specs.Compilation.{HaveUserTables}
use Rattle.mj_model.specs.declared.matrix_sizes.MatrixSizes.{MatrixSizes}
use Rattle.mj_model.specs.Dictionary.{AreLexicons, IsInOrder, IsLexiconOf, lexeme_of}
use Rattle.image_format.specs.ImageMeaning.{entries_under}
use Rattle.mj_model.specs.Lexicon.{Row}
use Rattle.mj_model.specs.SourceTables.{HaveTables, lexicon_bytes}
use Rattle.mj_model.specs.Tables.{Lexeme, Tables}
use Rattle.dict_compile.specs.EveryKey.{FindsEveryKey, FindsKeysOf, FindsKeysOfSources, has_surface, content_of_row, content_of_token}
use Rattle.lex_source.proofs.SortedRows.{order}
use Rattle.dict_compile.proofs.SourceFaults.{lexicons_one, one_value, rows_along, same_read}

-- ---- the entries under a key are those of the rows

entries_by : (key : List ℕ) (n : ℕ) (row : Row) (rows : List Row) (b : Bool)
    → map content_of_token (entries_under key (map lexeme_of (enumerate_from (n + 1) rows))) ≡ map content_of_row (filter (has_surface key) rows)
    → map content_of_token (map (λ (e : Lexeme). e.token) (cond b (lexeme_of (n, row) ∷ filter (λ (e : Lexeme). bytes_eq e.surface key) (map lexeme_of (enumerate_from (n + 1) rows)))
    (filter (λ (e : Lexeme). bytes_eq e.surface key) (map lexeme_of (enumerate_from (n + 1) rows)))))
    ≡ map content_of_row (cond b (row ∷ filter (has_surface key) rows) (filter (has_surface key) rows))
entries_by key n row rows true more = λ i. content_of_row row ∷ more i
entries_by key n row rows false more = more

entries_are : (key : List ℕ) (n : ℕ) (rows : List Row) → map content_of_token (entries_under key (map lexeme_of (enumerate_from n rows))) ≡ map content_of_row (filter (has_surface key) rows)
entries_are key n [] = refl
entries_are key n (row ∷ rows) = entries_by key n row rows (bytes_eq row.surface key) (entries_are key (n + 1) rows)

-- ---- rows of one surface keep their order

tied : (o : Ordering) → (not (is_lt (ordering_reverse o)) && not (is_lt o)) ≡ is_eq o
tied Less = refl
tied Equal = refl
tied Greater = refl

-- a surface ties with a key if it is the key
ties_are : (key surface : List ℕ) → (not (is_lt (order key surface)) && not (is_lt (order surface key))) ≡ bytes_eq surface key
ties_are key surface =
    ap (λ (o : Ordering). not (is_lt o) && not (is_lt (order surface key))) (nat_list_cmp_total.antisymm key surface)
    ∙ tied (order surface key) ∙ is_eq-slice_cmp surface key

-- a row that has the key as its surface
abbrev row_with : List ℕ → Row
row_with key = record { line = 0; surface = key; left = 0; right = 0; cost = pos 0; feature = [] }

kept_in_order : (rows ordered : List Row) → IsInOrder rows ordered → (key : List ℕ) → filter (has_surface key) ordered ≡ filter (has_surface key) rows
kept_in_order rows ordered o key =
    let tie : Row → Bool = λ (row : Row). not (is_lt (order key row.surface)) && not (is_lt (order row.surface key)) in
    sym (filter_agree tie (has_surface key) (λ row. ties_are key row.surface) ordered)
    ∙ o.in_source_order (row_with key)
    ∙ filter_agree tie (has_surface key) (λ row. ties_are key row.surface) rows

-- ---- every key

pub every_key : (rows : List Row) (lexicon : List Lexeme) → IsLexiconOf rows lexicon → FindsEveryKey rows lexicon
every_key rows lexicon is key =
    ap (λ (l : List Lexeme). map content_of_token (entries_under key l)) is.2
    ∙ entries_are key 0 is.0
    ∙ ap (map content_of_row) (kept_in_order rows is.0 is.1 key)

-- tables whose lexicon is that of the rows that the lexicons read as
keys_of : (sizes : MatrixSizes) (lexicons : List (List ℕ)) (t : Tables) (rows : List Row) → AreLexicons sizes 3 [] lexicons (Ok rows) → IsLexiconOf rows t.lexicon → FindsKeysOf sizes lexicons t
keys_of sizes lexicons t rows are is others h key =
    every_key rows t.lexicon is key
    ∙ ap (λ (rs : List Row). map content_of_row (filter (has_surface key) rs)) (same_read (lexicons_one sizes 3 [] lexicons (Ok rows) (Ok others) are h))

pub keys_of_lexicons : (sizes : MatrixSizes) (lexicons : List (List ℕ)) (t : Tables) → HaveUserTables sizes lexicons t → FindsKeysOf sizes lexicons t
keys_of_lexicons sizes lexicons t h = keys_of sizes lexicons t h.rows h.are_rows h.is_lexicon

pub keys_of_sources : (s : Sources) (t : Tables) → HaveTables s t → FindsKeysOfSources s t
keys_of_sources s t h connection is =
    keys_of connection.sizes (lexicon_bytes s) t h.rows
    (rows_along h.connection connection (lexicon_bytes s) (Ok h.rows) (one_value _ h.is_connection is) h.are_rows)
    (h.is_lexicon.0, h.is_lexicon.1, h.tables.lexicon ∙ h.is_lexicon.2)
