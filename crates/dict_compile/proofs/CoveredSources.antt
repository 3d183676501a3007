-- Accepted sources have words for every text: surfaces are UTF-8, entries are numbered
-- consecutively, and the first category of each code point has a row of `unk.def`.
use Rattle.std.proofs.Common.{◌≡◌, ℕ, ◌+◌, ◌<◌, ◌≤◌, List, [], ◌∷◌, length, map, take, inl, inr, sym, ap, ◌∙◌, subst, arith}
use Rattle.std.specs.Prelude.{Option, Some, None, Result, Ok, Err, slice_index_or}
use Rattle.std.specs.List.{AllByRecursion, AllZip, enumerate_from, sum_by}
use Rattle.std.proofs.lemmas.List.{length-map}
use Rattle.std.proofs.lemmas.List.Elements.{All-from_recursion, All-get_or}
use Rattle.std.proofs.lemmas.List.FromFn.{length-enumerate_from}
use Rattle.std.proofs.lemmas.Simd.{map-map}
use Rattle.mj_model.specs.declared.category.CharInfo.{CharInfo}
use Rattle.mj_model.specs.declared.matrix_sizes.MatrixSizes.{MatrixSizes}
use Rattle.mj_model.specs.declared.source_fault.SourceFault.{SourceFault}
use Rattle.mj_model.specs.declared.sources.Sources.{Sources}
use Rattle.mj_model.specs.CharDef.{NamedCategory, char_info, code_point_max}
use Rattle.mj_model.specs.Dictionary.{IsLexiconOf, first_outside, lexeme_of}
use Rattle.mj_model.specs.Lexicon.{Reading, ReadsAs, Row}
use Rattle.mj_model.specs.Lists.{IsMember}
use Rattle.mj_model.specs.SourceTables.{HaveTables, lexicon_bytes}
use Rattle.mj_model.specs.Tables.{HasDistinctTokens, HasText, Lexeme, Tables, Token, lexicons_of}
use Rattle.mj_model.specs.UnkDef.{IsUnkDef, rows_named, rows_or, token_of, unk_outcome, unknown_from, unknown_tokens, unknown_within, check_outside}
use Rattle.char_def.proofs.AcceptedChars.{infos_fit}
use Rattle.char_def.proofs.AcceptedUnk.{lists_formed}
use Rattle.char_def.proofs.UnkFaults.{read_from}
use Rattle.image_writer.proofs.RowLemmas.{tokens_at}
use Rattle.mj_model.proofs.CoveredTexts.{is_covered}
use Rattle.dict_compile.specs.Compilation.{HaveUserTables}
use Rattle.dict_compile.specs.CoveredTexts.{SourcesCoverAll, SourcesCoverTexts, SourcesHaveWords}
use Rattle.dict_compile.proofs.AcceptedTexts.{lexicon_is_text}

-- ---- entries are numbered consecutively

abbrev number_of : Token → ℕ
number_of t = t.number

numbers_from : (n : ℕ) (rows : List Row) (number : ℕ) → IsMember (map number_of (map token_of (enumerate_from n rows))) number → n ≤ number
numbers_from n [] number h = absurd h
numbers_from n (row ∷ rows) number (inl same) = omega (arith, same)
numbers_from n (row ∷ rows) number (inr h) = let low = numbers_from (n + 1) rows number h in omega (arith, low)

numbered_apart : (n : ℕ) (rows : List Row) → HasDistinctTokens (map token_of (enumerate_from n rows))
numbered_apart n [] = tt
numbered_apart n (row ∷ rows) = (λ h. let low = numbers_from (n + 1) rows n h in omega (arith, low), numbered_apart (n + 1) rows)

abbrev AreApartEntries : List Lexeme → Type 0
AreApartEntries lexicon = HasDistinctTokens (map (λ e. e.token) lexicon)

lexicon_apart : (rows : List Row) (lexicon : List Lexeme) → IsLexiconOf rows lexicon → AreApartEntries lexicon
lexicon_apart rows lexicon is =
    subst AreApartEntries (sym is.2)
    (subst HasDistinctTokens (sym (map-map (λ (e : Lexeme). e.token) lexeme_of (enumerate_from 0 is.0))) (numbered_apart 0 is.0))

unknown_apart : (n : ℕ) (unknown : List (List Row)) (i : ℕ) → HasDistinctTokens (unknown_tokens n unknown i)
unknown_apart n unknown i =
    subst HasDistinctTokens (sym (tokens_at n unknown i)) (numbered_apart (n + sum_by length (take i unknown)) (slice_index_or unknown i []))

-- ---- each category has a row

abbrev IsFilled : List Row → Type 0
IsFilled rows = 0 < length rows

an_entry : (n : ℕ) (unknown : List (List Row)) (i : ℕ) → AllByRecursion IsFilled unknown → i < length unknown → 0 < length (unknown_tokens n unknown i)
an_entry n unknown i all less =
    let rows = slice_index_or unknown i [] in
    let first = n + sum_by length (take i unknown) in
    let some = All-get_or IsFilled unknown i [] less (All-from_recursion IsFilled unknown all) in
    let as_rows = ap length (tokens_at n unknown i) in
    let mapped = length-map (enumerate_from first rows) token_of in
    let counted = length-enumerate_from first rows in
    omega (arith, some, as_rows, mapped, counted)

rows_by : (fault : Option SourceFault) (found unknown : List (List Row)) → ◌≡◌ {A = Result (List (List Row)) SourceFault} (Ok unknown) (rows_or fault found)
    → ◌≡◌ {A = Result (List (List Row)) SourceFault} (Ok unknown) (Ok found)
rows_by None found unknown h = h
rows_by (Some fault) found unknown h = absurd (cc)

unless_by : (sizes : MatrixSizes) (rows : List Row) (found : Result (List (List Row)) SourceFault) (unknown : List (List Row)) → Ok unknown ≡ check_outside sizes rows found → Ok unknown ≡ found
unless_by sizes rows (Err fault) unknown h = h
unless_by sizes rows (Ok found) unknown h = rows_by (first_outside 2 sizes rows) found unknown h

unk_by : (sizes : MatrixSizes) (categories : List NamedCategory) (bytes : List ℕ) (unknown : List (List Row)) (reading : Result Reading SourceFault) → ReadsAs (unk_outcome categories) 2 0 bytes reading
    → Ok unknown ≡ unknown_within sizes categories reading → IsUnkDef categories bytes (Ok unknown)
unk_by sizes categories bytes unknown (Err fault) reads h = (Err fault, reads, h)
unk_by sizes categories bytes unknown (Ok lines) reads h = (Ok lines, reads, unless_by sizes lines.rows (unknown_from categories (Ok lines)) unknown h)

as_many : (categories : List NamedCategory) (bytes : List ℕ) (unknown : List (List Row)) → IsUnkDef categories bytes (Ok unknown) → length unknown ≡ length categories
as_many categories bytes unknown h =
    let r = read_from categories bytes unknown h in
    ap length r.rows_are ∙ length-map (enumerate_from 0 categories) (λ (category : ℕ × NamedCategory). rows_named categories r.reading.rows category.0)
    ∙ length-enumerate_from 0 categories

-- ---- the tables of sources

module _ (s : Sources) (t : Tables) (h : HaveTables s t) where
  system_text : AllByRecursion HasText t.lexicon
  system_text = subst (AllByRecursion HasText) (sym h.tables.lexicon) (lexicon_is_text h.connection.sizes (lexicon_bytes s) h.rows h.lexicon h.are_rows h.is_lexicon)

  system_apart : AreApartEntries t.lexicon
  system_apart = subst AreApartEntries (sym h.tables.lexicon) (lexicon_apart h.rows h.lexicon h.is_lexicon)

  categories_apart : (i : ℕ) → HasDistinctTokens (t.unknown i)
  categories_apart i = subst (λ (entries : ℕ → List Token). HasDistinctTokens (entries i)) (sym h.tables.unknown) (unknown_apart (length h.lexicon) h.unknown i)

  system_covers : (c : ℕ) → c ≤ code_point_max → 0 < length (t.unknown (t.info c).head)
  system_covers c within =
      let categories = h.chars.categories in
      let unk = unk_by h.connection.sizes categories s.unk.now h.unknown h.are_unknown.0 h.are_unknown.1 h.are_unknown.2 in
      let low = (infos_fit s.chars.now h.chars h.are_chars c).first_below in
      let many = as_many categories s.unk.now h.unknown unk in
      let some = an_entry (length h.lexicon) h.unknown (char_info h.chars c).head (lists_formed categories s.unk.now h.unknown unk).some (omega (arith, low, many)) in
      subst (λ (entries : ℕ → List Token). 0 < length (entries (t.info c).head)) (sym h.tables.unknown)
      (subst (λ (i : CharInfo). 0 < length (unknown_tokens (length h.lexicon) h.unknown i.head)) (sym (h.tables.info c within)) some)

-- ---- the tables of user dictionaries

users_text : (sizes : MatrixSizes) (users : List (List (List ℕ))) (ts : List Tables) → AllZip (HaveUserTables sizes) users ts → AllByRecursion (AllByRecursion HasText) (lexicons_of ts)
users_text sizes [] [] h = tt
users_text sizes [] (t ∷ ts) h = absurd h
users_text sizes (user ∷ users) [] h = absurd h
users_text sizes (user ∷ users) (t ∷ ts) h = (lexicon_is_text sizes user h.0.rows t.lexicon h.0.are_rows h.0.is_lexicon, users_text sizes users ts h.1)

users_apart : (sizes : MatrixSizes) (users : List (List (List ℕ))) (ts : List Tables) → AllZip (HaveUserTables sizes) users ts → AllByRecursion AreApartEntries (lexicons_of ts)
users_apart sizes [] [] h = tt
users_apart sizes [] (t ∷ ts) h = absurd h
users_apart sizes (user ∷ users) [] h = absurd h
users_apart sizes (user ∷ users) (t ∷ ts) h = (lexicon_apart h.0.rows t.lexicon h.0.is_lexicon, users_apart sizes users ts h.1)

-- ---- overlays

pub have_words : SourcesHaveWords
have_words s users grouping o h = record {
  surfaces = (system_text s o.system h.system, users_text o.system.sizes users o.users h.each_user);
  known_apart = (system_apart s o.system h.system, users_apart o.system.sizes users o.users h.each_user);
  unknown_apart = categories_apart s o.system h.system;
}

pub cover_all : SourcesCoverAll
cover_all s users grouping o h = system_covers s o.system h.system

pub cover_texts : SourcesCoverTexts
cover_texts s users grouping o h = is_covered o (have_words s users grouping o h) (cover_all s users grouping o h)
