-- The known words of a position, surface by surface: those of each prefix of the text that is a
-- surface, the shortest first.
use Rattle.std.proofs.Common.{◌≡◌, ℕ, ◌+◌, ◌≤◌, Bool, true, false, cond, List, [], ◌∷◌, ◌++◌, length, take, map, flat_map, sym, ap, ◌∙◌, refl, arith, inl, inr}
use Rattle.std.specs.Prelude.{filter, bytes_eq}
use Rattle.std.proofs.lemmas.Bool.{lt-ltb}
use Rattle.std.proofs.lemmas.List.{length-take-le}
use Rattle.std.proofs.lemmas.Slice.Eq.{bytes_eq-Decides}
use Rattle.mj_model.specs.declared.word.Word.{Word}
use Rattle.mj_model.specs.declared.word.Origin.TheVariants.{Known}
use Rattle.image_format.specs.ImageMeaning.{entries_under}
use Rattle.mj_model.specs.Lists.{up_to, IsMember}
use Rattle.mj_model.specs.KnownWords.{word_of, known_word, entries_of_length, known_in}
use Rattle.mj_model.specs.Tables.{Lexeme, Token}
use Rattle.mj_model.proofs.Members.{in_up_to}
use Rattle.dict_image.specs.Prefixes.{has_entries, prefix_at, prefixes_in}
use Rattle.mj_model.specs.declared.paths.entry_list.EntryList.TheVariants.{Lexicon}
use Rattle.word_lookup.specs.EntryWords.{entry_word}

-- the words of a surface that is a prefix of the text
abbrev pub prefix_words : ℕ → ℕ → ℕ → ℕ × List Token → List Word
prefix_words dict place start prefix = map (entry_word (Lexicon dict) place start (start + prefix.0)) prefix.1

-- ---- one surface

under_by : (dict place start : ℕ) (key : List ℕ) (n : ℕ) (e : Lexeme) (lexicon : List Lexeme) (b : Bool) → length key ≡ n → bytes_eq e.surface key ≡ b
    → map (known_word place start dict) (filter (λ e. bytes_eq e.surface key) lexicon) ≡ map (entry_word (Lexicon dict) place start (start + n)) (entries_under key lexicon)
    → map (known_word place start dict) (cond b (e ∷ filter (λ e. bytes_eq e.surface key) lexicon) (filter (λ e. bytes_eq e.surface key) lexicon))
    ≡ map (entry_word (Lexicon dict) place start (start + n)) (map (λ (e : Lexeme). e.token) (cond b (e ∷ filter (λ e. bytes_eq e.surface key) lexicon) (filter (λ e. bytes_eq e.surface key) lexicon)))
under_by dict place start key n e lexicon true long test rest =
    let whole : length e.surface ≡ n = ap length ((bytes_eq-Decides e.surface key).0 test) ∙ long in
    ap (λ (k : ℕ). word_of place start (start + k) (Known dict e.token.number) e.token ∷ map (known_word place start dict) (filter (λ e. bytes_eq e.surface key) lexicon)) whole
    ∙ ap (λ (ws : List Word). entry_word (Lexicon dict) place start (start + n) e.token ∷ ws) rest
under_by dict place start key n e lexicon false long test rest = rest

under : (dict place start : ℕ) (key : List ℕ) (n : ℕ) (lexicon : List Lexeme) → length key ≡ n
    → map (known_word place start dict) (filter (λ e. bytes_eq e.surface key) lexicon) ≡ map (entry_word (Lexicon dict) place start (start + n)) (entries_under key lexicon)
under dict place start key n [] long = refl
under dict place start key n (e ∷ lexicon) long = under_by dict place start key n e lexicon (bytes_eq e.surface key) long refl (under dict place start key n lexicon long)

-- ---- all surfaces

-- a prefix without entries has no words
skipped : (dict place start n : ℕ) (ts : List Token) (prefixes : List (ℕ × List Token))
    → prefix_words dict place start (n, ts) ++ flat_map (prefix_words dict place start) prefixes
    ≡ flat_map (prefix_words dict place start) (cond (has_entries (n, ts)) ((n, ts) ∷ prefixes) prefixes)
skipped dict place start n [] prefixes = refl
skipped dict place start n (t ∷ ts) prefixes =
    sym (ap (λ (b : Bool). flat_map (prefix_words dict place start) (cond b ((n, t ∷ ts) ∷ prefixes) prefixes)) (lt-ltb 0 (length (t ∷ ts)) (omega arith)))

found_at : (dict place start : ℕ) (text : List ℕ) (lexicon : List Lexeme) (ns : List ℕ) → ((n : ℕ) → IsMember ns n → n ≤ length text)
    → flat_map (λ n. map (known_word place start dict) (entries_of_length text lexicon n)) ns ≡ flat_map (prefix_words dict place start) (filter has_entries (map (prefix_at text lexicon) ns))
found_at dict place start text lexicon [] within = refl
found_at dict place start text lexicon (n ∷ ns) within =
    let f = λ (n : ℕ). map (known_word place start dict) (entries_of_length text lexicon n) in
    let these = under dict place start (take n text) n lexicon (length-take-le n text (within n (inl refl))) in
    ap (λ (ws : List Word). ws ++ flat_map f ns) these
    ∙ ap (λ (ws : List Word). prefix_words dict place start (prefix_at text lexicon n) ++ ws) (found_at dict place start text lexicon ns (λ m h. within m (inr h)))
    ∙ skipped dict place start n (entries_under (take n text) lexicon) (filter has_entries (map (prefix_at text lexicon) ns))

-- the words of a lexicon are those of the surfaces that are prefixes of the text
pub known_by_prefixes : (dict place start : ℕ) (text : List ℕ) (lexicon : List Lexeme) → known_in place start text dict lexicon ≡ flat_map (prefix_words dict place start) (prefixes_in text lexicon)
known_by_prefixes dict place start text lexicon = found_at dict place start text lexicon (up_to (length text)) (λ n h. (in_up_to (length text) n h).1)
