-- The entries of a lexicon under a key are the tokens of the key's group.
--
-- Of the groups of a lexicon at most one has a key, since no two groups have one key.
use Rattle.std.proofs.Common.{◌≡◌, ℕ, zero, suc, ◌+◌, ◌<◌, ◌≤◌, Bool, true, false, List, [], ◌∷◌, ◌++◌, map, append-nil, Some, None, inl, inr, sym, ap, ◌∙◌, refl, arith, subst}
use Rattle.std.specs.List.{filter, flat_map, range_with_len}
use Rattle.std.specs.Str.{bytes_eq}
use Rattle.std.proofs.lemmas.Bool.{cases_eq, false_from_ne_true}
use Rattle.std.proofs.lemmas.List.{map-append}
use Rattle.std.proofs.lemmas.List.Elements.{filter-append}
use Rattle.std.proofs.lemmas.Option.{same_Some, none-some}
use Rattle.std.proofs.lemmas.Slice.Eq.{bytes_eq-Decides}
use Rattle.image_format.specs.ImageMeaning.{tokens_in, entry_under, LexiconSections, entries_of_group, group_in, key_in, lexicon_in, entries_under}
use Rattle.mj_model.specs.Tables.{Token, Lexeme}
use Rattle.dict_image.specs.Groups.{AreGroups}

-- ---- entries under a key

under_append : (key : List ℕ) (xs ys : List Lexeme) → entries_under key (xs ++ ys) ≡ entries_under key xs ++ entries_under key ys
under_append key xs ys =
    let keep : Lexeme → Bool = λ e. bytes_eq e.surface key in
    let token : Lexeme → Token = λ e. e.token in
    ap (map token) (filter-append keep xs ys) ∙ map-append token (filter keep xs) (filter keep ys)

under_same : (key surface : List ℕ) (ts : List Token) → bytes_eq surface key ≡ true → entries_under key (map (entry_under surface) ts) ≡ ts
under_same key surface [] same = refl
under_same key surface (t ∷ ts) same = rw same (ap (λ (xs : List Token). t ∷ xs) (under_same key surface ts same))

under_other : (key surface : List ℕ) (ts : List Token) → bytes_eq surface key ≡ false → entries_under key (map (entry_under surface) ts) ≡ []
under_other key surface [] other = refl
under_other key surface (t ∷ ts) other = rw other (under_other key surface ts other)

abbrev tokens_of : LexiconSections → ℕ → List Token
tokens_of s g = tokens_in s.tokens s.features s.groups g

abbrev key_at : LexiconSections → ℕ → List ℕ
key_at s g = key_in s.form s.keys g

abbrev has_key : LexiconSections → List ℕ → ℕ → Bool
has_key s key g = bytes_eq (key_at s g) key

none_in : (s : LexiconSections) (key : List ℕ) (a n : ℕ) → ((g : ℕ) → a ≤ g → g < a + n → has_key s key g ≡ false) → entries_under key (flat_map (entries_of_group s) (range_with_len a n)) ≡ []
none_in s key a zero others = refl
none_in s key a (suc n) others =
    let first = under_other key (key_at s a) (tokens_of s a) (others a (omega arith) (omega arith)) in
    let rest = none_in s key (a + 1) n (λ g low high. others g (omega (arith, low)) (omega (arith, high))) in
    under_append key (entries_of_group s a) (flat_map (entries_of_group s) (range_with_len (a + 1) n))
    ∙ ap (λ (xs : List Token). xs ++ entries_under key (flat_map (entries_of_group s) (range_with_len (a + 1) n))) first ∙ rest

one_in : (s : LexiconSections) (key : List ℕ) (v a n : ℕ) → a ≤ v → v < a + n → has_key s key v ≡ true → ((g : ℕ) → g < a + n → (g ≡ v → ⊥) → has_key s key g ≡ false)
    → entries_under key (flat_map (entries_of_group s) (range_with_len a n)) ≡ tokens_of s v
one_in s key v a zero low high here others = absurd (omega (arith, low, high))
one_in s key v a (suc n) low high here others =
    let rest = flat_map (entries_of_group s) (range_with_len (a + 1) n) in under_append key (entries_of_group s a) rest ∙ elim (cases_eq a v) [
      | inl same ↦
          let first = subst (λ (g : ℕ). has_key s key g ≡ true) (sym same) here in
          let none = none_in s key (a + 1) n (λ g above below. others g (omega (arith, below)) (λ e. omega (arith, e, same, above))) in
          ap (λ (xs : List Token). xs ++ entries_under key rest) (under_same key (key_at s a) (tokens_of s a) first)
          ∙ ap (λ (xs : List Token). tokens_of s a ++ xs) none ∙ append-nil (tokens_of s a) ∙ ap (tokens_of s) same
      | inr other ↦
          let first = others a (omega arith) other in
          ap (λ (xs : List Token). xs ++ entries_under key rest) (under_other key (key_at s a) (tokens_of s a) first)
          ∙ one_in s key v (a + 1) n (omega (arith, low, other)) (omega (arith, high)) here (λ g below apart. others g (omega (arith, below)) apart)
    ]

-- the keys of a lexicon's groups, and the group of a key
abbrev pub HasGroups : ℕ → LexiconSections → Type 0
HasGroups groups s = AreGroups groups (key_in s.form s.keys) (group_in s.form groups s.keys)

-- a group whose key is not the key
other_key : (groups : ℕ) (s : LexiconSections) (key : List ℕ) (g : ℕ) → HasGroups groups s → g < groups → (group_in s.form groups s.keys key ≡ Some g → ⊥) → has_key s key g ≡ false
other_key groups s key g are less other =
    false_from_ne_true (has_key s key g) (λ h. other (subst (λ (k : List ℕ). group_in s.form groups s.keys k ≡ Some g) ((bytes_eq-Decides (key_at s g) key).0 h) (are.has_key g less)))

-- the entries under a key that has a group
pub entries_of_value : (groups : ℕ) (s : LexiconSections) (key : List ℕ) (v : ℕ) → HasGroups groups s → group_in s.form groups s.keys key ≡ Some v → entries_under key (lexicon_in groups s) ≡ tokens_of s v
entries_of_value groups s key v are h =
    let below = are.below key v h in
    one_in s key v 0 groups (omega arith) (omega (arith, below)) ((bytes_eq-Decides (key_at s v) key).1 (are.key_is key v h))
    (λ g less apart. other_key groups s key g are (omega (arith, less)) (λ e. apart (same_Some g v (sym e ∙ h))))

-- the entries under a key that has none
pub entries_of_none : (groups : ℕ) (s : LexiconSections) (key : List ℕ) → HasGroups groups s → group_in s.form groups s.keys key ≡ None → entries_under key (lexicon_in groups s) ≡ []
entries_of_none groups s key are h =
    none_in s key 0 groups (λ g low less. other_key groups s key g are (omega (arith, less)) (λ e. none-some g (sym h ∙ e)))
