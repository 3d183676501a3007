-- A source of words for tests: a list of words, each at its own position.
use Rattle.std.specs.Prelude.{ℕ, ℤ, ◌+◌, ◌∷◌, ◌++◌, [], pos, negsuc, nat_eq, nat_lt, nat_le, int_lt, slice_get, List, Bool, ◌&&◌, if◌then◌else◌}
use Rattle.std.specs.Option.{option_map_or}
use Rattle.mj_model.specs.declared.word.Word.{Word}
use Rattle.mj_model.specs.declared.word.Origin.TheVariants.{Known}
use Rattle.mj_model.specs.declared.paths.entry_list.EntryList.TheVariants.{Categories}
use Rattle.mj_model.specs.declared.paths.surface.Surface.{Surface}

-- The word starts at `p`, is not empty, ends in the text, and has a word cost of at most three
-- digits.
abbrev pub lies_at : ℕ → ℕ → Word → Bool
lies_at len p w = nat_eq w.place p && nat_lt p w.end && nat_le w.end len && int_lt (negsuc 999) w.cost && int_lt w.cost (pos 1000)

-- The word `w` with the number `k` as its origin.
abbrev pub numbered : ℕ → Word → Word
numbered k w = record w { origin = Known k 0 }

-- The word `w` with the number `k`, if it lies at `p`.
abbrev pub sample_word : ℕ → ℕ → ℕ → Word → List Word
sample_word k len p w = if lies_at len p w then numbered k w ∷ [] else []

-- The words of a list that lie at `p`. The first word of the list has the number `k`.
abbrev pub sample_words : List Word → ℕ → ℕ → ℕ → List Word
sample_words [] k len p = []
sample_words (w ∷ ws) k len p = sample_word k len p w ++ sample_words ws (k + 1) len p

-- The surface of the word `w` with the number `k`.
abbrev pub surface_of : ℕ → Word → Surface
surface_of k w = record { list = Categories; first = k; count = 1; place = w.place; start = w.start; end = w.end }

-- The surface of the word `w` with the number `k`, if it lies at `p`.
abbrev pub sample_surface : ℕ → ℕ → ℕ → Word → List Surface
sample_surface k len p w = if lies_at len p w then surface_of k w ∷ [] else []

-- The surfaces of a list that lie at `p`. The first word of the list has the number `k`.
abbrev pub sample_surfaces : List Word → ℕ → ℕ → ℕ → List Surface
sample_surfaces [] k len p = []
sample_surfaces (w ∷ ws) k len p = sample_surface k len p w ++ sample_surfaces ws (k + 1) len p

-- The words of a surface: the word with its number.
abbrev pub words_numbered : List Word → Surface → List Word
words_numbered ws s = option_map_or (λ (w : Word). numbered s.first w ∷ []) (slice_get ws s.first) []

-- A connection costs 10 after BOS, 7 between words, 5 before EOS, and 0 from BOS to EOS.
abbrev pub sample_connection : ℕ → ℕ → ℤ
sample_connection right left =
    if nat_eq right 0 then (if nat_eq left 0 then pos 0 else pos 10)
    else (if nat_eq left 0 then pos 5 else pos 7)
