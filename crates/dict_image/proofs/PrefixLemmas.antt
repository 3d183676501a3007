-- The keys of a lexicon that are prefixes of a text, with their entries.
use Rattle.std.proofs.Common.{◌≡◌, ℕ, suc, ◌<◌, Bool, true, cond, List, [], ◌∷◌, map, length, take, Option, Some, None, sym, ap, ◌∙◌, refl}
use Rattle.std.specs.List.{AllByRecursion, filter, filter_map, cons_option}
use Rattle.std.specs.Option.{option_map}
use Rattle.std.proofs.lemmas.Bool.{lt-ltb}
use Rattle.image_format.specs.ImageMeaning.{tokens_in, LexiconSections, group_in, lexicon_in, entries_under}
use Rattle.image_format.specs.ImageSections.{index_at}
use Rattle.mj_model.specs.Lists.{up_to}
use Rattle.mj_model.specs.Tables.{Token}
use Rattle.dict_image.specs.Groups.{hit_in, hits_in}
use Rattle.dict_image.specs.Prefixes.{has_entries, prefix_at, prefixes_in, prefix_in}
use Rattle.dict_image.proofs.LexiconLemmas.{HasGroups, entries_of_value, entries_of_none}
use Rattle.dict_image.proofs.TokenLemmas.{some_tokens}

-- of one length, given the value of the key of that length
at_length : (groups : ℕ) (s : LexiconSections) (text : List ℕ) (n : ℕ) (ns : List ℕ) (found : Option ℕ) → HasGroups groups s → ((i : ℕ) → i < groups → index_at s.groups i < index_at s.groups (suc i))
    → group_in s.form groups s.keys (take n text) ≡ found
    → map (prefix_in s) (filter_map (hit_in (group_in s.form groups s.keys) text) ns) ≡ filter has_entries (map (prefix_at text (lexicon_in groups s)) ns)
    → map (prefix_in s) (cons_option (option_map (λ (v : ℕ). (n, v)) found) (filter_map (hit_in (group_in s.form groups s.keys) text) ns)) ≡ filter has_entries (map (prefix_at text (lexicon_in groups s)) (n ∷ ns))
at_length groups s text n ns None are rising h rest =
    let none : entries_under (take n text) (lexicon_in groups s) ≡ [] = entries_of_none groups s (take n text) are h in
    rest ∙ sym (ap (λ (ts : List Token). cond (has_entries (n, ts)) ((n, ts) ∷ filter has_entries (map (prefix_at text (lexicon_in groups s)) ns)) (filter has_entries (map (prefix_at text (lexicon_in groups s)) ns))) none)
at_length groups s text n ns (Some v) are rising h rest =
    let tokens = tokens_in s.tokens s.features s.groups v in
    let these : entries_under (take n text) (lexicon_in groups s) ≡ tokens = entries_of_value groups s (take n text) v are h in
    let more = filter has_entries (map (prefix_at text (lexicon_in groups s)) ns) in
    let some : has_entries (n, tokens) ≡ true = lt-ltb 0 (length tokens) (some_tokens s.tokens s.features s.groups v (rising v (are.below (take n text) v h))) in
    ap (λ (ps : List (ℕ × List Token)). (n, tokens) ∷ ps) rest
    ∙ sym (ap (λ (ts : List Token). cond (has_entries (n, ts)) ((n, ts) ∷ more) more) these ∙ ap (λ (b : Bool). cond b ((n, tokens) ∷ more) more) some)

at_lengths : (groups : ℕ) (s : LexiconSections) (text : List ℕ) (ns : List ℕ) → HasGroups groups s → ((i : ℕ) → i < groups → index_at s.groups i < index_at s.groups (suc i))
    → map (prefix_in s) (filter_map (hit_in (group_in s.form groups s.keys) text) ns) ≡ filter has_entries (map (prefix_at text (lexicon_in groups s)) ns)
at_lengths groups s text [] are rising = refl
at_lengths groups s text (n ∷ ns) are rising = at_length groups s text n ns (group_in s.form groups s.keys (take n text)) are rising refl (at_lengths groups s text ns are rising)

-- the hits in the cells, with their groups' tokens, are the prefixes in the lexicon
pub prefixes_are : (groups : ℕ) (s : LexiconSections) (text : List ℕ) → HasGroups groups s → ((i : ℕ) → i < groups → index_at s.groups i < index_at s.groups (suc i))
    → map (prefix_in s) (hits_in s.form groups s.keys text) ≡ prefixes_in text (lexicon_in groups s)
prefixes_are groups s text are rising = at_lengths groups s text (up_to (length text)) are rising

-- ---- the groups of hits

group_at_length : (groups n : ℕ) (found : Option ℕ) (hits : List (ℕ × ℕ)) → ((g : ℕ) → found ≡ Some g → g < groups)
    → AllByRecursion (λ (hit : ℕ × ℕ). hit.1 < groups) hits → AllByRecursion (λ (hit : ℕ × ℕ). hit.1 < groups) (cons_option (option_map (λ (g : ℕ). (n, g)) found) hits)
group_at_length groups n None hits below rest = rest
group_at_length groups n (Some g) hits below rest = (below g refl, rest)

groups_at_lengths : (groups : ℕ) (group : List ℕ → Option ℕ) (text : List ℕ) (ns : List ℕ) → ((key : List ℕ) (g : ℕ) → group key ≡ Some g → g < groups)
    → AllByRecursion (λ (hit : ℕ × ℕ). hit.1 < groups) (filter_map (hit_in group text) ns)
groups_at_lengths groups group text [] below = tt
groups_at_lengths groups group text (n ∷ ns) below = group_at_length groups n (group (take n text)) (filter_map (hit_in group text) ns) (below (take n text)) (groups_at_lengths groups group text ns below)

pub hits_below : (groups : ℕ) (s : LexiconSections) (text : List ℕ) → HasGroups groups s → AllByRecursion (λ (hit : ℕ × ℕ). hit.1 < groups) (hits_in s.form groups s.keys text)
hits_below groups s text are = groups_at_lengths groups (group_in s.form groups s.keys) text (up_to (length text)) are.below
