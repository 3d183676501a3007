-- Paths of lexicons: their byte order, and what the suffix of a file name implies.
use Rattle.std.proofs.Common.{◌≡◌, ◌≢◌, ℕ, zero, suc, ◌+◌, ◌-◌, ◌≤◌, ◌<◌, All, List, [], ◌∷◌, length, take, drop, get_or, map, eqb, Bool, true, false, refl, ap, sym, ◌∙◌, subst, arith, inl, inr, string_bytes, codes, length-drop, Some, None, MatchBool}
use Rattle.std.proofs.lemmas.Bool.{both_ways, cases_eq, cond_both, eqb-false}
use Rattle.std.proofs.lemmas.List.{get_or-drop, get_or-map, length-map}
use Rattle.std.proofs.lemmas.List.Elements.{All-contains, All-from_get_or, All-take}
use Rattle.std.specs.Cmp.Lexicographic.{slice_cmp}
use Rattle.std.specs.Ordering.{is_lt, nat_cmp}
use Rattle.std.specs.Path.{rfind_below, rsplit_once, slash}
use Rattle.std.specs.Prelude.{IsSorted, Option, String, option_map, string_cmp, unwrap_or}
use Rattle.std.specs.Str.Pattern.{FindsTextSuffix, HasSuffixMatch}
use Rattle.std.specs.declared.alloc.Global.{Global}
use Rattle.programs.specs.Faults.{NamesOneOf}
use Rattle.programs.specs.declared.fault.Fault.{Fault}
use Rattle.jseg_lib.specs.Directories.{IsLexiconIn, NamesReadIn, path_in}

-- a text has no slash from index `from` up to `end`
abbrev LacksFrom : List ℕ → ℕ → ℕ → Type 0
LacksFrom text from end = (i : ℕ) → from ≤ i → i < end → get_or text i 0 ≢ slash

-- the search for the last slash before `end` is right: no slash follows the one found, or there is
-- none
abbrev IsLastSlash : List ℕ → ℕ → Option ℕ → Type 0
IsLastSlash text end None = LacksFrom text 0 end
IsLastSlash text end (Some k) = LacksFrom text (suc k) end

lacks_more : (text : List ℕ) (from n : ℕ) → get_or text n 0 ≢ slash → LacksFrom text from n → LacksFrom text from (suc n)
lacks_more text from n other lacks i low high = elim (cases_eq i n) [
  | inl here ↦ subst (λ k. get_or text k 0 ≢ slash) (sym here) other
  | inr below ↦ lacks i low (omega (arith, high, below))
]

last_more : (text : List ℕ) (n : ℕ) (found : Option ℕ) → get_or text n 0 ≢ slash → IsLastSlash text n found → IsLastSlash text (suc n) found
last_more text n None other lacks = lacks_more text 0 n other lacks
last_more text n (Some k) other lacks = lacks_more text (suc k) n other lacks

last_slash : (text : List ℕ) (n : ℕ) → IsLastSlash text n (rfind_below slash text n)
last_slash text zero = λ i low high. absurd (omega (arith, high))
last_slash text (suc n) =
    cond_both (eqb (get_or text n 0) slash) (Some n) (rfind_below slash text n) (IsLastSlash text (suc n)) (λ _ i low high. absurd (omega (arith, low, high)))
    (λ is. last_more text n (rfind_below slash text n) (eqb-false (get_or text n 0) slash is) (last_slash text n))

abbrev LacksSlash : List ℕ → Type 0
LacksSlash text = All (λ byte. byte ≢ slash) text

name_after : (path : List ℕ) (found : Option ℕ) → IsLastSlash path (length path) found
    → LacksSlash (unwrap_or (option_map (λ (parts : List ℕ × List ℕ). parts.1) (option_map (λ i. (take i path, drop (i + 1) path)) found)) path)
name_after path None lacks = All-from_get_or (λ byte. byte ≢ slash) path 0 (λ i low. lacks i (omega arith) low)
name_after path (Some k) lacks =
    All-from_get_or (λ byte. byte ≢ slash) (drop (k + 1) path) 0 (λ i low.
    let long = length-drop (k + 1) path in
    subst (λ byte. byte ≢ slash) (sym (get_or-drop (k + 1) path i 0)) (lacks ((k + 1) + i) (omega arith) (omega (arith, low, long))))

-- the file name, which follows the last slash of a path, has no slash
pub name_lacks_slash : (path : List ℕ) → LacksSlash (unwrap_or (option_map (λ (parts : List ℕ × List ℕ). parts.1) (rsplit_once slash path)) path)
unfolding rsplit_once
name_lacks_slash path = name_after path (rfind_below slash path (length path)) (last_slash path (length path))

-- a file whose name ends with `.csv` is a lexicon of its directory
pub ends_lexicon : (dir of_file name again path : List ℕ) (ends : Bool) → LacksSlash of_file → name ≡ of_file → again ≡ of_file
    → MatchBool ends (HasSuffixMatch (FindsTextSuffix (codes ".csv")) name) (FindsTextSuffix (codes ".csv") name None) → ends ≡ true
    → path ≡ path_in dir again → IsLexiconIn dir path
ends_lexicon dir of_file name again path false lacks is same cases so joined = absurd (both_ways false refl so)
ends_lexicon dir of_file name again path true lacks is same (n, ends, within, ends_with) so joined = (
  take (length name - n) name,
  All-take (λ byte. byte ≢ slash) (length name - n) name (subst LacksSlash (sym is) lacks),
  joined ∙ ap (path_in dir) (same ∙ sym is ∙ ends.1),
)

-- strings in order have their bytes in order
pub bytes_in_order : (paths : List (String Global)) → IsSorted string_cmp paths → IsSorted (slice_cmp nat_cmp) (map (λ path. string_bytes path) paths)
bytes_in_order [] sorted = λ k d low high. absurd (omega (arith, high))
bytes_in_order (first ∷ others) sorted = λ k d low high.
    let paths : List (String Global) = first ∷ others in
    let bytes : String Global → List ℕ = λ path. string_bytes path in
    let long = length-map paths bytes in
    let within : k + 1 < length paths = omega (arith, high, long) in
    ap (λ next. is_lt (slice_cmp nat_cmp next (get_or (map bytes paths) k d))) (get_or-map bytes paths (k + 1) first d within)
    ∙ ap (λ this. is_lt (slice_cmp nat_cmp (bytes (get_or paths (k + 1) first)) this)) (get_or-map bytes paths k first d (omega (arith, within)))
    ∙ sorted k first low within

-- the error of one of the lexicons of a directory names a source in it
pub one_of_lexicons : (dir : List ℕ) (paths : List (String Global)) (reported : Fault) → All (λ path. IsLexiconIn dir (string_bytes path)) paths
    → NamesOneOf paths reported → NamesReadIn dir reported
one_of_lexicons dir paths reported each (inl memory) = (dir, inl refl, inl memory)
one_of_lexicons dir paths reported each (inr (path, among, named)) =
    (string_bytes path, inr (inr (inr (inr (All-contains (λ path. IsLexiconIn dir (string_bytes path)) paths path each among)))), named)
