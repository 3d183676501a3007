-- Key prefixes extended by a byte, and the cache of cells.
use Rattle.std.proofs.Common.{◌≡◌, ℕ, suc, ◌+◌, ◌<◌, List, [], ◌∷◌, ◌++◌, append_assoc, append-nil, length, map, replicate, set, Option, Some, None, IsUtf8, inl, inr, sym, ap, ◌∙◌, refl, arith, subst}
use Rattle.std.proofs.lemmas.Bool.{cases_lt, cases_eq}
use Rattle.std.proofs.lemmas.List.{length-append, length-set, length-replicate, map-append, get_or-set_same, get_or-set_other, get_or-replicate, get_or_past}
use Rattle.std.proofs.lemmas.Option.{same_Some, none-some}
use Rattle.std.proofs.lemmas.Str.{IsUtf8-nil}
use Rattle.mj_model.specs.declared.limits.TheConstants.{SURFACE_MAX}
use Rattle.mj_model.specs.CellMap.{Cell, step, walk}
use Rattle.mj_model.proofs.CellWalks.{walk_more, walk_none}
use Rattle.dict_image.specs.declared.validation.key_prefix.KeyPrefix.{KeyPrefix}
use Rattle.dict_image.specs.declared.validation.utf8_state.Utf8State.{Utf8State}
use Rattle.dict_image.specs.declared.validation.utf8_state.Utf8State.TheVariants.{Between, OneTail, TwoTails, ThreeTails, AfterE0, AfterEd, AfterF0, AfterF4, Broken}
use Rattle.dict_image.specs.Validation.Utf8States.{Accepts, IsAfter, HasUtf8State}
use Rattle.dict_image.specs.Validation.KeyPrefixes.{IsKeyPrefix, IsKeyPrefixOf, AreKeyPrefixes, key_prefix_at}

-- ---- one more byte, and none

state_more : (bytes : List ℕ) (state next : Utf8State) (byte : ℕ) → HasUtf8State bytes state → IsAfter state byte next → HasUtf8State (bytes ++ byte ∷ []) next
state_more bytes state next byte is after more =
    let e : (bytes ++ byte ∷ []) ++ more ≡ bytes ++ byte ∷ more = append_assoc bytes (byte ∷ []) more in (
      λ u. (after more).0 ((is (byte ∷ more)).0 (subst IsUtf8 e u)),
      λ accepts. subst IsUtf8 (sym e) ((is (byte ∷ more)).1 ((after more).1 accepts)),
    )

pub prefix_more : (key : List ℕ) (prefix : KeyPrefix) (byte : ℕ) (next : Utf8State) → IsKeyPrefix key prefix → prefix.length < SURFACE_MAX → IsAfter prefix.state byte next → IsKeyPrefix (key ++ byte ∷ []) (record { length = prefix.length + 1; state = next })
prefix_more key prefix byte next is below after =
    let long = is.long in
    let more = length-append key (byte ∷ []) in
    record { long = omega (arith, long, more); short = omega (arith, long, more, below); lies = state_more key prefix.state next byte is.lies after }

pub is_text : (key : List ℕ) (prefix : KeyPrefix) → IsKeyPrefix key prefix → prefix.state ≡ Between → IsUtf8 key
is_text key prefix is between = subst IsUtf8 (append-nil key) ((is.lies []).1 (subst (λ (state : Utf8State). Accepts state []) (sym between) IsUtf8-nil))

none_at_end : (state : Utf8State) → (state ≡ Between → ⊥) → Accepts state [] → ⊥
none_at_end Between other accepts = other refl
none_at_end OneTail other accepts = accepts
none_at_end TwoTails other accepts = accepts
none_at_end ThreeTails other accepts = accepts
none_at_end AfterE0 other accepts = accepts
none_at_end AfterEd other accepts = accepts
none_at_end AfterF0 other accepts = accepts
none_at_end AfterF4 other accepts = accepts
none_at_end Broken other accepts = accepts

pub is_no_text : (key : List ℕ) (prefix : KeyPrefix) → IsKeyPrefix key prefix → (prefix.state ≡ Between → ⊥) → IsUtf8 key → ⊥
is_no_text key prefix is other text = none_at_end prefix.state other ((is.lies []).0 (subst IsUtf8 (sym (append-nil key)) text))

-- ---- one step more

pub led_more : (cells : List Cell) (key : List ℕ) (s t byte : ℕ) → walk cells 0 (map suc key) ≡ Some s → step cells s (suc byte) ≡ Some t → walk cells 0 (map suc (key ++ byte ∷ [])) ≡ Some t
led_more cells key s t byte led at = ap (walk cells 0) (map-append suc key (byte ∷ [])) ∙ walk_more cells (map suc key) s (suc byte) t led at

-- ---- the cache

abbrev AreTrue : List Cell → List (Option KeyPrefix) → Type 0
AreTrue cells prefixes = (t : ℕ) (prefix : KeyPrefix) → key_prefix_at prefixes t ≡ Some prefix → IsKeyPrefixOf cells t prefix

set_true : (cells : List Cell) (prefixes : List (Option KeyPrefix)) (s : ℕ) (prefix : KeyPrefix) → AreTrue cells prefixes → s < length prefixes → IsKeyPrefixOf cells s prefix → AreTrue cells (set prefixes s (Some prefix))
set_true cells prefixes s prefix true within is t other at = elim (cases_eq t s) [
  | inl same ↦
      let e : key_prefix_at (set prefixes s (Some prefix)) t ≡ Some prefix = ap (key_prefix_at (set prefixes s (Some prefix))) same ∙ get_or-set_same prefixes s (Some prefix) None within in
      let f : prefix ≡ other = same_Some prefix other (sym e ∙ at) in
      subst (λ (u : ℕ). IsKeyPrefixOf cells u other) (sym same) (subst (IsKeyPrefixOf cells s) f is)
  | inr apart ↦ true t other (sym (get_or-set_other prefixes s t (Some prefix) None apart) ∙ at)
]

-- one more cached cell
pub prefixes_set : (cells : List Cell) (prefixes : List (Option KeyPrefix)) (s : ℕ) (prefix : KeyPrefix) → AreKeyPrefixes cells prefixes → s < length cells → IsKeyPrefixOf cells s prefix → AreKeyPrefixes cells (set prefixes s (Some prefix))
prefixes_set cells prefixes s prefix are within is =
    let many = are.many in
    let below : s < length prefixes = omega (arith, many, within) in record {
      many = length-set prefixes s (Some prefix) ∙ are.many;
      root = elim (cases_eq 0 s) [
        | inl same ↦ (prefix, ap (key_prefix_at (set prefixes s (Some prefix))) same ∙ get_or-set_same prefixes s (Some prefix) None below)
        | inr apart ↦ (are.root.0, get_or-set_other prefixes s 0 (Some prefix) None apart ∙ are.root.1)
      ];
      each = set_true cells prefixes s prefix are.each below is;
    }

-- at first only cell 0 is cached
none_known : (n t : ℕ) → key_prefix_at (replicate n None) t ≡ None
none_known n t = elim (cases_lt t n) [
  | inl less ↦ get_or-replicate n t None None less
  | inr past ↦ let e = length-replicate {A = Option KeyPrefix} n None in get_or_past (replicate n None) t None (omega (arith, e, past))
]

pub prefixes_started : (cells : List Cell) (prefixes : List (Option KeyPrefix)) (prefix : KeyPrefix) → 0 < length cells → prefixes ≡ replicate (length cells) None → IsKeyPrefix [] prefix → AreKeyPrefixes cells (set prefixes 0 (Some prefix))
prefixes_started cells prefixes prefix some unknown is =
    let many : length prefixes ≡ length cells = ap length unknown ∙ length-replicate (length cells) None in
    let below : 0 < length prefixes = omega (arith, many, some) in record {
      many = length-set prefixes 0 (Some prefix) ∙ many;
      root = (prefix, get_or-set_same prefixes 0 (Some prefix) None below);
      each = set_true cells prefixes 0 prefix (λ t other at. absurd (none-some other (sym (ap (λ (xs : List (Option KeyPrefix)). key_prefix_at xs t) unknown ∙ none_known (length cells) t) ∙ at))) below
          (record { key = []; led = walk_none cells 0; known = is });
    }
