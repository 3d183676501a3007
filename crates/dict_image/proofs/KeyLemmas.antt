-- The way back by CHECK from the cell of a group's value, and the key along it.
use Rattle.std.proofs.Common.{◌≡◌, ◌≢◌, ℕ, zero, suc, ◌+◌, ◌-◌, ◌<◌, ◌≤◌, ◌↔◌, ℤ, pos, negsuc, Bool, List, [], ◌∷◌, ◌++◌, length, map, reverse, Some, IsUtf8, IsTrue, sym, ap, ◌∙◌, refl, arith, subst}
use Rattle.std.proofs.lemmas.List.{length-append, length-map, length-reverse, reverse-append}
use Rattle.mj_model.specs.declared.limits.TheConstants.{SURFACE_MAX}
use Rattle.mj_model.specs.CellMap.{Cell, base, check, step, walk, codes_of}
use Rattle.mj_model.specs.CellRules.{IsBaseAfter, MeetsRules}
use Rattle.image_format.specs.ImageFaults.{HasKey}
use Rattle.image_format.specs.ImageSections.{OccursOnce, IsKeyOf, bytes_to}
use Rattle.mj_model.proofs.Basics.{same_pos}
use Rattle.mj_model.proofs.CellWalks.{child_of, step_named, walk_append, walk_first, walk_is_one, walk_none, walk_one, walk_more, value_parts, value_from}
use Rattle.image_format.proofs.ImageKeys.{walk_same, key_state, bytes_back, bytes_of_key}
use Rattle.dict_image.proofs.ValueLemmas.{root_within}
use Rattle.dict_image.specs.declared.validation.key_prefix.KeyPrefix.{KeyPrefix}
use Rattle.dict_image.specs.Validation.KeyPrefixes.{IsKeyPrefix, IsKeyPrefixOf, IsTooFar}
use Rattle.dict_image.specs.Validation.PathsToKnown.{IsState, LeadOn}

-- ---- a step back

pub some_cells : (values : ℕ) (cells : List Cell) → MeetsRules values cells → 0 < length cells
some_cells values cells rules = root_within cells (record { root_check = rules.root_check; root_base = rules.root_base })

pub is_state : (values : ℕ) (cells : List Cell) (s t : ℕ) → MeetsRules values cells → check cells t ≡ pos s → IsState cells s
is_state values cells s t rules named =
    let i = child_of values cells s t rules named in
    record { within = i.within; from = i.from; based = i.based; positive = i.positive }

code_of_state : (values code : ℕ) (z : ℤ) (b : ℕ) → IsBaseAfter values code z → z ≡ pos b → 1 ≤ code
code_of_state values zero z b h at = let e = h.2 in absurd (cc)
code_of_state values (suc c) z b h at = omega arith

code_of_value : (values code : ℕ) (z : ℤ) (v : ℕ) → IsBaseAfter values code z → z ≡ negsuc v → code ≡ 0
code_of_value values zero z v h at = refl
code_of_value values (suc c) z v h at = let e = h.2 in absurd (cc)

-- the byte of a step back
pub record IsByteBack (cells : List Cell) (s t b : ℕ) : Type 0 where
  pub above : b + 1 ≤ t
  pub byte : t - b - 1 < 256
  pub led : step cells s (suc (t - b - 1)) ≡ Some t

pub byte_back : (values : ℕ) (cells : List Cell) (s t b : ℕ) → MeetsRules values cells → IsState cells t → check cells t ≡ pos s → base cells s ≡ pos b → IsByteBack cells s t b
byte_back values cells s t b rules state named at =
    let i = child_of values cells s t rules named in
    let from : i.from ≡ b = same_pos i.from b (sym i.based ∙ at) in
    let some = code_of_state values i.code (base cells t) state.from i.holds state.based in
    let place = i.place in
    let near = i.near in
    let code : i.code ≡ suc (t - b - 1) = omega (arith, from, some, place) in
    record { above = omega (arith, from, some, place); byte = omega (arith, code, near); led = subst (λ (c : ℕ). step cells s c ≡ Some t) code i.led }

-- the step to the cell of a value
pub end_of_key : (values : ℕ) (cells : List Cell) (group s t : ℕ) → MeetsRules values cells → base cells t ≡ negsuc group → check cells t ≡ pos s → step cells s 0 ≡ Some t
end_of_key values cells group s t rules holds named =
    let i = child_of values cells s t rules named in
    subst (λ (c : ℕ). step cells s c ≡ Some t) (code_of_value values i.code (base cells t) group i.holds holds) i.led

-- ---- one way back

-- walks of equal codes to one cell start at one state
pub same_begin : (cells : List Cell) (codes : List ℕ) (s r t : ℕ) → walk cells s codes ≡ Some t → walk cells r codes ≡ Some t → s ≡ r
same_begin cells [] s r t a b = walk_same cells s t a ∙ sym (walk_same cells r t b)
same_begin cells (c ∷ codes) s r t a b =
    let u = walk_first cells s c codes t a in
    let v = walk_first cells r c codes t b in
    let same = same_begin cells codes u.0 v.0 t u.2 v.2 in
    same_pos s r (sym (step_named cells s c u.0 u.1) ∙ ap (check cells) same ∙ step_named cells r c v.0 v.1)

no_bytes : (cells : List Cell) (s : ℕ) → bytes_to cells 0 s ≡ []
unfolding bytes_to
no_bytes cells s = refl

bytes_back_to : (values : ℕ) (cells : List Cell) (s t : ℕ) (key : List ℕ) → MeetsRules values cells → walk cells s (map suc key) ≡ Some t → bytes_to cells (length key) t ≡ key
bytes_back_to values cells s t key rules led =
    let n : length key ≡ length key + 0 = omega arith in
    ap (λ (k : ℕ). bytes_to cells k t) n ∙ bytes_back values cells 0 s t key rules led ∙ ap (λ (prefix : List ℕ). prefix ++ key) (no_bytes cells s)

-- `SURFACE_MAX` bytes, and a cell other than 0
pub too_long : (values : ℕ) (cells : List Cell) (s t : ℕ) (bytes key : List ℕ) → MeetsRules values cells → s ≢ 0 → walk cells s (map suc bytes) ≡ Some t → length key ≤ length bytes → walk cells 0 (map suc key) ≡ Some t → ⊥
too_long values cells s t bytes key rules other led few whole =
    let same : key ≡ bytes = sym (bytes_of_key values cells (length bytes) t key rules few whole) ∙ bytes_back_to values cells s t bytes rules led in
    let again : walk cells 0 (map suc bytes) ≡ Some t = subst (λ (xs : List ℕ). walk cells 0 (map suc xs) ≡ Some t) same whole in
    other (same_begin cells (map suc bytes) s 0 t led again)

-- ---- the states on the way

-- one more state on the way back
pub one_passed : (cells : List Cell) (s t to : ℕ) (path : List ℕ) → check cells t ≡ pos s → IsState cells t → LeadOn cells t (reverse path) to → LeadOn cells s (reverse (path ++ t ∷ [])) to
one_passed cells s t to path named state leads = subst (λ (ts : List ℕ). LeadOn cells s ts to) (sym (reverse-append path (t ∷ []))) (named, state, leads)

-- the last state on the way back is the first one on the way from there
pub first_of_path : (cells : List Cell) (s t to : ℕ) (path rest : List ℕ) → path ≡ rest ++ t ∷ [] → LeadOn cells s (reverse path) to → LeadOn cells s (t ∷ reverse rest) to
first_of_path cells s t to path rest e leads = subst (λ (ts : List ℕ). LeadOn cells s ts to) (ap reverse e ∙ reverse-append rest (t ∷ [])) leads

-- bytes that lead through the states
pub bytes_over : (values : ℕ) (cells : List Cell) (s to : ℕ) (ts : List ℕ) → MeetsRules values cells → LeadOn cells s ts to → (bytes : List ℕ) × (length bytes ≡ length ts) × (walk cells s (map suc bytes) ≡ Some to)
bytes_over values cells s to [] rules leads = ([], refl, walk_none cells s ∙ ap Some leads)
bytes_over values cells s to (t ∷ ts) rules leads =
    let i = child_of values cells s t rules leads.0 in
    let back = byte_back values cells s t i.from rules leads.1 leads.0 i.based in
    let rest = bytes_over values cells t to ts rules leads.2 in
    ((t - i.from - 1) ∷ rest.0, ap suc rest.1, walk_one cells s (suc (t - i.from - 1)) (map suc rest.0) t back.led ∙ rest.2)

-- a way back over `SURFACE_MAX` states that does not end at cell 0
pub path_too_long : (values : ℕ) (cells : List Cell) (s to : ℕ) (path : List ℕ) → MeetsRules values cells → s ≢ 0 → LeadOn cells s (reverse path) to → length path ≡ SURFACE_MAX → IsTooFar cells to
path_too_long values cells s to path rules other leads long key few led =
    let over = bytes_over values cells s to (reverse path) rules leads in
    let many = over.1 in
    let same = length-reverse path in
    too_long values cells s to over.0 key rules other over.2 (omega (arith, few, many, same, long)) led

-- a state with too many bytes before it
pub too_far_on : (values : ℕ) (cells : List Cell) (t to : ℕ) (ts bytes : List ℕ) → MeetsRules values cells → walk cells 0 (map suc bytes) ≡ Some t → SURFACE_MAX < length bytes → LeadOn cells t ts to → IsTooFar cells to
too_far_on values cells t to ts bytes rules led many leads key few whole =
    let over = bytes_over values cells t to ts rules leads in
    let all : walk cells 0 (map suc bytes ++ map suc over.0) ≡ Some to = walk_append cells 0 (map suc bytes) (map suc over.0) t led ∙ over.2 in
    let same : length (map suc key) ≡ length (map suc bytes ++ map suc over.0) = ap length (walk_is_one values cells (map suc key) (map suc bytes ++ map suc over.0) to rules whole all) in
    let a = length-append (map suc bytes) (map suc over.0) in
    let b = length-map key suc in
    let c = length-map bytes suc in
    omega (arith, same, a, b, c, few, many)

-- ---- the key of a group

-- a group's key leads to the state before the cell of its value
pub key_walk : (cells : List Cell) (group place state : ℕ) (key : List ℕ) → OccursOnce cells group → base cells place ≡ negsuc group → check cells place ≡ pos state → IsKeyOf cells group key → walk cells 0 (map suc key) ≡ Some state
key_walk cells group place state key once holds named is =
    let v = value_parts cells key group is.value in
    let s = key_state cells key v.0 v.1.led in
    let at : v.0 ≡ place = once.only v.0 v.1.holds ∙ sym (once.only place holds) in
    let same : s.0 ≡ state = same_pos s.0 state (sym (step_named cells s.0 0 v.0 s.2) ∙ ap (check cells) at ∙ named) in
    subst (λ (i : ℕ). walk cells 0 (map suc key) ≡ Some i) same s.1

codes_led : (cells : List Cell) (key : List ℕ) (s t : ℕ) → walk cells 0 (map suc key) ≡ Some s → step cells s 0 ≡ Some t → walk cells 0 (codes_of key) ≡ Some t
unfolding codes_of
codes_led cells key s t led end = walk_more cells (map suc key) s 0 t led end

pub key_found : (values : ℕ) (cells : List Cell) (group place state : ℕ) (key : List ℕ) → MeetsRules values cells → base cells place ≡ negsuc group → check cells place ≡ pos state → walk cells 0 (map suc key) ≡ Some state
    → 1 ≤ length key → length key ≤ SURFACE_MAX → IsUtf8 key → IsKeyOf cells group key
key_found values cells group place state key rules holds named led some short text = record {
  some = some;
  short = short;
  is_text = text;
  value = value_from cells key group place (record { some = omega (arith, some); led = codes_led cells key state place led (end_of_key values cells group state place rules holds named); holds = holds });
}

-- the bytes that lead to the state of a group's value are its key if and only if they are UTF-8 of
-- at least 1 byte
pub key_by_prefix : (values : ℕ) (cells : List Cell) (group place state : ℕ) (prefix : KeyPrefix) (is_key : Bool) → MeetsRules values cells → OccursOnce cells group → base cells place ≡ negsuc group → check cells place ≡ pos state
    → IsKeyPrefixOf cells state prefix → ((key : List ℕ) → IsKeyPrefix key prefix → IsTrue is_key ↔ ((1 ≤ length key) × IsUtf8 key)) → IsTrue is_key ↔ HasKey cells group
key_by_prefix values cells group place state prefix is_key rules once holds named of says =
    let short = of.known.short in (
      λ t. let k = (says of.key of.known).0 t in (of.key, key_found values cells group place state of.key rules holds named of.led k.0 short k.1),
      λ has.
          let whole = key_walk cells group place state has.0 once holds named has.1 in
          let same : has.0 ≡ of.key = sym (bytes_of_key values cells SURFACE_MAX state has.0 rules has.1.short whole) ∙ bytes_of_key values cells SURFACE_MAX state of.key rules short of.led in
          (says of.key of.known).1 (subst (λ (key : List ℕ). (1 ≤ length key) × IsUtf8 key) same (has.1.some, has.1.is_text)),
    )

-- a group has no key if its state is too far
pub no_key_there : (cells : List Cell) (group place state : ℕ) → OccursOnce cells group → base cells place ≡ negsuc group → check cells place ≡ pos state → IsTooFar cells state → HasKey cells group → ⊥
no_key_there cells group place state once holds named far has = far has.0 has.1.short (key_walk cells group place state has.0 once holds named has.1)
