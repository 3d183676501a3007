-- The cells of a map from each group's surface to its number hold each group once, under its key.
use Rattle.std.proofs.Common.{◌≡◌, ℕ, zero, suc, ◌+◌, ◌*◌, ◌<◌, ◌≤◌, ℤ, pos, negsuc, inl, inr, List, [], ◌∷◌, ◌++◌, append-nil, length, get_or, Some, sym, ap, ◌∙◌, arith, subst}
use Rattle.std.specs.Prelude.{All, IsUtf8}
use Rattle.std.proofs.lemmas.Bool.{cases_lt}
use Rattle.std.proofs.lemmas.List.{get_or_past}
use Rattle.std.proofs.lemmas.Option.{same_Some}
use Rattle.mj_model.specs.declared.entry.Record.{Record}
use Rattle.mj_model.specs.CellMap.{Cell, free_cell, base, check, walk, codes_of, value_of}
use Rattle.mj_model.specs.CellRules.{AreCells, AreOnKeys, IsBaseAfter, MeetsRules}
use Rattle.image_format.specs.ImageBounds.{cells_max}
use Rattle.image_format.specs.ImageFaults.{HasKey}
use Rattle.image_format.specs.ImageSections.{IsKeyOf, OccursOnce, index_at, key_of, stored_cells}
use Rattle.mj_model.specs.declared.matrix_sizes.MatrixSizes.{MatrixSizes}
use Rattle.mj_model.specs.Lexicon.{Row, rows_of}
use Rattle.lex_source.specs.Lexicons.{IsLexiconRow}
use Rattle.mj_model.proofs.CellWalks.{child_of, step_named, walk_append, walk_first, value_parts}
use Rattle.image_writer.specs.declared.groups.Groups.{Groups}
use Rattle.image_writer.specs.declared.keys.KeyBytes.{KeyBytes}
use Rattle.image_writer.specs.Entries.{no_row, surface_at}
use Rattle.image_writer.specs.Groups.{AreGroups, AreGrouped, MapsGroups}
use Rattle.image_writer.specs.Sections.{AreKeyBytes}
use Rattle.image_writer.proofs.GroupLemmas.{starts_below}
use Rattle.image_writer.proofs.GroupingLemmas.{most_of_all}
use Rattle.image_format.proofs.ImageKeys.{key_is}

-- ---- value cells

-- a value cell ends the key that it is a step of
pub record EndsKey (cells : List Cell) (t v : ℕ) : Type 0 where
  pub key : List ℕ
  pub value : value_of cells key ≡ Some v
  pub led : walk cells 0 (codes_of key) ≡ Some t

no_further : (values : ℕ) (cells : List Cell) (t v c : ℕ) (cs : List ℕ) (u : ℕ) → MeetsRules values cells → base cells t ≡ negsuc v → walk cells t (c ∷ cs) ≡ Some u → ⊥
no_further values cells t v c cs u rules holds h =
    let first = walk_first cells t c cs u h in
    let child = child_of values cells t first.0 rules (step_named cells t c first.0 first.1) in
    let e : pos child.from ≡ negsuc v = sym child.based ∙ holds in absurd (cc)

whole_prefix : (values : ℕ) (cells : List Cell) (t v u : ℕ) (front back codes : List ℕ) → MeetsRules values cells → base cells t ≡ negsuc v → front ++ back ≡ codes → walk cells 0 front ≡ Some t → walk cells 0 codes ≡ Some u → front ≡ codes
whole_prefix values cells t v u front [] codes rules holds is led all = sym (append-nil front) ∙ is
whole_prefix values cells t v u front (c ∷ cs) codes rules holds is led all =
    absurd (no_further values cells t v c cs u rules holds (sym (walk_append cells 0 front (c ∷ cs) t led) ∙ ap (walk cells 0) is ∙ all))

pub ends_key : (values : ℕ) (cells : List Cell) (t s v : ℕ) → MeetsRules values cells → AreOnKeys cells → check cells t ≡ pos s → base cells t ≡ negsuc v → EndsKey cells t v
ends_key values cells t s v rules keys named holds =
    let k = keys t s named in
    let p = value_parts cells k.key k.value k.there in
    let front : k.front ≡ codes_of k.key = whole_prefix values cells t v p.0 k.front k.back (codes_of k.key) rules holds k.codes k.led p.1.led in
    let led : walk cells 0 (codes_of k.key) ≡ Some t = ap (walk cells 0) (sym front) ∙ k.led in
    let here : p.0 ≡ t = same_Some p.0 t (sym p.1.led ∙ led) in
    let same : negsuc k.value ≡ negsuc v = sym p.1.holds ∙ ap (base cells) here ∙ holds in
    let one : k.value ≡ v = cc in
    record { key = k.key; value = k.there ∙ ap Some one; led = led }

-- ---- each group once

bounded : (values n code : ℕ) (z : ℤ) → ((v : ℕ) → z ≡ negsuc v → v < n) → IsBaseAfter values code z → IsBaseAfter n code z
bounded values n zero z below h = (h.0, below h.0 h.2, h.2)
bounded values n (suc code) z below h = h

module _ (rows : List Row) (seen : ℕ) (starts : List ℕ) (cells : List Cell) (maps : MapsGroups rows seen starts cells) (values : ℕ) (rules : MeetsRules values cells) (keys : AreOnKeys cells) where
  below : (t s v : ℕ) → check cells t ≡ pos s → base cells t ≡ negsuc v → v < length starts
  below t s v named holds = let k = ends_key values cells t s v rules keys named holds in (maps.only k.key v k.value).0

  pub group_rules : MeetsRules (length starts) cells
  group_rules = record {
    root_check = rules.root_check;
    root_base = rules.root_base;
    others = λ t above less. elim (rules.others t above less) [
      | inl free ↦ inl free
      | inr u ↦ inr (record {
        state = u.state;
        from = u.from;
        code = u.code;
        named = u.named;
        within = u.within;
        based = u.based;
        positive = u.positive;
        near = u.near;
        place = u.place;
        holds = bounded values (length starts) u.code (base cells t) (λ v at. below t u.state v u.named at) u.holds;
      })
    ];
  }

  value_within : (t v : ℕ) → base cells t ≡ negsuc v → t < length cells
  value_within t v at = elim (cases_lt t (length cells)) [
    | inl less ↦ less
    | inr past ↦ let e : base cells t ≡ pos 0 = ap (λ (x : Cell). x.0) (get_or_past cells t free_cell past) in absurd (cc)
  ]

  no_root : (t v : ℕ) → base cells t ≡ negsuc v → 0 < t
  no_root zero v at = let r = rules.root_base in let e : pos r.0 ≡ negsuc v = sym r.1 ∙ at in absurd (cc)
  no_root (suc t) v at = omega arith

  named_value : (t v : ℕ) → base cells t ≡ negsuc v → (s : ℕ) × (check cells t ≡ pos s)
  named_value t v at = elim (rules.others t (no_root t v at) (value_within t v at)) [
    | inl free ↦ let e : base cells t ≡ pos 0 = ap (λ (x : Cell). x.0) free in absurd (cc)
    | inr u ↦ (u.state, u.named)
  ]

  pub appears_once : (g : ℕ) → g < length starts → OccursOnce cells g
  appears_once g less =
      let key : List ℕ = surface_at rows (get_or starts g seen) in
      let p = value_parts cells key g (maps.there g less) in
      record {
        place = p.0;
        holds = p.1.holds;
        only = λ t at.
            let s = named_value t g at in
            let k = ends_key values cells t s.0 g rules keys s.1 at in
            let same : k.key ≡ key = (maps.only k.key g k.value).1 in
            same_Some t p.0 (sym k.led ∙ ap (λ (other : List ℕ). walk cells 0 (codes_of other)) same ∙ p.1.led);
      }

-- ---- the keys of the groups

pub texts_of : (records : List Record) (i : ℕ) → i < length (rows_of records) → IsUtf8 (surface_at (rows_of records) i)
texts_of [] i less = absurd (omega (arith, less))
texts_of (r ∷ rs) zero less = r.is_text
texts_of (r ∷ rs) (suc i) less = texts_of rs i (omega (arith, less))

key_of_group : (sizes : MatrixSizes) (rows : List Row) → All (IsLexiconRow sizes) rows → ((i : ℕ) → i < length rows → IsUtf8 (surface_at rows i))
    → (starts : List ℕ) (cells : List Cell) → AreGroups rows (length rows) starts → MapsGroups rows (length rows) starts cells
    → (g : ℕ) → g < length starts → IsKeyOf cells g (surface_at rows (get_or starts g (length rows)))
key_of_group sizes rows each texts starts cells groups maps g less =
    let i : ℕ = get_or starts g (length rows) in
    let low = starts_below rows (length rows) starts groups g less in
    let row = each i no_row low in
    record { some = row.some; short = row.short; is_text = texts i low; value = maps.there g less }

pub key_bytes : (sizes : MatrixSizes) (rows : List Row) → All (IsLexiconRow sizes) rows → ((i : ℕ) → i < length rows → IsUtf8 (surface_at rows i))
    → (groups : Groups) (bytes : KeyBytes) → AreGrouped rows (length rows) groups
    → stored_cells bytes.cells.items ≡ groups.array → length bytes.cells.items ≡ 8 * length groups.array → length groups.array ≤ cells_max → AreCells groups.array → AreOnKeys groups.array
    → length bytes.index.items ≡ 4 * (length groups.starts.items + 1) → ((g : ℕ) → g < length groups.starts.items + 1 → index_at bytes.index.items g ≡ get_or groups.starts.items g (length rows))
    → bytes.groups ≡ length groups.starts.items → AreKeyBytes rows bytes
key_bytes sizes rows each texts groups bytes grouped same fill most formed keys index_fill numbers count =
    let n : ℕ = length rows in
    let starts : List ℕ = groups.starts.items in
    let rules = group_rules rows n starts groups.array grouped.map formed.0 formed.1 keys in
    let once = appears_once rows n starts groups.array grouped.map formed.0 formed.1 keys in
    let key = key_of_group sizes rows each texts starts groups.array grouped.are_groups grouped.map in
    let some : 0 < length groups.array = some_cells formed.0 groups.array formed.1 in
    let index : List ℕ = bytes.index.items in
    let below : (g : ℕ) → g < bytes.groups → g < length starts = λ g less. omega (arith, less, count) in
    record {
      hold_keys = record {
        once = record {
          whole = omega (arith, fill);
          some = omega (arith, fill, some);
          few = omega (arith, fill, most);
          rules = subst (λ (n : ℕ). MeetsRules n (stored_cells bytes.cells.items)) (sym count) (subst (MeetsRules (length starts)) (sym same) rules);
          once = λ g less. subst (λ (cs : List Cell). OccursOnce cs g) (sym same) (once g (below g less));
        };
        keys = λ g less. subst (λ (cs : List Cell). HasKey cs g) (sym same) (surface_at rows (get_or starts g n), key g (below g less));
      };
      cells = record {
        few = let m = grouped.most in let all = most_of_all rows n in omega (arith, fill, m, all);
        on_keys = subst AreOnKeys (sym same) keys;
      };
      is_index = record {
        fills = index_fill ∙ ap (λ (n : ℕ). 4 * (n + 1)) (sym count);
        first = numbers 0 (omega arith) ∙ grouped.are_groups.first;
        rising = λ g less.
            let low = below g less in
            let a = numbers g (omega (arith, low)) in
            let b = numbers (suc g) (omega (arith, low)) in
            let r = grouped.are_groups.rising g low in
            omega (arith, a, b, r);
        last = ap (index_at index) count ∙ numbers (length starts) (omega arith) ∙ get_or_past starts (length starts) n (omega arith);
      };
      few = let f = grouped.are_groups.few in omega (arith, f, count);
      entries = record {
        alike = λ g i less from to.
            let low = below g less in
            let a = numbers g (omega (arith, low)) in
            let b = numbers (suc g) (omega (arith, low)) in
            grouped.are_groups.alike g i low (omega (arith, a, from)) (omega (arith, b, to))
            ∙ sym (ap (λ (cs : List Cell). key_of cs g) same ∙ key_is (length starts) groups.array g (surface_at rows (get_or starts g n)) rules (once g low) (key g low));
      };
    } where
      some_cells : (values : ℕ) (cs : List Cell) → MeetsRules values cs → 0 < length cs
      some_cells values [] rules = let e : negsuc 0 ≡ negsuc 1 = rules.root_check in absurd (cc)
      some_cells values (x ∷ cs) rules = omega arith
