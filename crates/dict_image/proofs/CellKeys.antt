-- The keys of groups in cells: two groups never have one key, since a key has one value in the cells.
use Rattle.std.specs.Prelude.{IsUtf8}
use Rattle.std.proofs.Common.{◌≡◌, ℕ, ◌<◌, List, Some, sym, ◌∙◌, subst}
use Rattle.mj_model.specs.CellMap.{Cell, walk, codes_of, value_of}
use Rattle.mj_model.specs.CellRules.{MeetsRules}
use Rattle.image_format.specs.ImageFaults.{HasKey}
use Rattle.image_format.specs.ImageSections.{OccursOnce, key_of}
use Rattle.mj_model.proofs.Basics.{same_negsuc}
use Rattle.mj_model.proofs.CellWalks.{value_parts, step_child, walk_is_one}
use Rattle.mj_model.proofs.KeyWalks.{same_key}
use Rattle.image_format.proofs.ImageKeys.{key_state, key_is}
use Rattle.dict_image.specs.Groups.{AreGroups}

-- the cells of a lexicon of so many groups: they meet the rules, hold each group once, and each group has a key
pub record AreKeys (groups : ℕ) (cells : List Cell) : Type 0 where
  pub rules : MeetsRules groups cells
  pub once : (group : ℕ) → group < groups → OccursOnce cells group
  pub keys : (group : ℕ) → group < groups → HasKey cells group

-- a key's value is the number of a group
value_below : (groups : ℕ) (cells : List Cell) (key : List ℕ) (v : ℕ) → MeetsRules groups cells → value_of cells key ≡ Some v → v < groups
value_below groups cells key v rules h =
    let at = value_parts cells key v h in
    let s = key_state cells key at.0 at.1.led in
    let held = (step_child groups cells s.0 0 at.0 rules s.2).1 in
    subst (λ (n : ℕ). n < groups) (same_negsuc held.0 v (sym held.2 ∙ at.1.holds)) held.1

-- a group has one key
one_key : (groups : ℕ) (cells : List Cell) (k l : List ℕ) (v : ℕ) → MeetsRules groups cells → OccursOnce cells v → value_of cells k ≡ Some v → value_of cells l ≡ Some v → k ≡ l
one_key groups cells k l v rules once a b =
    let p = value_parts cells k v a in
    let q = value_parts cells l v b in
    let same : q.0 ≡ p.0 = once.only q.0 q.1.holds ∙ sym (once.only p.0 p.1.holds) in
    same_key k l (walk_is_one groups cells (codes_of k) (codes_of l) p.0 rules p.1.led (subst (λ (t : ℕ). walk cells 0 (codes_of l) ≡ Some t) same q.1.led))

-- the value of a group's key is the group
key_value : (groups : ℕ) (cells : List Cell) (group : ℕ) → AreKeys groups cells → group < groups → value_of cells (key_of cells group) ≡ Some group
key_value groups cells group are less =
    let k = are.keys group less in
    subst (λ (key : List ℕ). value_of cells key ≡ Some group) (sym (key_is groups cells group k.0 are.rules (are.once group less) k.1)) k.1.value

-- the key of the group that a key has as its value
key_of_value : (groups : ℕ) (cells : List Cell) (key : List ℕ) (v : ℕ) → AreKeys groups cells → value_of cells key ≡ Some v → key_of cells v ≡ key
key_of_value groups cells key v are h =
    let less = value_below groups cells key v are.rules h in one_key groups cells (key_of cells v) key v are.rules (are.once v less) (key_value groups cells v are less) h

-- the groups of cells, with their keys
pub groups_of_cells : (groups : ℕ) (cells : List Cell) → AreKeys groups cells → AreGroups groups (key_of cells) (value_of cells)
groups_of_cells groups cells are = record {
  below = λ key v h. value_below groups cells key v are.rules h;
  has_key = λ group less. key_value groups cells group are less;
  key_is = λ key v h. key_of_value groups cells key v are h;
}

-- the key of a group is text
pub text_of_cells : (groups : ℕ) (cells : List Cell) (group : ℕ) → AreKeys groups cells → group < groups → IsUtf8 (key_of cells group)
text_of_cells groups cells group are less =
    let k = are.keys group less in
    subst IsUtf8 (sym (key_is groups cells group k.0 are.rules (are.once group less) k.1)) k.1.is_text
