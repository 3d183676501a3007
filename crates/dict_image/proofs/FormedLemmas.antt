-- Consequences of a well-formed image, test by test.
use Rattle.std.proofs.Common.{◌≡◌, ℕ, ◌*◌, ◌<◌, ◌≤◌, List, [], ◌∷◌, ◌++◌, length, refl, arith, subst}
use Rattle.std.specs.Prelude.{IsUtf8}
use Rattle.mj_model.specs.CellRules.{AreCells}
use Rattle.image_format.specs.ImageBytes.{header_of, kind_of, all_tokens, section}
use Rattle.image_format.specs.declared.layout.KeyForm.{KeyForm}
use Rattle.image_format.specs.declared.layout.KeyForm.TheVariants as key
use Rattle.image_format.specs.ImageFaults.{Test, PassAll, IsHeader, AreCounts, AreInfos, SystemAlone, key_tests, token_tests}
use Rattle.image_format.specs.ImageMeaning.{group_in, key_in, lexicon_sections}
use Rattle.image_format.specs.ImageSections.{AreCosts, AreCategories, IsIndex, stored_cells, stored_token, FitsSizes}
use Rattle.image_format.specs.Layouts.{info_form, key_form}
use Rattle.mj_model.specs.Tables.{Kind, System, User}
use Rattle.dict_image.specs.LookupState.{HoldTokens}
use Rattle.dict_image.specs.Validation.Outlines.{IsImage}
use Rattle.dict_image.specs.Groups.{AreGroups}
use Rattle.dict_image.proofs.CellKeys.{AreKeys, groups_of_cells, text_of_cells}
use Rattle.dict_image.proofs.LexiconLemmas.{HasGroups}
use Rattle.dict_image.proofs.ListedOrder.{groups_of_list, text_of_list}

pub is_header : (bytes : List ℕ) → IsImage bytes → IsHeader (header_of bytes)
unfolding IsImage
is_header bytes w = w.1.1.1.1.1.1.0

-- ---- sections of a system dictionary

system_rule : (kind : Kind) (Rule : List ℕ → Type 0) (bytes : List ℕ) → kind ≡ System → SystemAlone kind Rule bytes → Rule bytes
system_rule kind Rule bytes is rule = subst (λ (k : Kind). SystemAlone k Rule bytes) is rule

pub costs_are : (bytes : List ℕ) → kind_of (header_of bytes) ≡ System → IsImage bytes → AreCosts (header_of bytes).sizes (section bytes 1)
unfolding IsImage
costs_are bytes is w = system_rule (kind_of (header_of bytes)) (AreCosts (header_of bytes).sizes) (section bytes 1) is w.1.1.1.1.1.1.1.0

pub categories_are : (bytes : List ℕ) → kind_of (header_of bytes) ≡ System → IsImage bytes → AreCategories (header_of bytes).categories (section bytes 2)
unfolding IsImage
categories_are bytes is w = system_rule (kind_of (header_of bytes)) (AreCategories (header_of bytes).categories) (section bytes 2) is w.1.1.1.1.1.1.1.1.0

pub infos_are : (bytes : List ℕ) → kind_of (header_of bytes) ≡ System → IsImage bytes → AreInfos (info_form (header_of bytes).layout) (header_of bytes).categories (section bytes 3)
unfolding IsImage
infos_are bytes is w = system_rule (kind_of (header_of bytes)) (AreInfos (info_form (header_of bytes).layout) (header_of bytes).categories) (section bytes 3) is w.1.1.1.1.1.1.1.1.1.0

pub unknown_are : (bytes : List ℕ) → kind_of (header_of bytes) ≡ System → IsImage bytes → IsIndex (header_of bytes).categories (header_of bytes).tokens (all_tokens (header_of bytes)) (section bytes 4)
unfolding IsImage
unknown_are bytes is w =
    system_rule (kind_of (header_of bytes)) (IsIndex (header_of bytes).categories (header_of bytes).tokens (all_tokens (header_of bytes))) (section bytes 4) is w.1.1.1.1.1.1.1.1.1.1.0

-- only a system dictionary has categories
kind_by : (kind : Kind) (categories unknown : ℕ) → AreCounts kind categories unknown → 0 < categories → kind ≡ System
kind_by System categories unknown counts some = refl
kind_by User categories unknown counts some = absurd (let none = counts.0 in omega (arith, none, some))

pub system_of_categories : (bytes : List ℕ) (i : ℕ) → IsImage bytes → i < (header_of bytes).categories → kind_of (header_of bytes) ≡ System
system_of_categories bytes i w less = kind_by (kind_of (header_of bytes)) (header_of bytes).categories (header_of bytes).unknown (is_header bytes w).counts (omega (arith, less))

few_by : (kind : Kind) (categories unknown : ℕ) → AreCounts kind categories unknown → categories ≤ 256
few_by System categories unknown counts = let few = counts.1 in omega (arith, few)
few_by User categories unknown counts = let none = counts.0 in omega (arith, none)

pub few_categories : (bytes : List ℕ) → IsImage bytes → (header_of bytes).categories ≤ 256
few_categories bytes w = few_by (kind_of (header_of bytes)) (header_of bytes).categories (header_of bytes).unknown (is_header bytes w).counts

-- ---- sections of every dictionary

pass_parts : (xs ys : List Test) → PassAll (xs ++ ys) → PassAll xs × PassAll ys
pass_parts [] ys p = (tt, p)
pass_parts (x ∷ xs) ys p = let q = pass_parts xs ys p.1 in ((p.0, q.0), q.1)

lexicon_passes : (bytes : List ℕ) → IsImage bytes
    → PassAll (key_tests (key_form (header_of bytes).layout) (header_of bytes).groups (section bytes 5)) × PassAll (token_tests (header_of bytes) (section bytes 6) (section bytes 7) (section bytes 8))
unfolding IsImage
lexicon_passes bytes w =
    pass_parts (key_tests (key_form (header_of bytes).layout) (header_of bytes).groups (section bytes 5)) (token_tests (header_of bytes) (section bytes 6) (section bytes 7) (section bytes 8)) w.1.1.1.1.1.1.1.1.1.1.1

keys_of_cells : (groups : ℕ) (keys : List ℕ) → PassAll (key_tests key.Cells groups keys) → AreKeys groups (stored_cells keys)
keys_of_cells groups keys p = record { rules = p.0.rules; once = p.0.once; keys = p.1.0 }

groups_by : (form : KeyForm) (groups : ℕ) (keys : List ℕ) → PassAll (key_tests form groups keys) → AreGroups groups (key_in form keys) (group_in form groups keys)
groups_by key.Listed groups keys p = groups_of_list groups keys p.0
groups_by key.Cells groups keys p = groups_of_cells groups (stored_cells keys) (keys_of_cells groups keys p)

texts_by : (form : KeyForm) (groups : ℕ) (keys : List ℕ) → PassAll (key_tests form groups keys) → (g : ℕ) → g < groups → IsUtf8 (key_in form keys g)
texts_by key.Listed groups keys p g less = text_of_list groups keys p.0 g less
texts_by key.Cells groups keys p g less = text_of_cells groups (stored_cells keys) g (keys_of_cells groups keys p) less

-- the groups with their keys, which are text
pub keys_are : (bytes : List ℕ) → IsImage bytes → HasGroups (header_of bytes).groups (lexicon_sections bytes)
keys_are bytes w = groups_by (key_form (header_of bytes).layout) (header_of bytes).groups (section bytes 5) (lexicon_passes bytes w).0

pub texts_are : (bytes : List ℕ) → IsImage bytes → (g : ℕ) → g < (header_of bytes).groups → IsUtf8 (key_in (key_form (header_of bytes).layout) (section bytes 5) g)
texts_are bytes w g less = texts_by (key_form (header_of bytes).layout) (header_of bytes).groups (section bytes 5) (lexicon_passes bytes w).0 g less

pub groups_are : (bytes : List ℕ) → IsImage bytes → IsIndex (header_of bytes).groups 0 (header_of bytes).tokens (section bytes 6)
groups_are bytes w = (lexicon_passes bytes w).1.0

-- so many of the tokens, or fewer
pub tokens_are : (bytes : List ℕ) (count : ℕ) → IsImage bytes → count ≤ all_tokens (header_of bytes) → HoldTokens (section bytes 7) (section bytes 8) count
tokens_are bytes count w few =
    let p = (lexicon_passes bytes w).1 in
    let room : length (section bytes 7) ≡ 16 * all_tokens (header_of bytes) = p.1.0 in
    record { room = omega (arith, room, few); each = λ i less. p.1.1.1.0 i (omega (arith, less, few)) }

pub token_fits : (bytes : List ℕ) (i : ℕ) → IsImage bytes → i < all_tokens (header_of bytes) → FitsSizes (header_of bytes).sizes (stored_token (section bytes 7) i)
token_fits bytes i w less = (lexicon_passes bytes w).1.1.1.0 i less

pub cells_are : (bytes : List ℕ) → IsImage bytes → key_form (header_of bytes).layout ≡ key.Cells → AreCells (stored_cells (section bytes 5))
cells_are bytes w form =
    let p = subst (λ (f : KeyForm). PassAll (key_tests f (header_of bytes).groups (section bytes 5))) form (lexicon_passes bytes w).0 in
    ((header_of bytes).groups, p.0.rules)
