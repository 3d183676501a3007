-- Looking a key up, by the form of the keys.
use Rattle.std.proofs.Common.{◌≡◌, ℕ, ◌^◌, ◌≤◌, List, sym, ap, ◌∙◌, arith}
use Rattle.mj_model.specs.CellMap.{prefixes_of}
use Rattle.image_format.specs.declared.layout.KeyForm.{KeyForm}
use Rattle.image_format.specs.declared.layout.KeyForm.TheVariants as key
use Rattle.image_format.specs.ImageBytes.{header_of}
use Rattle.image_format.specs.ImageSections.{stored_cells}
use Rattle.dict_image.specs.Groups.{hits_in}
use Rattle.dict_image.specs.Validation.Outlines.{IsImage}
use Rattle.dict_image.specs.KeyLists.{KeyList}
use Rattle.dict_image.specs.ListedHits.{listed_hits_after}
use Rattle.dict_image.proofs.FormedLemmas.{is_header}
use Rattle.dict_image.proofs.ListedHitLemmas.{all_hits}

abbrev list_of : ℕ → List ℕ → KeyList
list_of groups bytes = record { bytes = bytes; count = groups }

pub hits_of_list : (form : KeyForm) (groups : ℕ) (bytes text : List ℕ) (list : KeyList) → form ≡ key.Listed → list ≡ list_of groups bytes → listed_hits_after list text 0 ≡ hits_in form groups bytes text
hits_of_list form groups bytes text list is same =
    ap (λ (l : KeyList). listed_hits_after l text 0) same ∙ all_hits (list_of groups bytes) text ∙ ap (λ (f : KeyForm). hits_in f groups bytes text) (sym is)

pub hits_of_cells : (form : KeyForm) (groups : ℕ) (bytes text : List ℕ) → form ≡ key.Cells → prefixes_of (stored_cells bytes) text ≡ hits_in form groups bytes text
unfolding prefixes_of
hits_of_cells form groups bytes text is = ap (λ (f : KeyForm). hits_in f groups bytes text) (sym is)

-- there are few groups
pub few_groups : (bytes : List ℕ) → IsImage bytes → (header_of bytes).groups ≤ 2 ^ 32
few_groups bytes w = let a = (is_header bytes w).groups_have_tokens in let b = (is_header bytes w).few_tokens in omega (arith, a, b)
