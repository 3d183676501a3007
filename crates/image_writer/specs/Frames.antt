-- The header of an image, and the sections it describes.
use Rattle.std.specs.Prelude.{◌≡◌, ℕ, ℤ, suc, ◌^◌, ◌<◌, List, [], ◌∷◌, ◌++◌, length, map, flat_map, take, slice_index_or}
use Rattle.std.specs.List.{AllByRecursion}
use Rattle.byteorder.specs.Endian.{little_bytes}
use Rattle.image_format.specs.declared.header.Header.{Header}
use Rattle.image_format.specs.declared.layout.TheConstants.{LAYOUT}
use Rattle.image_format.specs.DictKinds.{IsKind, number_of_kind}
use Rattle.image_format.specs.ImageBytes.{header_of, image_magic, section, total_length}
use Rattle.image_format.specs.ImageFaults.{HasDigest}
use Rattle.std.specs.Borrow.{Bor}
use Rattle.image_writer.specs.declared.lexicon_bytes.LexiconBytes.{LexiconBytes}
use Rattle.image_writer.specs.Places.{joined_texts}
use Rattle.image_writer.specs.StoredTables.{cost_section}

-- the header fields of 4 bytes, in their order
abbrev pub number_list : Header → List ℕ
number_list h = h.layout ∷ number_of_kind h.kind ∷ h.sizes.right ∷ h.sizes.left ∷ h.categories ∷ h.groups ∷ h.tokens ∷ h.unknown ∷ []

abbrev pub number_bytes : Header → List ℕ
number_bytes h = flat_map (little_bytes 4) (number_list h)

-- the bytes of the lengths of the sections
abbrev pub length_bytes : List ℕ → List ℕ
length_bytes lengths = flat_map (little_bytes 8) lengths

abbrev pub header_bytes : Header → List ℕ
header_bytes h = image_magic ++ (number_bytes h ++ length_bytes h.lengths)

-- numbers that fit 4 bytes
abbrev pub AreSmall : List ℕ → Type 0
AreSmall numbers = AllByRecursion (λ n. n < 2 ^ 32) numbers

-- numbers that fit 8 bytes
abbrev pub AreShort : List ℕ → Type 0
AreShort lengths = AllByRecursion (λ n. n < 2 ^ 64) lengths

-- a header of the newest layout and a known kind, with the lengths of these sections
pub record IsHeaderFor (sections : List (List ℕ)) (h : Header) : Type 0 where
  pub layout : h.layout ≡ LAYOUT
  pub kind : IsKind h.kind
  pub lengths : h.lengths ≡ map length sections

-- the sections of an image: costs, six that are given as bytes, and features without separators
abbrev pub all_sections : List ℤ → List (Bor (List ℕ)) → List (Bor (List ℕ)) → List (List ℕ)
all_sections costs others features = cost_section costs ∷ (map (λ (section : Bor (List ℕ)). section.now) others ++ joined_texts features ∷ [])

-- the sections of an image from its costs, categories, ranges, unknown index and lexicon
abbrev pub sections_with : List ℕ → List ℕ → List ℕ → List ℕ → LexiconBytes → List (List ℕ)
sections_with costs categories ranges index bytes =
    costs ∷ categories ∷ ranges ∷ index ∷ bytes.keys.items ∷ bytes.groups.items ∷ bytes.tokens.items ∷ joined_texts bytes.features.items ∷ []

-- an image with this header and these sections
pub record IsFramed (h : Header) (sections : List (List ℕ)) (image : List ℕ) : Type 0 where
  pub magic : take 8 image ≡ image_magic
  pub header : header_of image ≡ h
  pub sections_are : (k : ℕ) → k < 8 → section image (suc k) ≡ slice_index_or sections k []
  pub whole : length image ≡ total_length h
  pub digest : HasDigest image
