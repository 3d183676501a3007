-- The formats that have a name read as they are made.
use Rattle.std.proofs.Common.{◌≡◌, ℕ, ◌==◌, true, false, arith, List, [], ◌∷◌, refl, sym, subst, inl, Result, Ok, Err}
use Rattle.std.specs.Prelude.{codes, IfOk}
use Rattle.std.specs.declared.alloc.AllocError.{AllocError}
use Rattle.std.proofs.lemmas.Bool.{eqb-false}
use Rattle.mj_model.specs.declared.format_item.FormatItem.TheVariants as item
use Rattle.mj_model.specs.declared.format_fault.FormatPart.{FormatPart}
use Rattle.mj_model.specs.declared.format_fault.FormatPart.TheVariants.{Node, Unk, Eos}
use Rattle.out_format.specs.Formats.{Byte, ItemPiece, includes, StartsWithPiece, Reads, Format, FormatTexts, ReadsFormat}
use Rattle.out_format.specs.declared.items.AllowedIn.TheVariants.{Words}
use Rattle.out_format.specs.Texts.{all_alike, default_texts, wakati_texts}
use Rattle.out_format.proofs.PieceLemmas.{begins_byte, begins_escape}

surface : (part : FormatPart) (rest : List ℕ) → includes Words part ≡ true → StartsWithPiece part (ItemPiece item.Surface) (37 ∷ 109 ∷ rest) rest
surface part rest may = record { front = codes "%m"; spelled = inl (record { letters = codes "m"; texts = Words; row = (0, omega arith, refl); may = may; is = refl }); is = refl }

feature : (part : FormatPart) (rest : List ℕ) → includes Words part ≡ true → StartsWithPiece part (ItemPiece item.Feature) (37 ∷ 72 ∷ rest) rest
feature part rest may = record { front = codes "%H"; spelled = inl (record { letters = codes "H"; texts = Words; row = (3, omega arith, refl); may = may; is = refl }); is = refl }

plain : (part : FormatPart) (b : ℕ) (rest : List ℕ) → (b == 37) ≡ false → (b == 92) ≡ false → StartsWithPiece part (Byte b) (b ∷ rest) rest
plain part b rest not_item not_escape = begins_byte part b rest (eqb-false b 37 not_item) (eqb-false b 92 not_escape)

default_line : (part : FormatPart) → includes Words part ≡ true → Reads part (ItemPiece item.Surface ∷ Byte 0x09 ∷ ItemPiece item.Feature ∷ Byte 0x0a ∷ []) (codes "%m\\t%H\\n")
default_line part may = (
  codes "\\t%H\\n",
  surface part (codes "\\t%H\\n") may,
  (
    codes "%H\\n",
    begins_escape part 116 0x09 (codes "%H\\n") refl,
    (
      codes "\\n",
      feature part (codes "\\n") may,
      ([], begins_escape part 110 0x0a [] refl, refl),
    ),
  ),
)

default_end : Reads Eos (Byte 69 ∷ Byte 79 ∷ Byte 83 ∷ Byte 0x0a ∷ []) (codes "EOS\\n")
default_end = (
  codes "OS\\n",
  plain Eos 69 (codes "OS\\n") refl refl,
  (
    codes "S\\n",
    plain Eos 79 (codes "S\\n") refl refl,
    (
      codes "\\n",
      plain Eos 83 (codes "\\n") refl refl,
      ([], begins_escape Eos 110 0x0a [] refl, refl),
    ),
  ),
)

wakati_word : (part : FormatPart) → includes Words part ≡ true → Reads part (ItemPiece item.Surface ∷ Byte 0x20 ∷ []) (codes "%m\\s")
wakati_word part may = (codes "\\s", surface part (codes "\\s") may, ([], begins_escape part 115 0x20 [] refl, refl))

wakati_end : Reads Eos (Byte 0x0a ∷ []) (codes "\\n")
wakati_end = ([], begins_escape Eos 110 0x0a [] refl, refl)

as_made : (texts : FormatTexts) (made : Format) (r : Result Format AllocError) → ReadsFormat texts made → IfOk r (λ f. f ≡ made) → IfOk r (ReadsFormat texts)
as_made texts made (Ok f) reads is = subst (ReadsFormat texts) (sym is) reads
as_made texts made (Err e) reads is = tt

pub default_reads : (r : Result Format AllocError)
    → IfOk r (λ f. f ≡ all_alike (ItemPiece item.Surface ∷ Byte 0x09 ∷ ItemPiece item.Feature ∷ Byte 0x0a ∷ []) (Byte 69 ∷ Byte 79 ∷ Byte 83 ∷ Byte 0x0a ∷ [])) → IfOk r (ReadsFormat default_texts)
default_reads r is =
    as_made default_texts _ r (record { node = default_line Node refl; unk = default_line Unk refl; bos = refl; eos = default_end }) is

pub wakati_reads : (r : Result Format AllocError) → IfOk r (λ f. f ≡ all_alike (ItemPiece item.Surface ∷ Byte 0x20 ∷ []) (Byte 0x0a ∷ [])) → IfOk r (ReadsFormat wakati_texts)
wakati_reads r is = as_made wakati_texts _ r (record { node = wakati_word Node refl; unk = wakati_word Unk refl; bos = refl; eos = wakati_end }) is
