-- If the parts before a part are valid, its error is the first error of the format.
use Rattle.std.proofs.Common.{◌≡◌, ℕ, List, refl, sym, ◌∙◌, ap, subst, inl, inr, ◌⊎◌, Bor, Option, Some, None}
use Rattle.std.specs.Prelude.{Err, unwrap_or}
use Rattle.mj_model.specs.declared.format_fault.FormatPart.{FormatPart}
use Rattle.mj_model.specs.declared.format_fault.FormatPart.TheVariants.{Unk}
use Rattle.mj_model.specs.declared.format_fault.FormatFault.{FormatFault}
use Rattle.mj_model.specs.declared.format_fault.FormatFault.TheVariants as fault
use Rattle.out_format.specs.Formats.{FormatTexts, part_text, AreGoodBefore, IsGood, IsBadAt, IsFormat, Reads, Piece}
use Rattle.out_format.specs.FirstItems.{IsFaultOf}
use Rattle.out_format.specs.Texts.{texts_of}

pub first_fault : (texts : FormatTexts) (part : FormatPart) (found : FormatFault) → AreGoodBefore texts part → IsFaultOf part (part_text texts part) found
    → (found ≡ fault.Memory) ⊎ IsFormat texts (Err found)
first_fault texts part fault.Memory before h = inl refl
first_fault texts part (fault.Bad there at kind) before h =
    let P = λ (p : FormatPart). AreGoodBefore texts p × IsBadAt p (part_text texts p) at kind in
    inr (subst P (sym h.0) (before, h.1))

same_text : (node : Bor (List ℕ)) (unk : Option (Bor (List ℕ))) (bos eos : List ℕ) → (unwrap_or unk node).now ≡ part_text (texts_of node.now unk bos eos) Unk
same_text node None bos eos = refl
same_text node (Some text) bos eos = refl

-- the text of unknown words, or the text of known words in its place
pub good_unk : (node : Bor (List ℕ)) (unk : Option (Bor (List ℕ))) (text : Bor (List ℕ)) (bos eos : List ℕ) (pieces : List Piece) → text ≡ unwrap_or unk node → Reads Unk pieces text.now
    → IsGood (texts_of node.now unk bos eos) Unk
good_unk node unk text bos eos pieces is reads =
    (pieces, subst (Reads Unk pieces) (ap (λ (t : Bor (List ℕ)). t.now) is ∙ same_text node unk bos eos) reads)
