-- Four texts parse in at most one way: no spelling of a piece is a prefix of another, so the pieces
-- of a text are unique, and so is the first position at which no piece starts.
use Rattle.std.proofs.Common.{◌≡◌, ℕ, ◌+◌, ◌-◌, ◌<◌, List, [], ◌∷◌, ◌++◌, length, take, drop, refl, sym, ◌∙◌, ap, subst, arith, Option, inl, inr, ◌⊎◌, append_assoc}
use Rattle.std.specs.Prelude.{Result, Ok, Err}
use Rattle.std.proofs.lemmas.List.{length-append, length-drop, take-append-drop}
use Rattle.std.proofs.lemmas.Option.{same_Some}
use Rattle.mj_model.specs.declared.format_fault.FormatPart.{FormatPart}
use Rattle.mj_model.specs.declared.format_fault.FormatPart.TheVariants.{Node, Unk, Bos, Eos}
use Rattle.mj_model.specs.declared.format_fault.FormatKind.{FormatKind}
use Rattle.mj_model.specs.declared.format_fault.FormatFault.{FormatFault}
use Rattle.mj_model.specs.declared.format_fault.FormatFault.TheVariants as fault
use Rattle.mj_model.proofs.Basics.{same_head, same_tail}
use Rattle.out_format.specs.Formats.{Piece, Byte, ItemPiece, byte_of_escape, StartsWithPiece, Reads, IsBadAt, bad_kind, Format, FormatTexts, part_text, IsGood, AreGoodBefore, ReadsFormat, IsFormat}
use Rattle.out_format.proofs.ItemLemmas.{percent_first, one_item}
use Rattle.out_format.proofs.PieceLemmas.{SpelledBy, byte_no_item, rest_shorter}

one_byte : (table : ℕ → Option ℕ) (b d : ℕ) (text front back rest more : List ℕ) → SpelledBy table b front → SpelledBy table d back → text ≡ front ++ rest → text ≡ back ++ more → (b ≡ d) × (rest ≡ more)
one_byte table b d text front back rest more (inl p) (inl q) h k =
    let e : b ∷ rest ≡ d ∷ more = sym (h ∙ ap (λ (xs : List ℕ). xs ++ rest) p.0) ∙ (k ∙ ap (λ (xs : List ℕ). xs ++ more) q.0) in
    (same_head b d rest more e, same_tail b d rest more e)
one_byte table b d text front back rest more (inl p) (inr (c, found, q)) h k =
    let e : b ∷ rest ≡ 92 ∷ c ∷ more = sym (h ∙ ap (λ (xs : List ℕ). xs ++ rest) p.0) ∙ (k ∙ ap (λ (xs : List ℕ). xs ++ more) q) in
    absurd (p.2 (same_head b 92 rest (c ∷ more) e))
one_byte table b d text front back rest more (inr (c, found, p)) (inl q) h k =
    let e : d ∷ more ≡ 92 ∷ c ∷ rest = sym (k ∙ ap (λ (xs : List ℕ). xs ++ more) q.0) ∙ (h ∙ ap (λ (xs : List ℕ). xs ++ rest) p) in
    absurd (q.2 (same_head d 92 more (c ∷ rest) e))
one_byte table b d text front back rest more (inr (c, found, p)) (inr (a, there, q)) h k =
    let e : 92 ∷ c ∷ rest ≡ 92 ∷ a ∷ more = sym (h ∙ ap (λ (xs : List ℕ). xs ++ rest) p) ∙ (k ∙ ap (λ (xs : List ℕ). xs ++ more) q) in
    let f : c ∷ rest ≡ a ∷ more = same_tail 92 92 (c ∷ rest) (a ∷ more) e in
    (same_Some b d (sym found ∙ ap table (same_head c a rest more f) ∙ there), same_tail c a rest more f)

one_piece : (part : FormatPart) (p q : Piece) (text rest more : List ℕ) → StartsWithPiece part p text rest → StartsWithPiece part q text more → (p ≡ q) × (rest ≡ more)
one_piece part (ItemPiece i) (ItemPiece j) text rest more h k =
    let a = percent_first part i h.front h.spelled in
    let e : text ≡ 37 ∷ (a.0 ++ rest) = h.is ∙ ap (λ (xs : List ℕ). xs ++ rest) a.1 in
    let one = one_item part i j (a.0 ++ rest) h.front k.front rest more h.spelled k.spelled (sym e ∙ h.is) (sym e ∙ k.is) in
    (ap ItemPiece one.0, one.1)
one_piece part (ItemPiece i) (Byte d) text rest more h k =
    let a = percent_first part i h.front h.spelled in
    let e : text ≡ 37 ∷ (a.0 ++ rest) = h.is ∙ ap (λ (xs : List ℕ). xs ++ rest) a.1 in
    absurd (byte_no_item byte_of_escape d (a.0 ++ rest) k.front more k.spelled (sym e ∙ k.is))
one_piece part (Byte b) (ItemPiece j) text rest more h k =
    let a = percent_first part j k.front k.spelled in
    let e : text ≡ 37 ∷ (a.0 ++ more) = k.is ∙ ap (λ (xs : List ℕ). xs ++ more) a.1 in
    absurd (byte_no_item byte_of_escape b (a.0 ++ more) h.front rest h.spelled (sym e ∙ h.is))
one_piece part (Byte b) (Byte d) text rest more h k =
    let one = one_byte byte_of_escape b d text h.front k.front rest more h.spelled k.spelled h.is k.is in
    (ap Byte one.0, one.1)

longer : (part : FormatPart) (p : Piece) (text rest done following : List ℕ) → StartsWithPiece part p done rest → text ≡ done ++ following → StartsWithPiece part p text (rest ++ following)
longer part p text rest done following h is = record { front = h.front; spelled = h.spelled; is = is ∙ ap (λ (xs : List ℕ). xs ++ following) h.is ∙ append_assoc h.front rest following }

nothing_begins : (part : FormatPart) (p : Piece) (text rest : List ℕ) → text ≡ [] → StartsWithPiece part p text rest → ⊥
nothing_begins part p text rest none h = let less = rest_shorter part p text rest h in let e : length text ≡ 0 = ap length none in omega (arith, less, e)

one_reading : (part : FormatPart) (ps qs : List Piece) (text : List ℕ) → Reads part ps text → Reads part qs text → ps ≡ qs
one_reading part [] [] text h k = refl
one_reading part [] (q ∷ qs) text h (more, k, reads) = absurd (nothing_begins part q text more h k)
one_reading part (p ∷ ps) [] text (rest, h, reads) k = absurd (nothing_begins part p text rest k h)
one_reading part (p ∷ ps) (q ∷ qs) text (rest, h, reads) (more, k, others) =
    let one = one_piece part p q text rest more h k in
    ap (λ (x : Piece). x ∷ ps) one.0 ∙ ap (λ (xs : List Piece). q ∷ xs) (one_reading part ps qs more (subst (Reads part ps) one.1 reads) others)

-- no piece of the part starts the text
abbrev Stuck : FormatPart → List ℕ → Type 0
Stuck part text = (piece : Piece) (rest : List ℕ) → StartsWithPiece part piece text rest → ⊥

unread : (part : FormatPart) (ps qs : List Piece) (done following text : List ℕ) → text ≡ done ++ following → Reads part ps done → Reads part qs text → 0 < length following → Stuck part following → ⊥
unread part [] [] done following text is h k some stuck =
    let e : length text ≡ length done + length following = ap length is ∙ length-append done following in let none : length text ≡ 0 = ap length k in omega (arith, e, none, some)
unread part [] (q ∷ qs) done following text is h (more, k, reads) some stuck =
    stuck q more (subst (λ (xs : List ℕ). StartsWithPiece part q xs more) (is ∙ ap (λ (xs : List ℕ). xs ++ following) h) k)
unread part (p ∷ ps) [] done following text is (rest, h, reads) k some stuck = nothing_begins part p text (rest ++ following) k (longer part p text rest done following h is)
unread part (p ∷ ps) (q ∷ qs) done following text is (rest, h, reads) (more, k, others) some stuck =
    let one = one_piece part p q text (rest ++ following) more (longer part p text rest done following h is) k in unread part ps qs rest following more (sym one.1) reads others some stuck

not_both : (part : FormatPart) (text : List ℕ) (qs : List Piece) (at : ℕ) (kind : FormatKind) → Reads part qs text → IsBadAt part text at kind → ⊥
not_both part text qs at kind reads bad =
    let within : at < length text = bad.within in
    unread part bad.pieces qs (take at text) (drop at text) text (sym (take-append-drop at text)) bad.before reads (let long = length-drop at text in omega (arith, long, within)) bad.stuck

one_stop : (part : FormatPart) (ps qs : List Piece) (done following other beyond text : List ℕ) → text ≡ done ++ following → text ≡ other ++ beyond → Reads part ps done → Reads part qs other → Stuck part following → Stuck part beyond
    → length following ≡ length beyond
one_stop part [] [] done following other beyond text is also h k stuck no_more =
    ap length (sym (is ∙ ap (λ (xs : List ℕ). xs ++ following) h) ∙ also ∙ ap (λ (xs : List ℕ). xs ++ beyond) k)
one_stop part [] (q ∷ qs) done following other beyond text is also h (more, k, reads) stuck no_more =
    absurd (stuck q (more ++ beyond) (subst (λ (xs : List ℕ). StartsWithPiece part q xs (more ++ beyond)) (is ∙ ap (λ (xs : List ℕ). xs ++ following) h) (longer part q text more other beyond k also)))
one_stop part (p ∷ ps) [] done following other beyond text is also (rest, h, reads) k stuck no_more =
    absurd (no_more p (rest ++ following) (subst (λ (xs : List ℕ). StartsWithPiece part p xs (rest ++ following)) (also ∙ ap (λ (xs : List ℕ). xs ++ beyond) k) (longer part p text rest done following h is)))
one_stop part (p ∷ ps) (q ∷ qs) done following other beyond text is also (rest, h, reads) (more, k, others) stuck no_more =
    let one = one_piece part p q text (rest ++ following) (more ++ beyond) (longer part p text rest done following h is) (longer part q text more other beyond k also) in
    one_stop part ps qs rest following more beyond (rest ++ following) refl one.1 reads others stuck no_more

one_fault : (part : FormatPart) (text : List ℕ) (at to : ℕ) (kind other : FormatKind) → IsBadAt part text at kind → IsBadAt part text to other → (at ≡ to) × (kind ≡ other)
one_fault part text at to kind other h k =
    let a : at < length text = h.within in
    let b : to < length text = k.within in
    let l = one_stop part h.pieces k.pieces (take at text) (drop at text) (take to text) (drop to text) text (sym (take-append-drop at text)) (sym (take-append-drop to text)) h.before k.before h.stuck k.stuck in
    let x : length (drop at text) ≡ length text - at = length-drop at text in
    let y : length (drop to text) ≡ length text - to = length-drop to text in
    let same : at ≡ to = omega (arith, a, b, l, x, y) in
    (same, h.is_kind ∙ ap (λ (n : ℕ). bad_kind part (drop n text)) same ∙ sym k.is_kind)

-- ---- the four parts

good_part : (texts : FormatTexts) (f : Format) (part : FormatPart) → ReadsFormat texts f → IsGood texts part
good_part texts f Node h = (f.node, h.node)
good_part texts f Unk h = (f.unk, h.unk)
good_part texts f Bos h = (f.bos, h.bos)
good_part texts f Eos h = (f.eos, h.eos)

good_not_bad : (texts : FormatTexts) (part : FormatPart) (at : ℕ) (kind : FormatKind) → IsGood texts part → IsBadAt part (part_text texts part) at kind → ⊥
good_not_bad texts part at kind (pieces, reads) bad = not_both part (part_text texts part) pieces at kind reads bad

abbrev Ordered : FormatTexts → FormatPart → FormatPart → Type 0
Ordered texts p q = (p ≡ q) ⊎ (AreGoodBefore texts q → IsGood texts p) ⊎ (AreGoodBefore texts p → IsGood texts q)

ordered : (texts : FormatTexts) (p q : FormatPart) → Ordered texts p q
ordered texts Node Node = inl refl
ordered texts Node Unk = inr (inl (λ h. h))
ordered texts Node Bos = inr (inl (λ h. h.0))
ordered texts Node Eos = inr (inl (λ h. h.0))
ordered texts Unk Node = inr (inr (λ h. h))
ordered texts Unk Unk = inl refl
ordered texts Unk Bos = inr (inl (λ h. h.1))
ordered texts Unk Eos = inr (inl (λ h. h.1))
ordered texts Bos Node = inr (inr (λ h. h.0))
ordered texts Bos Unk = inr (inr (λ h. h.1))
ordered texts Bos Bos = inl refl
ordered texts Bos Eos = inr (inl (λ h. h.2))
ordered texts Eos Node = inr (inr (λ h. h.0))
ordered texts Eos Unk = inr (inr (λ h. h.1))
ordered texts Eos Bos = inr (inr (λ h. h.2))
ordered texts Eos Eos = inl refl

same_format : (f g : Format) → f.node ≡ g.node → f.unk ≡ g.unk → f.bos ≡ g.bos → f.eos ≡ g.eos → f ≡ g
same_format f g node unk bos eos =
    ap (λ (xs : List Piece). record f { node = xs }) node ∙ ap (λ (xs : List Piece). record { node = g.node; unk = xs; bos = f.bos; eos = f.eos }) unk
    ∙ ap (λ (xs : List Piece). record { node = g.node; unk = g.unk; bos = xs; eos = f.eos }) bos ∙ ap (λ (xs : List Piece). record { node = g.node; unk = g.unk; bos = g.bos; eos = xs }) eos

same_part : (texts : FormatTexts) (p q : FormatPart) (at to : ℕ) (kind other : FormatKind) → p ≡ q → IsBadAt p (part_text texts p) at kind → IsBadAt q (part_text texts q) to other
    → fault.Bad q to other ≡ fault.Bad p at kind
same_part texts p q at to kind other e h k =
    let one = one_fault p (part_text texts p) at to kind other h (subst (λ (r : FormatPart). IsBadAt r (part_text texts r) to other) (sym e) k) in
    ap (λ (r : FormatPart). fault.Bad r to other) (sym e) ∙ ap (λ (n : ℕ). fault.Bad p n other) (sym one.0) ∙ ap (λ (x : FormatKind). fault.Bad p at x) (sym one.1)

pub at_most_one_format : (texts : FormatTexts) (read other : Result Format FormatFault) → IsFormat texts read → IsFormat texts other → other ≡ read
at_most_one_format texts (Ok f) (Ok g) h k =
    ap (λ (x : Format). Ok x)
    (same_format g f (one_reading Node g.node f.node (part_text texts Node) k.node h.node) (one_reading Unk g.unk f.unk (part_text texts Unk) k.unk h.unk)
    (one_reading Bos g.bos f.bos (part_text texts Bos) k.bos h.bos) (one_reading Eos g.eos f.eos (part_text texts Eos) k.eos h.eos))
at_most_one_format texts (Ok f) (Err (fault.Bad q to other)) h k = absurd (good_not_bad texts q to other (good_part texts f q h) k.1)
at_most_one_format texts (Ok f) (Err fault.Memory) h k = absurd k
at_most_one_format texts (Err (fault.Bad p at kind)) (Ok g) h k = absurd (good_not_bad texts p at kind (good_part texts g p k) h.1)
at_most_one_format texts (Err fault.Memory) other h k = absurd h
at_most_one_format texts (Err (fault.Bad p at kind)) (Err fault.Memory) h k = absurd k
at_most_one_format texts (Err (fault.Bad p at kind)) (Err (fault.Bad q to other)) h k = elim (ordered texts p q) [
  | inl e ↦ ap (λ (x : FormatFault). Err x) (same_part texts p q at to kind other e h.1 k.1)
  | inr (inl before) ↦ absurd (good_not_bad texts p at kind (before k.0) h.1)
  | inr (inr before) ↦ absurd (good_not_bad texts q to other (before h.0) k.1)
]
