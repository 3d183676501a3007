-- The unknown words of spans, one after another.
use Rattle.std.proofs.Common.{◌≡◌, ℕ, suc, ◌+◌, ◌-◌, ◌<◌, ◌≤◌, List, [], ◌∷◌, ◌++◌, length, get_or, take, map, flat_map, sym, ap, ◌∙◌, arith, add-one, subst}
use Rattle.std.specs.Char.{len_utf8}
use Rattle.std.specs.Prelude.{OnOk, Option, Some, None, Result, Ok, Err}
use Rattle.std.proofs.lemmas.List.{append-nil, get_or-take}
use Rattle.std.proofs.lemmas.List.Concat.{flat_map-append}
use Rattle.mj_model.specs.declared.word.Origin.TheVariants.{Unknown}
use Rattle.mj_model.specs.declared.word.Word.{Word}
use Rattle.mj_model.specs.Lists.{up_to}
use Rattle.mj_model.specs.KnownWords.{word_of}
use Rattle.mj_model.specs.Run.{bytes_of}
use Rattle.mj_model.specs.Tables.{Overlay, Token}
use Rattle.mj_model.specs.Words.{unknown_word}
use Rattle.mj_model.specs.declared.paths.entry_list.EntryList.TheVariants.{Categories}
use Rattle.word_lookup.specs.declared.run.Run.{Run}
use Rattle.word_lookup.specs.declared.spans.Spans.{Spans}
use Rattle.mj_model.specs.declared.paths.surface.Surface.{Surface}
use Rattle.word_lookup.specs.EntryWords.{entry_word}
use Rattle.word_lookup.specs.Spans.{grouped_spans, spans_in}
use Rattle.word_lookup.specs.Surfaces.{GrowsByWords}
use Rattle.word_lookup.specs.UnknownEntries.{words_of_spans}
use Rattle.word_lookup.proofs.RunLemmas.{one_more_byte}
use Rattle.word_lookup.proofs.SurfaceLemmas.{both_grown}

-- the words of entries from a start to an end
from_start : (place start end : ℕ) (ts : List Token) → start ≤ end → map (entry_word Categories place start end) ts ≡ map (unknown_word place start (end - start)) ts
from_start place start end ts low =
    let e : end ≡ start + (end - start) = omega (arith, low) in
    ap (λ (k : ℕ). map (λ (t : Token). word_of place start k (Unknown t.number) t) ts) e

pub words_from_start : (place start end : ℕ) (found ts : List Token) → start ≤ end → found ≡ ts → map (entry_word Categories place start end) found ≡ map (unknown_word place start (end - start)) ts
words_from_start place start end found ts low e = ap (map (entry_word Categories place start end)) e ∙ from_start place start end ts low

-- one length more
pub one_span_more : (place start : ℕ) (cs : List ℕ) (entries : List Token) (n end : ℕ) → end ≡ start + bytes_of (n + 1) cs
    → words_of_spans place start cs entries (up_to n) ++ map (unknown_word place start (end - start)) entries ≡ words_of_spans place start cs entries (up_to (n + 1))
one_span_more place start cs entries n end at =
    let f = λ (k : ℕ). map (unknown_word place start (bytes_of k cs)) entries in
    let far : end - start ≡ bytes_of (n + 1) cs = omega (arith, at) in
    let last : map (unknown_word place start (end - start)) entries ≡ f (suc n) ++ [] =
    ap (λ (b : ℕ). map (unknown_word place start b) entries) far ∙ ap f (add-one n) ∙ sym (append-nil (f (suc n))) in
    ap (λ (xs : List Word). flat_map f (up_to n) ++ xs) last
    ∙ sym (flat_map-append f (up_to n) (suc n ∷ []))
    ∙ ap (λ (m : ℕ). flat_map f (up_to m)) (sym (add-one n))

-- the end of the word of one character more
pub one_character_more : (cs : List ℕ) (start longest k c end : ℕ) → k < length (take longest cs) → k < longest → longest ≤ length cs → c ≡ get_or (take longest cs) k c
    → end ≡ start + bytes_of k cs → end + len_utf8 c ≡ start + bytes_of (k + 1) cs
one_character_more cs start longest k c end less below low at so_far =
    let here : c ≡ get_or cs k c = at ∙ get_or-take longest cs k c below in
    let b = one_more_byte cs k c (omega (arith, below, low)) here in
    omega (arith, b, so_far)

-- ---- all spans

-- the grouped span's words and then those of the lengths
pub grouped_grown : {E : Type 0} (o : Overlay) (place start : ℕ) (cs : List ℕ) (entries : List Token) (spans : Spans) (run : Run) (before one all after : List Surface) (r : Result (Unit {0}) E) → spans.grouped ≡ Some run → run.bytes ≡ bytes_of run.characters cs
    → GrowsByWords o (map (unknown_word place start ((start + run.bytes) - start)) entries) before one → all ≡ one → OnOk r (GrowsByWords o (words_of_spans place start cs entries (up_to spans.longest)) all after)
    → OnOk r (GrowsByWords o (words_of_spans place start cs entries (spans_in spans)) before after)
grouped_grown {E} o place start cs entries spans run before one all after (Ok u) is has first at more =
    let far : (start + run.bytes) - start ≡ bytes_of run.characters cs = omega (arith, has) in
    let here = subst (λ (b : ℕ). GrowsByWords o (map (unknown_word place start b) entries) before one) far first in
    let rest = words_of_spans place start cs entries (up_to spans.longest) in
    let both = both_grown o before one after (map (unknown_word place start (bytes_of run.characters cs)) entries) rest here (subst (λ (xs : List Surface). GrowsByWords o rest xs after) at more) in
    subst (λ (g : Option Run). GrowsByWords o (words_of_spans place start cs entries (grouped_spans g ++ up_to spans.longest)) before after) (sym is) both
grouped_grown {E} o place start cs entries spans run before one all after (Err e) is has first at more = tt

pub lengths_grown : {E : Type 0} (o : Overlay) (place start : ℕ) (cs : List ℕ) (entries : List Token) (spans : Spans) (before all after : List Surface) (r : Result (Unit {0}) E) → spans.grouped ≡ None
    → all ≡ before → OnOk r (GrowsByWords o (words_of_spans place start cs entries (up_to spans.longest)) all after) → OnOk r (GrowsByWords o (words_of_spans place start cs entries (spans_in spans)) before after)
lengths_grown {E} o place start cs entries spans before all after (Ok u) is at more =
    let rest = words_of_spans place start cs entries (up_to spans.longest) in
    subst (λ (g : Option Run). GrowsByWords o (words_of_spans place start cs entries (grouped_spans g ++ up_to spans.longest)) before after) (sym is)
    (subst (λ (xs : List Surface). GrowsByWords o rest xs after) at more)
lengths_grown {E} o place start cs entries spans before all after (Err e) is at more = tt
