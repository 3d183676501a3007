use Rattle.std.proofs.Common.{rules, arith, ◌≡◌, ℕ, ◌+◌, List, length, sym, ap, ◌∙◌, refl, subst}
use Rattle.std.specs.Prelude.{chars}
use Rattle.std.proofs.lemmas.Iterator.{YieldsList-from_chars, YieldsList-from_take}
use Rattle.std.proofs.lemmas.Iterator.Consumers.{YieldsList-turn, YieldsList-end}
use Rattle.std.proofs.lemmas.List.{length_push, length-take}
use Rattle.mj_model.specs.declared.word.Word.{Word}
use Rattle.mj_model.specs.Lists.{up_to}
use Rattle.mj_model.specs.Run.{bytes_of}
use Rattle.mj_model.proofs.CharBytes.{chars_within}
use Rattle.word_lookup.specs.Overlays.{overlay_of}
use Rattle.word_lookup.specs.Surfaces.{GrowsByWords}
use Rattle.word_lookup.specs.UnknownEntries.{entries_of, words_of_spans}
use Rattle.word_lookup.proofs.SurfaceLemmas.{both_grown, grown_prefix, grown_kept, none_grown}
use Rattle.word_lookup.proofs.UnknownWords.{one_span_more, one_character_more}
use Rattle.word_lookup.proofs.unknown_entries.UnknownEntries.append_lengths.Goals as goal

pub loop-c-init : goal.loop-c-init
loop-c-init c = record { grown = none_grown (overlay_of c.args.self.dictionaries) c.args.out.now.items; end_is = omega arith }

pub overflow_add-end : goal.overflow_add-end
overflow_add-end c =
    let cs = chars c.args.at.rest.now in
    let t = YieldsList-turn (YieldsList-from_take c.args.longest (YieldsList-from_chars c.args.at.rest.now c.args.at.is_text cc) cc) c.loop-c.yielded _ c.loop-c.yielded_by _ _ c.in-Some.c c.in-Some.is c.next.ensures.steps in
    let len = length-take c.args.longest cs in
    let more = one_character_more cs c.args.at.start c.args.longest (length c.loop-c.yielded) c.in-Some.c c.loop-c.end t.0 (omega (arith, t.0, len)) c.requires t.1 c.loop-c.invariant.end_is in
    let all = chars_within c.args.at.rest.now (length c.loop-c.yielded + 1) c.args.at.is_text in
    omega (arith, more, all, c.args.at.fits, c.len_utf8-end.ensures.value)

pub loop-c-preserved : goal.loop-c-preserved
loop-c-preserved c =
    let o = overlay_of c.args.self.dictionaries in
    let cs = chars c.args.at.rest.now in
    let ts = entries_of c.args.self in
    let t = YieldsList-turn (YieldsList-from_take c.args.longest (YieldsList-from_chars c.args.at.rest.now c.args.at.is_text cc) cc) c.loop-c.yielded _ c.loop-c.yielded_by _ _ c.in-Some.c c.in-Some.is c.next.ensures.steps in
    let len = length-take c.args.longest cs in
    let n = length c.loop-c.yielded in
    let more = one_character_more cs c.args.at.start c.args.longest n c.in-Some.c c.loop-c.end t.0 (omega (arith, t.0, len)) c.requires t.1 c.loop-c.invariant.end_is in
    let value = c.len_utf8-end.ensures.value in
    let long = length_push c.loop-c.yielded c.in-Some.c in
    let at : c.loop-c.end + c.len_utf8-end.result ≡ c.args.at.start + bytes_of (n + 1) cs = omega (arith, more, value) in
    let words = one_span_more c.args.at.place c.args.at.start cs ts n (c.loop-c.end + c.len_utf8-end.result) at
    ∙ ap (λ (k : ℕ). words_of_spans c.args.at.place c.args.at.start cs ts (up_to k)) (sym long) in
    record {
      grown = subst (λ (ws : List Word). GrowsByWords o ws c.args.out.now.items c.append_surface.new.out.items) words
          (both_grown o c.args.out.now.items c.loop-c.out.items c.append_surface.new.out.items _ _ c.loop-c.invariant.grown c.in_ok-append_surface.ensures.appended);
      end_is = at ∙ ap (λ (k : ℕ). c.args.at.start + bytes_of k cs) (sym long);
    }

pub returns-in_err-append_surface-clause-unchanged : goal.returns-in_err-append_surface-clause-unchanged
returns-in_err-append_surface-clause-unchanged c = grown_kept (overlay_of c.args.self.dictionaries) _ _ _ _ _ _ c.loop-c.invariant.grown (search rules) c.append_surface.ensures.unchanged

pub returns-clause-unchanged : goal.returns-clause-unchanged
returns-clause-unchanged c = grown_prefix (overlay_of c.args.self.dictionaries) _ _ _ _ _ c.loop-c.invariant.grown (search rules) refl

pub returns-clause-appended : goal.returns-clause-appended
returns-clause-appended c =
    let cs = chars c.args.at.rest.now in
    let t = YieldsList-end (YieldsList-from_take c.args.longest (YieldsList-from_chars c.args.at.rest.now c.args.at.is_text cc) cc) c.loop-c.yielded _ c.loop-c.yielded_by _ _ c.in-None.is c.next.ensures.steps in
    let len = length-take c.args.longest cs in
    let low = c.requires in
    let e : length c.loop-c.yielded ≡ c.args.longest = omega (arith, t.1, len, low) in
    subst (λ (k : ℕ). GrowsByWords (overlay_of c.args.self.dictionaries) (words_of_spans c.args.at.place c.args.at.start cs (entries_of c.args.self) (up_to k)) c.args.out.now.items c.loop-c.out.items) e c.loop-c.invariant.grown
