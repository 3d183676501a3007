use Rattle.std.proofs.Common.{arith, List, length, take, ap, sym, ◌∙◌, subst}
use Rattle.std.specs.Prelude.{OnOk, chars}
use Rattle.mj_model.specs.declared.word.Word.{Word}
use Rattle.mj_model.proofs.TextPaths.{words_there}
use Rattle.word_lookup.specs.Overlays.{overlay_of}
use Rattle.word_lookup.specs.Surfaces.{GrowsByWords}
use Rattle.word_lookup.proofs.AppendLemmas.{on_err, on_err_of_ok, on_ok_of_err}
use Rattle.word_lookup.proofs.BlankScanLemmas.{no_blanks_left}
use Rattle.word_lookup.proofs.DictionaryLaws.{covers_all}
use Rattle.word_lookup.proofs.FirstLemmas.{none_found}
use Rattle.word_lookup.proofs.PlaceLemmas.{ends_there, no_words, place_within, text_there, skip_within, words_are}
use Rattle.word_lookup.proofs.SurfaceLemmas.{none_grown}
use Rattle.word_lookup.proofs.dictionaries.Dictionaries.surfaces_at.Goals as goal

pub returns-else-is_err-clause-appended : goal.returns-else-is_err-clause-appended
unfolding overlay_of
returns-else-is_err-clause-appended c =
    let o = overlay_of c.args.self.now in
    let w = skip_within o c.args.text.now c.args.place c.requires.place in
    let P : List Word → Type 0 = λ ws. OnOk c.append_surfaces-appended.result (GrowsByWords o ws c.args.out.now.items c.append_surfaces-appended.new.out.items) in
    let are = words_are o c.args.text.now c.args.place c.cached_blanks-start.result c.requires.place c.cached_blanks-start.ensures.after_blanks (omega (arith, w, c.cached_blanks-start.ensures.after_blanks)) in
    subst P (sym are) c.append_surfaces-appended.ensures.appended

pub returns-then-is_err-clause-none : goal.returns-then-is_err-clause-none
unfolding overlay_of
returns-then-is_err-clause-none c = λ none.
    let d = c.args.self.now in
    let o = overlay_of d in
    let text = c.args.text.now in
    let place = c.args.place in
    let w = skip_within o text place c.requires.place in
    let some = words_there o text place (covers_all d) (place_within text place c.requires.place) (text_there text place c.requires.place) (omega (arith, w, c.cached_blanks-start.ensures.after_blanks)) in
    let count = ap length none in
    absurd (omega (arith, some, count))

pub returns-then-start-text-clause-appended : goal.returns-then-start-text-clause-appended
unfolding overlay_of
returns-then-start-text-clause-appended c =
    let o = overlay_of c.args.self.now in
    let out = c.args.out.now.items in
    let at = c.cached_blanks-start.ensures.after_blanks in
    let none = no_words o c.args.text.now c.args.place c.cached_blanks-start.result at (omega (arith, c.if-start-text.true)) in
    subst (λ (ws : List Word). GrowsByWords o ws out out) (sym none) (none_grown o out)

pub returns-then-is_err-clause-appended : goal.returns-then-is_err-clause-appended
unfolding overlay_of
returns-then-is_err-clause-appended c = on_ok_of_err _ c.append_surfaces-appended.result c.is_err.result c.is_err.ensures.value c.if-is_err.true

pub returns-then-is_err-clause-unchanged : goal.returns-then-is_err-clause-unchanged
unfolding overlay_of
returns-then-is_err-clause-unchanged c =
    on_err c.append_surfaces-appended.result (c.truncate.ensures.items ∙ ap (λ (n : _). take n c.append_surfaces-appended.new.out.items) c.len-count.ensures ∙ c.append_surfaces-appended.ensures.unchanged)

pub returns-else-is_err-clause-unchanged : goal.returns-else-is_err-clause-unchanged
unfolding overlay_of
returns-else-is_err-clause-unchanged c = on_err_of_ok _ c.append_surfaces-appended.result c.is_err.result c.is_err.ensures.value c.if-is_err.false

pub append_surfaces-appended-requires-clause-within : goal.append_surfaces-appended-requires-clause-within
unfolding overlay_of
append_surfaces-appended-requires-clause-within c =
    let w = skip_within (overlay_of c.args.self.now) c.args.text.now c.args.place c.requires.place in
    omega (arith, w, c.cached_blanks-start.ensures.after_blanks, c.if-start-text.false)

pub returns-in_default-clause-appended : goal.returns-in_default-clause-appended
unfolding overlay_of
returns-in_default-clause-appended c =
    let o = overlay_of c.args.self.now in
    let text = c.args.text.now in
    let place = c.args.place in
    let out = c.args.out.now.items in
    let left = ap chars (sym c.suffix.ensures) ∙ none_found o.system.info (chars c.suffix.result.now) (sym c.in_default.is ∙ c.first_with_hint.ensures) in
    let none = no_words o text place place (no_blanks_left o text place left) (ends_there text place c.requires.place left) in
    subst (λ (ws : List Word). GrowsByWords o ws out out) (sym none) (none_grown o out)
