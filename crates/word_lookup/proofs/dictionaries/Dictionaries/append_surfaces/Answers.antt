use Rattle.std.proofs.Common.{arith, rules, ◌≡◌, List, ℕ, drop, sym, ap, ◌∙◌}
use Rattle.std.specs.Prelude.{chars}
use Rattle.mj_model.specs.Blanks.{chars_from}
use Rattle.mj_model.specs.KnownWords.{known_words, known_from}
use Rattle.mj_model.specs.Tables.{lexicons}
use Rattle.word_lookup.specs.Overlays.{overlay_of}
use Rattle.word_lookup.proofs.AppendLemmas.{on_ok_map}
use Rattle.word_lookup.proofs.PlaceLemmas.{skip_within, place_after_blanks}
use Rattle.word_lookup.proofs.SurfaceLemmas.{grown_kept, known_then_unknown}
use Rattle.word_lookup.proofs.dictionaries.Dictionaries.append_surfaces.Goals as goal

pub suffix-requires : goal.suffix-requires
unfolding overlay_of
suffix-requires c =
    let o = overlay_of c.args.self.now in
    let w = skip_within o c.args.text.now c.args.place c.requires.there in
    place_after_blanks o c.args.text.now c.args.place c.args.start c.requires.there c.requires.after_blanks (omega (arith, w, c.requires.after_blanks))

pub returns-clause-appended : goal.returns-clause-appended
unfolding overlay_of
returns-clause-appended c =
    let o = overlay_of c.args.self.now in
    let text = c.args.text.now in
    let k : known_words o text c.args.place ≡ known_from c.args.place c.args.start c.suffix.result.now 0 (lexicons o) =
    ap (λ (s : ℕ). known_from c.args.place s (drop s text) 0 (lexicons o)) (sym c.requires.after_blanks)
    ∙ ap (λ (bytes : List ℕ). known_from c.args.place c.args.start bytes 0 (lexicons o)) (sym c.suffix.ensures) in
    on_ok_map c.append_unknown.result c.append_unknown.ensures.appended
    (known_then_unknown o c.args.place c.args.start c.suffix.result.now (chars_from text c.args.start) (known_words o text c.args.place) _ c.args.out.now.items c.append_known.new.out.items _ c.len.result c.len-count.result
    k c.in_ok-append_known.ensures.appended (search rules) (search rules) (ap chars c.suffix.ensures))

pub returns-clause-unchanged : goal.returns-clause-unchanged
unfolding overlay_of
returns-clause-unchanged c =
    grown_kept (overlay_of c.args.self.now) _ _ _ _ _ _ c.in_ok-append_known.ensures.appended (search rules) c.append_unknown.ensures.unchanged

pub invariant_of-at-clause-there : goal.invariant_of-at-clause-there
unfolding overlay_of
invariant_of-at-clause-there c =
    let o = overlay_of c.args.self.now in
    let w = skip_within o c.args.text.now c.args.place c.requires.there in
    place_after_blanks o c.args.text.now c.args.place c.args.start c.requires.there c.requires.after_blanks (omega (arith, w, c.requires.after_blanks))
