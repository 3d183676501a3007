use Rattle.std.proofs.Common.{rules, arith, ap, ◌∙◌, subst}
use Rattle.std.specs.Prelude.{chars, IfSome, Option}
use Rattle.mj_model.proofs.CharBytes.{chars_within}
use Rattle.word_lookup.specs.declared.run.Run.{Run}
use Rattle.word_lookup.specs.Overlays.{overlay_of}
use Rattle.word_lookup.specs.Spans.{HasBytes}
use Rattle.word_lookup.specs.UnknownEntries.{entries_of}
use Rattle.word_lookup.proofs.SurfaceLemmas.{grown_kept, none_grown}
use Rattle.word_lookup.proofs.UnknownWords.{grouped_grown, lengths_grown}
use Rattle.word_lookup.proofs.unknown_entries.UnknownEntries.append_spans.Goals as goal
use Rattle.word_lookup.proofs.unknown_entries.UnknownEntries.append_spans.Goals.{in-Some+in_ok-append_surface, in_default}

pub overflow_add-at : goal.overflow_add-at
overflow_add-at c =
    let has = subst (λ (o : Option Run). IfSome o (HasBytes (chars c.args.at.rest.now))) c.in-Some.is c.requires.bytes in
    let all = chars_within c.args.at.rest.now c.in-Some.run'.characters c.args.at.is_text in
    omega (arith, has, all, c.args.at.fits)

pub returns-clause-appended : goal.returns-clause-appended
returns-clause-appended c =
    let o = overlay_of c.args.self.dictionaries in
    let cs = chars c.args.at.rest.now in
    let entries = entries_of c.args.self in
    elim c.match-spans.branch [
      | in-Some+in_ok-append_surface w ↦
          let has = subst (λ (o : Option Run). IfSome o (HasBytes cs)) w.in-Some.is c.requires.bytes in
          grouped_grown o c.args.at.place c.args.at.start cs entries c.args.spans w.in-Some.run' c.args.out.now.items _ _ _ c.append_lengths.result w.in-Some.is has w.in_ok-append_surface.ensures.appended (ap (λ (v : _). v.items) w.out-is) c.append_lengths.ensures.appended
      | in_default w ↦ lengths_grown o c.args.at.place c.args.at.start cs entries c.args.spans c.args.out.now.items _ _ c.append_lengths.result w.in_default.is (ap (λ (v : _). v.items) w.out-is) c.append_lengths.ensures.appended
    ]

pub returns-clause-unchanged : goal.returns-clause-unchanged
returns-clause-unchanged c =
    elim c.match-spans.branch [
      | in-Some+in_ok-append_surface w ↦ grown_kept (overlay_of c.args.self.dictionaries) _ _ _ _ _ _ w.in_ok-append_surface.ensures.appended (search rules) (c.append_lengths.ensures.unchanged ∙ ap (λ (v : _). v.items) w.out-is)
      | in_default w ↦ grown_kept (overlay_of c.args.self.dictionaries) _ _ _ _ _ _ (none_grown (overlay_of c.args.self.dictionaries) c.args.out.now.items) (search rules) (c.append_lengths.ensures.unchanged ∙ ap (λ (v : _). v.items) w.out-is)
    ]
