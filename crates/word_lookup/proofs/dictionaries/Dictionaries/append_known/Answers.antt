use Rattle.std.proofs.Common.{rules, arith, ap, refl}
use Rattle.std.proofs.lemmas.List.{drop_all}
use Rattle.mj_model.specs.KnownWords.{known_from}
use Rattle.mj_model.specs.Tables.{lexicons}
use Rattle.word_lookup.specs.Overlays.{overlay_of}
use Rattle.word_lookup.proofs.SurfaceLemmas.{all_grown, growth_started, have_prefix, have_kept, more_grown}
use Rattle.word_lookup.proofs.TableLemmas.{lexicon_count, lexicons_left}
use Rattle.word_lookup.proofs.dictionaries.Dictionaries.append_known.Goals as goal

pub loop-number-init : goal.loop-number-init
loop-number-init c = growth_started _ _ _ _ refl

pub loop-number-preserved : goal.loop-number-preserved
loop-number-preserved c =
    let o = overlay_of c.args.self.now in
    let count = lexicon_count c.args.self.now in
    let less = c.loop-number-test.true in
    more_grown o _ _ _ _ _ _ _ c.loop-number.invariant
    (lexicons_left c.args.at.place c.args.at.start c.args.at.rest.now (lexicons o) c.loop-number.number (omega (arith, count, less)))
    c.in_ok-append_known_of.ensures.appended

pub returns-in_err-append_known_of-clause-unchanged : goal.returns-in_err-append_known_of-clause-unchanged
returns-in_err-append_known_of-clause-unchanged c = have_kept _ _ _ _ _ _ _ _ c.loop-number.invariant (search rules) c.append_known_of.ensures.unchanged

pub returns-clause-unchanged : goal.returns-clause-unchanged
returns-clause-unchanged c = have_prefix _ _ _ _ _ _ _ c.loop-number.invariant (search rules) refl

pub returns-clause-appended : goal.returns-clause-appended
returns-clause-appended c =
    let o = overlay_of c.args.self.now in
    let count = lexicon_count c.args.self.now in
    let high = c.loop-number-test.false in
    all_grown _ _ _ _ _ c.loop-number.invariant
    (ap (known_from c.args.at.place c.args.at.start c.args.at.rest.now c.loop-number.number) (drop_all c.loop-number.number (lexicons o) (omega (arith, count, high))))
