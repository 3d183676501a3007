use Rattle.std.proofs.Common.{rules, arith, ◌≡◌, List, flat_map, length, sym, ap, ◌∙◌, refl, subst}
use Rattle.std.specs.List.{AllByRecursion}
use Rattle.image_format.specs.ImageMeaning.{image_tables}
use Rattle.mj_model.specs.KnownWords.{known_in}
use Rattle.mj_model.specs.Tables.{Lexeme, Token}
use Rattle.dict_image.specs.Prefixes.{PrefixesView, prefixes_in}
use Rattle.mj_model.specs.declared.paths.entry_list.EntryList.TheVariants.{Lexicon}
use Rattle.word_lookup.specs.Overlays.{overlay_of}
use Rattle.word_lookup.specs.Surfaces.{all_tables, tokens_of}
use Rattle.word_lookup.proofs.KnownFound.{prefix_words, known_by_prefixes}
use Rattle.word_lookup.proofs.RowLemmas.{IsPrefix, prefixes_are}
use Rattle.word_lookup.proofs.SurfaceLemmas.{all_grown, growth_started, have_prefix, more_grown, surface_appended}
use Rattle.word_lookup.proofs.TableLemmas.{lexicon_at, tokens_at}
use Rattle.word_lookup.proofs.dictionaries.Dictionaries.append_known_of.Goals as goal

pub loop-length-init : goal.loop-length-init
loop-length-init c =
    let o = overlay_of c.args.self.now in
    let at = c.args.at in
    let n = c.args.number in
    let t = image_tables c.numbered-dict.result.now in
    let e : c.into_iter-length-iterator.result.prefixes ≡ prefixes_in at.rest.now t.lexicon =
    ap (λ (it : PrefixesView). it.prefixes) c.into_iter-length-iterator.ensures.into_iter_gives ∙ c.prefixes-length-items.ensures.prefixes in
    let whole = ap (flat_map (prefix_words n at.place at.start)) e ∙ sym (known_by_prefixes n at.place at.start at.rest.now t.lexicon)
    ∙ ap (λ (l : List Lexeme). known_in at.place at.start at.rest.now n l) (sym (lexicon_at (all_tables o) n t c.numbered-dict.ensures.tables)) in
    let are = prefixes_are at.rest.now t c.numbered-dict.ensures.fits in
    record {
      can = tt;
      finite = tt;
      grown = growth_started o c.args.out.now.items _ _ whole;
      are = subst (λ (ts : List Token). AllByRecursion (IsPrefix (length at.rest.now) ts) c.into_iter-length-iterator.result.prefixes) (sym (tokens_at o n t c.numbered-dict.ensures.tables))
          (subst (AllByRecursion (IsPrefix (length at.rest.now) _)) (sym e) are);
    }

pub overflow_add-at : goal.overflow_add-at
overflow_add-at c =
    let all = subst (AllByRecursion (IsPrefix (length c.args.at.rest.now) (tokens_of (overlay_of c.args.self.now) (Lexicon c.args.number)))) c.in-Some.ensures.steps.0 c.loop-length.invariant.are in
    let within = all.0.within in
    omega (arith, within, c.args.at.fits)

pub loop-length-preserved : goal.loop-length-preserved
loop-length-preserved c =
    let o = overlay_of c.args.self.now in
    let at = c.args.at in
    let n = c.args.number in
    let all = subst (AllByRecursion (IsPrefix (length at.rest.now) (tokens_of o (Lexicon n)))) c.in-Some.ensures.steps.0 c.loop-length.invariant.are in
    record {
      can = tt;
      finite = tt;
      grown = more_grown o _ _ _ _ _ (prefix_words n at.place at.start (c.in-Some.length, c.in-Some.entries)) _ c.loop-length.invariant.grown (ap (flat_map (prefix_words n at.place at.start)) c.in-Some.ensures.steps.0)
          (surface_appended o at (Lexicon n) c.row.result _ c.surface.result c.in-Some.entries _ _ _ c.surface.ensures c.in_ok-push.ensures.items c.row.ensures all.0.appear all.0.some refl);
      are = all.1;
    }

pub returns-in_err-push-clause-unchanged : goal.returns-in_err-push-clause-unchanged
returns-in_err-push-clause-unchanged c = have_prefix _ _ _ _ _ _ _ c.loop-length.invariant.grown (search rules) c.in_err-push.ensures.items

pub returns-clause-unchanged : goal.returns-clause-unchanged
returns-clause-unchanged c = have_prefix _ _ _ _ _ _ _ c.loop-length.invariant.grown (search rules) refl

pub returns-clause-appended : goal.returns-clause-appended
returns-clause-appended c =
    all_grown _ _ _ _ _ c.loop-length.invariant.grown (ap (flat_map (prefix_words c.args.number c.args.at.place c.args.at.start)) c.in-None.ensures.steps.0.0)
