use Rattle.std.proofs.Common.{sym, subst}
use Rattle.std.specs.List.{AllByRecursion}
use Rattle.image_format.specs.ImageMeaning.{image_tables}
use Rattle.dict_image.specs.Numbered.{numbered_tokens}
use Rattle.mj_model.specs.declared.paths.entry_list.EntryList.TheVariants.{Categories}
use Rattle.word_lookup.specs.Overlays.{overlay_of}
use Rattle.word_lookup.proofs.RowLemmas.{LiesAtNumber, unknown_appear}
use Rattle.word_lookup.proofs.SurfaceLemmas.{surface_appended}
use Rattle.word_lookup.proofs.TableLemmas.{all_fit}
use Rattle.word_lookup.proofs.UnknownWords.{words_from_start}
use Rattle.word_lookup.proofs.unknown_entries.UnknownEntries.append_surface.Goals as goal

pub unknown-requires : goal.unknown-requires
unfolding overlay_of
unknown-requires c = c.args.self.there

pub returns-clause-appended : goal.returns-clause-appended
unfolding overlay_of
returns-clause-appended c =
    let d = c.args.self.dictionaries in
    let t = image_tables d.system.now in
    let appear = unknown_appear t c.args.self.category (all_fit d).0 c.args.self.there in
    surface_appended (overlay_of d) c.args.at Categories c.row-row.result c.args.end c.surface.result c.unknown.result _ _ _ c.surface.ensures c.in_ok-push.ensures.items c.row-row.ensures
    (subst (AllByRecursion (LiesAtNumber (numbered_tokens t))) (sym c.unknown.ensures.unknown) appear) c.unknown.ensures.some
    (words_from_start c.args.at.place c.args.at.start c.args.end c.unknown.result (t.unknown c.args.self.category) c.requires c.unknown.ensures.unknown)
