use Rattle.std.proofs.Common.{◌≡◌, ℕ, List, sym, ap, ◌∙◌, arith, subst}
use Rattle.image_format.specs.declared.layout.InfoForm.{InfoForm}
use Rattle.image_format.specs.ImageBytes.{header_of, kind_of, section}
use Rattle.image_format.specs.ImageMeaning.{image_info, info_in}
use Rattle.image_format.specs.ImageSections.{stored_info}
use Rattle.image_format.specs.Layouts.{info_form}
use Rattle.image_format.specs.OlderSections.{listed_info}
use Rattle.mj_model.specs.declared.category.CharInfo.{CharInfo}
use Rattle.dict_image.specs.InfoTables.{IsInfoTable}
use Rattle.dict_image.specs.Infos.{AreReadable}
use Rattle.dict_image.proofs.CategoryLemmas.{count_of_image}
use Rattle.dict_image.proofs.FittingLemmas.{first_of_image}
use Rattle.dict_image.proofs.InfoLemmas.{readable_infos}
use Rattle.dict_image.proofs.dict.Dict.info_with_hint.Goals as goal

pub listed_at-requires : goal.listed_at-requires
listed_at-requires c =
    let bytes = c.args.self.now in
    let there = subst (IsInfoTable (kind_of (header_of bytes)) (info_form (header_of bytes).layout) (section bytes 3)) c.in-InSection.is c.info_table.ensures.table in
    rw (c.section.ensures.section) (subst (λ (f : InfoForm). AreReadable f (section bytes 3)) (there c.requires) (readable_infos bytes c.section.ensures.formed c.requires))

pub plane_info-requires-clause-order : goal.plane_info-requires-clause-order
plane_info-requires-clause-order c =
    let bytes = c.args.self.now in
    let there = subst (IsInfoTable (kind_of (header_of bytes)) (info_form (header_of bytes).layout) (section bytes 3)) c.in-OfPlane.is c.info_table.ensures.table in
    rw (c.section-in-OfPlane.ensures.section) (subst (λ (f : InfoForm). AreReadable f (section bytes 3)) there.1 (readable_infos bytes c.section-in-OfPlane.ensures.formed c.requires))

pub returns-in-InSection-clause-first : goal.returns-in-InSection-clause-first
returns-in-InSection-clause-first c =
    let bytes = c.args.self.now in
    let there = subst (IsInfoTable (kind_of (header_of bytes)) (info_form (header_of bytes).layout) (section bytes 3)) c.in-InSection.is c.info_table.ensures.table in
    let by_entry : c.listed_at.result ≡ listed_info (section bytes 3) c.args.c = c.listed_at.ensures ∙ ap (λ (infos : List ℕ). listed_info infos c.args.c) c.section.ensures.section in
    let reported : c.listed_at.result ≡ image_info bytes c.args.c = by_entry ∙ ap (λ (f : InfoForm). info_in f (section bytes 3) c.args.c) (sym (there c.requires)) in
    let same = ap (λ (i : CharInfo). i.head) reported in
    let less = first_of_image bytes c.args.c c.section.ensures.formed c.requires in
    let count = count_of_image bytes in
    omega (arith, same, less, count)

pub returns-in-OfPlane-clause-first : goal.returns-in-OfPlane-clause-first
returns-in-OfPlane-clause-first c =
    let bytes = c.args.self.now in
    let there = subst (IsInfoTable (kind_of (header_of bytes)) (info_form (header_of bytes).layout) (section bytes 3)) c.in-OfPlane.is c.info_table.ensures.table in
    let by_range : c.plane_info.result ≡ stored_info (section bytes 3) c.args.c = c.plane_info.ensures ∙ ap (λ (infos : List ℕ). stored_info infos c.args.c) c.section-in-OfPlane.ensures.section in
    let reported : c.plane_info.result ≡ image_info bytes c.args.c = by_range ∙ ap (λ (f : InfoForm). info_in f (section bytes 3) c.args.c) (sym there.1) in
    let same = ap (λ (i : CharInfo). i.head) reported in
    let less = first_of_image bytes c.args.c c.section-in-OfPlane.ensures.formed c.requires in
    let count = count_of_image bytes in
    omega (arith, same, less, count)
