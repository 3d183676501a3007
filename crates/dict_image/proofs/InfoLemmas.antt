-- The categories of code points of a well-formed image can be read.
use Rattle.std.proofs.Common.{◌≡◌, ℕ, ◌≤◌, List, arith}
use Rattle.image_format.specs.declared.layout.InfoForm.{InfoForm}
use Rattle.image_format.specs.declared.layout.InfoForm.TheVariants as info
use Rattle.image_format.specs.ImageBytes.{header_of, kind_of, section}
use Rattle.image_format.specs.ImageFaults.{AreInfos}
use Rattle.image_format.specs.Layouts.{info_form}
use Rattle.mj_model.specs.Tables.{System}
use Rattle.dict_image.specs.Validation.Outlines.{IsImage}
use Rattle.dict_image.specs.Infos.{AreReadable}
use Rattle.dict_image.proofs.FormedLemmas.{few_categories, infos_are}
use Rattle.dict_image.proofs.RangeLemmas.{in_order}

readable_by : (form : InfoForm) (categories : ℕ) (infos : List ℕ) → categories ≤ 256 → AreInfos form categories infos → AreReadable form infos
readable_by info.Listed categories infos few are = record { fill = are.fill; short = λ i less. let f = (are.infos i less).first_below in omega (arith, f, few) }
readable_by info.Ranges categories infos few are = in_order categories infos few are

pub readable_infos : (bytes : List ℕ) → IsImage bytes → kind_of (header_of bytes) ≡ System → AreReadable (info_form (header_of bytes).layout) (section bytes 3)
readable_infos bytes w system = readable_by (info_form (header_of bytes).layout) (header_of bytes).categories (section bytes 3) (few_categories bytes w) (infos_are bytes system w)
