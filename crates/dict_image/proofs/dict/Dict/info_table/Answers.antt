use Rattle.std.proofs.Common.{ℕ, List, subst}
use Rattle.image_format.specs.ImageBytes.{header_of, kind_of, section}
use Rattle.image_format.specs.Layouts.{info_form}
use Rattle.dict_image.specs.InfoTables.{IsInfoTable}
use Rattle.dict_image.proofs.dict.Dict.info_table.Goals as goal

pub returns-clause-table : goal.returns-clause-table
returns-clause-table c =
    subst (λ (bytes : List ℕ). IsInfoTable (kind_of (header_of bytes)) (info_form (header_of bytes).layout) (section bytes 3) c.self.inside.tables.infos) c.self.view_is c.self.invariant.tables.infos_are
