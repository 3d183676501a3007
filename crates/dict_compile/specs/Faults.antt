-- The errors of a compilation as they are reported.
use Rattle.std.specs.Prelude.{codes}
use Rattle.mj_model.specs.declared.source_fault.TheConstants.{NO_FILE}
use Rattle.mj_model.specs.declared.source_fault.SourceFault.{SourceFault}
use Rattle.mj_model.specs.declared.source_fault.SourceKind.{SourceKind}
use Rattle.mj_model.specs.FaultWords.{Words, source_words}
use Rattle.dict_compile.specs.declared.fault.CompileUserFault.{CompileUserFault}
use Rattle.dict_compile.specs.declared.fault.CompileUserFault.TheVariants.{NotSystem, Source}

-- an error of a whole image, which belongs to no file
abbrev pub fault_of_image : SourceKind → SourceFault
fault_of_image kind = record { file = NO_FILE; line = 0; kind = kind }

abbrev pub user_words : CompileUserFault → Words
user_words NotSystem = record { code = codes "O1"; name = codes "NotSystem" }
user_words (Source fault) = source_words fault.kind
