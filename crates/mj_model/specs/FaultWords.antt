-- The code and the name of each error, as they are printed.
use Rattle.std.specs.Prelude.{ℕ, List, codes}
use Rattle.mj_model.specs.declared.source_fault.SourceKind.{SourceKind}
use Rattle.mj_model.specs.declared.source_fault.SourceKind.TheVariants.{NotUtf8, TooFewFields, BadNumber, SurfaceTooLong, TooManyEntries, BadHeader, BadRow, PairOutside, TooLarge, BadLine, BadRange, Twice, UndefinedCategory, TooManyCategories, NoDefault, NoSpace, NoSuchCategory, MissingCategory, IdOutside, ArrayFull, FeaturesTooLarge, Memory}
use Rattle.mj_model.specs.declared.run_fault.RunFault.{RunFault}
use Rattle.mj_model.specs.declared.run_fault.RunFault.TheVariants as run
use Rattle.mj_model.specs.declared.format_fault.FormatKind.{FormatKind}
use Rattle.mj_model.specs.declared.format_fault.FormatKind.TheVariants.{BadEscape, BadItem, BadIndex}
use Rattle.mj_model.specs.declared.format_fault.FormatFault.{FormatFault}
use Rattle.mj_model.specs.declared.format_fault.FormatFault.TheVariants as format

pub record Words : Type 0 where
  pub code : List ℕ
  pub name : List ℕ

abbrev pub source_words : SourceKind → Words
source_words NotUtf8 = record { code = codes "S1"; name = codes "NotUtf8" }
source_words TooFewFields = record { code = codes "S2"; name = codes "TooFewFields" }
source_words BadNumber = record { code = codes "S3"; name = codes "BadNumber" }
source_words SurfaceTooLong = record { code = codes "S4"; name = codes "SurfaceTooLong" }
source_words TooManyEntries = record { code = codes "S5"; name = codes "TooMany" }
source_words BadHeader = record { code = codes "M1"; name = codes "BadHeader" }
source_words BadRow = record { code = codes "M2"; name = codes "BadRow" }
source_words PairOutside = record { code = codes "M3"; name = codes "PairOutside" }
source_words TooLarge = record { code = codes "M4"; name = codes "TooLarge" }
source_words BadLine = record { code = codes "C1"; name = codes "BadLine" }
source_words BadRange = record { code = codes "C2"; name = codes "BadRange" }
source_words Twice = record { code = codes "C3"; name = codes "Twice" }
source_words UndefinedCategory = record { code = codes "C4"; name = codes "NoSuchCategory" }
source_words TooManyCategories = record { code = codes "C5"; name = codes "TooMany" }
source_words NoDefault = record { code = codes "C6"; name = codes "NoDefault" }
source_words NoSpace = record { code = codes "C7"; name = codes "NoSpace" }
source_words NoSuchCategory = record { code = codes "U1"; name = codes "NoSuchCategory" }
source_words (MissingCategory i) = record { code = codes "U2"; name = codes "MissingCategory" }
source_words IdOutside = record { code = codes "I1"; name = codes "IdOutside" }
source_words ArrayFull = record { code = codes "I2"; name = codes "ArrayFull" }
source_words FeaturesTooLarge = record { code = codes "I3"; name = codes "FeaturesTooLarge" }
source_words Memory = record { code = codes "Memory"; name = codes "Memory" }

abbrev pub run_words : RunFault → Words
run_words (run.Source fault) = source_words fault.kind
run_words (run.UserSource user fault) = source_words fault.kind
run_words (run.Read line) = record { code = codes "G1"; name = codes "Read" }
run_words (run.Write sent) = record { code = codes "G2"; name = codes "Write" }
run_words (run.NotUtf8 line) = record { code = codes "G3"; name = codes "NotUtf8" }
run_words (run.TooLong line) = record { code = codes "G4"; name = codes "TooLong" }
run_words (run.InputTooLong line) = record { code = codes "G5"; name = codes "InputTooLong" }
run_words (run.Memory line) = record { code = codes "Memory"; name = codes "Memory" }

abbrev pub format_kind_words : FormatKind → Words
format_kind_words BadEscape = record { code = codes "P1"; name = codes "BadEscape" }
format_kind_words BadItem = record { code = codes "P2"; name = codes "BadItem" }
format_kind_words BadIndex = record { code = codes "P3"; name = codes "BadIndex" }

abbrev pub format_words : FormatFault → Words
format_words (format.Bad part at kind) = format_kind_words kind
format_words format.Memory = record { code = codes "Memory"; name = codes "Memory" }
