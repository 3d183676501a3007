-- The code and the name of each error of an insertion, as they are printed.
use Rattle.std.specs.Prelude.{codes}
use Rattle.mj_model.specs.FaultWords.{Words}
use Rattle.double_array.specs.declared.fault.DaFault.{DaFault}
use Rattle.double_array.specs.declared.fault.DaFault.TheVariants.{Full, Memory}

abbrev pub words_of : DaFault → Words
words_of Full = record { code = codes "X1"; name = codes "Full" }
words_of Memory = record { code = codes "Memory"; name = codes "Memory" }
