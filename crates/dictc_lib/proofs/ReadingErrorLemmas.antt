-- Errors of reading some of several files.
use Rattle.std.proofs.Common.{List, ◌++◌, String, inl, inr}
use Rattle.std.proofs.lemmas.List.Elements.{Contains-append_right}
use Rattle.std.specs.declared.alloc.Global.{Global}
use Rattle.programs.specs.Faults.{NamesOneOf}
use Rattle.programs.specs.declared.fault.Fault.{Fault}

-- an error that names one of some files also names one of these files and others before them
pub NamesOneOf-append_right : (before paths : List (String Global)) (reported : Fault) → NamesOneOf paths reported → NamesOneOf (before ++ paths) reported
NamesOneOf-append_right before paths reported (inl memory) = inl memory
NamesOneOf-append_right before paths reported (inr (path, among, named)) = inr (path, Contains-append_right before paths path among, named)
