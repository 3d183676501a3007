-- The results of reading the host's files. No contract determines a file's contents, so these
-- relate a path only to the path of the result and to its errors.
use Rattle.std.specs.Prelude.{◌≡◌, ℕ, List, Result, IfErr, IfOk, string_bytes}
use Rattle.command_lines.specs.declared.dictc.choices.Command.{Command}
use Rattle.command_lines.specs.declared.dictc.choices.Command.TheVariants.{Ids, Image}
use Rattle.dict_compile.specs.declared.compiled.Compiled.{Compiled}
use Rattle.image_format.specs.ImageFaults.{IsAccepted}
use Rattle.image_format.specs.declared.digest_test.DigestTest.{DigestTest}
use Rattle.image_format.specs.declared.digest_test.DigestTest.TheVariants.{Skipped}
use Rattle.programs.specs.Faults.{Names, NamesFileOrImage}
use Rattle.programs.specs.declared.fault.Fault.{Fault}
use Rattle.programs.specs.declared.fault.Fault.TheVariants.{File}
use Rattle.programs.specs.declared.whole_file.WholeFile.{WholeFile}
use Rattle.dictc_lib.specs.RequestedImages.{IsRequestedImage}
use Rattle.dictc_lib.specs.declared.matrix_file.MatrixFile.{MatrixFile}

-- the `matrix.def` at a path was read, or the error names the path
abbrev pub host_reads_costs : List ℕ → Result MatrixFile Fault → Type 0
host_reads_costs path result = IfErr result (Names File path)

-- the file has the path that was read, or the error names the path
abbrev pub host_reads : List ℕ → Result WholeFile Fault → Type 0
host_reads path result = IfOk result (λ file. string_bytes file.path ≡ path) × IfErr result (Names File path)

-- the image is accepted, or the error names its path
abbrev pub host_loads : List ℕ → DigestTest → Result (List ℕ) Fault → Type 0
host_loads path digest result = IfOk result (IsAccepted Skipped) × IfErr result (NamesFileOrImage path)

-- the requested image was compiled from the host's files
abbrev pub HasImage : Command → Type 0
HasImage (Image options) = (compiled : Compiled) × IsRequestedImage host_reads_costs host_reads host_loads options compiled
HasImage (Ids options) = Unit {0}
