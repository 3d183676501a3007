use Rattle.std.proofs.Common.{◌≡◌, All, map, take, string_bytes}
use Rattle.programs.specs.Reading.{AreOfAFile}
use Rattle.programs.proofs.whole_file.read_files.Given as goal

abbrev pub invariant-loop-path : goal.invariant-loop-path
invariant-loop-path g l =
    (map (λ file. string_bytes file.path) l.files.items ≡ map (λ path. string_bytes path) (take l.path-index l.paths))
    × All (λ file. AreOfAFile g.R.File.Read.remaining file.bytes.items) l.files.items
