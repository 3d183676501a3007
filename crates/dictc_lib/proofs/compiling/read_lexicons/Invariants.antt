use Rattle.std.proofs.Common.{◌≡◌, map, take, string_bytes}
use Rattle.dictc_lib.specs.RequestedImages.{AreReadFrom}
use Rattle.dictc_lib.proofs.compiling.read_lexicons.Given as goal

abbrev pub invariant-loop-path : goal.invariant-loop-path
invariant-loop-path g l =
    AreReadFrom g.F.FileAccess.reads (take l.path-index l.paths) l.lexicons.items
    × (map (λ file. string_bytes file.path) l.lexicons.items ≡ map (λ path. string_bytes path) (take l.path-index l.paths))
