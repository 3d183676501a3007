use Rattle.std.proofs.Common.{◌≡◌, map, take}
use Rattle.programs.proofs.whole_file.texts.Given as goal

abbrev pub invariant-loop-file : goal.invariant-loop-file
invariant-loop-file l = map (λ text. text.now) l.texts.items ≡ map (λ file. file.bytes.items) (take l.file-index l.files)
