use Rattle.std.proofs.Common.{◌≡◌, ◌++◌, take}
use Rattle.image_writer.specs.Places.{joined_texts}
use Rattle.image_writer.proofs.frame.append_texts.Given as goal

abbrev pub invariant-loop-text : goal.invariant-loop-text
invariant-loop-text l = l.image.items ≡ l.fn.image.items ++ joined_texts (take l.text-index l.texts)
