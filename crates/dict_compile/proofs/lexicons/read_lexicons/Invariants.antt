use Rattle.std.proofs.Common.{◌≡◌, ◌*◌, ◌^◌, ◌≤◌, ◌++◌, List}
use Rattle.mj_model.specs.Lexicon.{SkipLines}
use Rattle.dict_compile.specs.Steps.{AreLexiconSteps}
use Rattle.dict_compile.specs.declared.watch.CompileStep.{CompileStep}
use Rattle.dict_compile.proofs.LexiconLemmas.{ReadOn}
use Rattle.dict_compile.proofs.SkipLemmas.{bytes_before}
use Rattle.dict_compile.proofs.lexicons.read_lexicons.Given as goal

-- If further lexicons are read after the records so far, all are read together. The lexicons so far
-- skip this many lines, less than 2^64 each, and each was reported to the watcher.
abbrev pub invariant-loop-bytes : goal.invariant-loop-bytes
invariant-loop-bytes g l =
    (l.lexicon.sizes ≡ l.fn.sizes)
    × ReadOn l.fn.sizes l.file l.lexicon.rows (bytes_before l.lexicons l.bytes-index)
    × SkipLines (bytes_before l.lexicons l.bytes-index) l.skipped
    × (l.skipped ≤ l.bytes-index * 2 ^ 64)
    × ((before : List CompileStep) → g.W.Watch.reported l.initial.watch before
    → (steps : List CompileStep) × AreLexiconSteps l.fn.sizes (bytes_before l.lexicons l.bytes-index) steps × g.W.Watch.reported l.watch (before ++ steps))
