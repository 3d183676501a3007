use Rattle.std.proofs.Common.{◌∙◌, ap, arith}
use Rattle.std.specs.Prelude.{not}
use Rattle.std.proofs.lemmas.Bool.{OnTrue_from}
use Rattle.matrix_def.specs.Headers.{IsNoSize}
use Rattle.matrix_def.proofs.SizeLemmas.{no_id, no_size}
use Rattle.matrix_def.proofs.header_start.is_no_size.Goals as goal

pub returns-then-word-gt1 : goal.returns-then-word-gt1
returns-then-word-gt1 c = OnTrue_from _ (IsNoSize c.args.word.now) (λ yes.
    no_size c.args.word.now c.requires (omega (arith, c.if-word-gt1.true)) (no_id _ _ c.context_id.ensures (c.is_none.ensures ∙ ap not yes)))
