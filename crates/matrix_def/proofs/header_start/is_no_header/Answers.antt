use Rattle.std.proofs.lemmas.Bool.{OnTrue_at, OnTrue_from}
use Rattle.matrix_def.specs.Headers.{IsNoHeader}
use Rattle.matrix_def.proofs.HeaderLemmas.{no_header}
use Rattle.matrix_def.proofs.header_start.is_no_header.Goals as goal

pub returns-in-Some : goal.returns-in-Some
returns-in-Some c = OnTrue_from _ (IsNoHeader c.args.start.now) (λ yes. no_header c.args.start.now c.in-Some.front.now _ _ c.in-Some.ensures.cases.0 (OnTrue_at yes c.ends_with_no_size.ensures))
