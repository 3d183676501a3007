use Rattle.std.proofs.Common.{inr}
use Rattle.mj_model.specs.Bytes.{line_feed}
use Rattle.lex_source.proofs.SplitLemmas.{cut_parts}
use Rattle.dictc_lib.proofs.file_line.up_to_feed.Goals as goal

pub returns-in-Some : goal.returns-in-Some
returns-in-Some c =
    let cut = cut_parts line_feed c.args.rest.now c.in-Some.line.now c.in-Some._after.now c.in-Some.ensures in
    (cut.1, inr (c.in-Some._after.now, cut.0))
