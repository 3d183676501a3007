use Rattle.mj_model.specs.Bytes.{line_feed}
use Rattle.lex_source.proofs.SplitLemmas.{cut_parts}
use Rattle.dictc_lib.proofs.FileLineLemmas.{line_more, no_line}
use Rattle.dictc_lib.proofs.file_line.from_line.Goals as goal

pub loop-passed-init : goal.loop-passed-init
loop-passed-init c = no_line c.args.bytes.now

pub loop-passed-preserved : goal.loop-passed-preserved
loop-passed-preserved c =
    let cut = cut_parts line_feed c.loop-passed.rest.now c.in-Some._line.now c.in-Some.following.now c.in-Some.ensures in
    line_more c.loop-passed._passed c.args.bytes.now c.loop-passed.rest.now c.in-Some._line.now c.in-Some.following.now c.loop-passed.invariant cut.0 cut.1
