use Rattle.dictc_lib.specs.Rejections.{IsErrorAt}
use Rattle.dictc_lib.proofs.rejection.rejection.Goals as goal

pub returns-then-are_all_reported : goal.returns-then-are_all_reported
returns-then-are_all_reported c = c.are_all_reported.ensures.yes c.if-are_all_reported.true

pub returns : goal.returns
returns c =
    let at : IsErrorAt c.path.result c.args.fault c.of_source.result = record { with_path = c.of_source.ensures.source; without_path = c.of_source.ensures.together } in
    (c.are_all_reported.ensures.no c.if-are_all_reported.false, c.path.result, c.path.ensures, at)
