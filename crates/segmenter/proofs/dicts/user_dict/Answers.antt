use Rattle.std.proofs.Common.{subst, sym, inl}
use Rattle.std.proofs.lemmas.Result.{err_from_is_err_and}
use Rattle.image_format.specs.ImageMeaning.{image_tables}
use Rattle.segmenter.specs.SourceDicts.{IsUserDictOf, lexicons_of}
use Rattle.segmenter.proofs.dicts.user_dict.Goals as goal

pub load_written-requires-clause-intact : goal.load_written-requires-clause-intact
load_written-requires-clause-intact c = c.in-Ok.ensures.compiled.compiled.intact

pub load_written-requires-clause-layout : goal.load_written-requires-clause-layout
load_written-requires-clause-layout c = c.in-Ok.ensures.compiled.compiled.layout

pub returns-in_err-load_written-clause-dict : goal.returns-in_err-load_written-clause-dict
returns-in_err-load_written-clause-dict c =
    let p = err_from_is_err_and c.from_residual.result c.from_residual.ensures.1 in
    rw p.1 tt

pub returns-in_err-load_written-clause-rejected : goal.returns-in_err-load_written-clause-rejected
returns-in_err-load_written-clause-rejected c =
    let p = err_from_is_err_and c.from_residual.result c.from_residual.ensures.1 in
    rw p.1 (inl p.2)

pub returns-clause-dict : goal.returns-clause-dict
returns-clause-dict c =
    let compiled = c.in-Ok.compiled in
    subst (IsUserDictOf (image_tables c.args.system.now) (lexicons_of c.args.lexicons.now)) (sym c.in_ok-load_written.ensures)
    (compiled.entries, compiled.skipped, c.in-Ok.ensures.compiled)
