use Rattle.dictc_lib.specs.Rejections.{IsSourcePath, IsUserPath}
use Rattle.dictc_lib.proofs.compile_context.CompileContext.path.Goals as goal

pub returns-in-Definitions : goal.returns-in-Definitions
returns-in-Definitions c =
    let e = c.source_path.ensures in
    let d = c.in-Definitions in
    let is : IsSourcePath d.matrix.now d.chars.now d.unk.now c.args.lexicons.now c.args.number c.source_path.result =
    record { of_matrix = e.matrix; of_chars = e.chars; of_unk = e.unk; of_lexicon = e.lexicon; of_no_file = e.no_file } in
    rw c.in-Definitions.is is

pub returns-in-System : goal.returns-in-System
returns-in-System c =
    let e = c.lexicon_path.ensures in
    let is : IsUserPath c.args.lexicons.now c.args.number c.lexicon_path.result = record { of_lexicon = e.lexicon; of_no_lexicon = e.no_lexicon } in
    rw c.in-System.is is
