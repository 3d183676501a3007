use Rattle.std.proofs.Common.{List, subst}
use Rattle.mj_model.specs.Lexicon.{rows_of}
use Rattle.mj_model.specs.declared.entry.Record.{Record}
use Rattle.dictc_lib.specs.Surfaces.{IsLongestIn, surfaces_of}
use Rattle.dictc_lib.proofs.SurfaceLemmas.{longest_read}
use Rattle.dictc_lib.proofs.surfaces.longest_in.Goals as goal

pub returns-clause-longest : goal.returns-clause-longest
returns-clause-longest c =
    let number = c.args.number in
    let old = c.new-records.result.items in
    let new = c.read_lexicon.new.out.items in
    let longest = c.longest_among.result in
    let read = c.in_ok-_skipped.ensures.accepted in
    let is = subst (λ (records : List Record). IsLongestIn (surfaces_of number (rows_of records)) longest) c.deref.ensures.value c.longest_among.ensures in
    longest_read number c.args.file c.in_ok-_skipped._skipped c.args.lexicon.now old new read.0 longest c.new-records.ensures.items read.1 read.2 is
