use Rattle.std.proofs.Common.{refl, subst, sym}
use Rattle.matrix_def.specs.Reading.{HasRead, ReaderView}
use Rattle.matrix_def.proofs.ReadingLemmas.{part_read}
use Rattle.matrix_def.proofs.reader.MatrixReader.read_unfinished.Goals as goal

pub returns : goal.returns
returns c = λ bytes given.
    let seen : ReaderView = record { complete_lines = c.self.inside.complete_lines; unfinished = c.self.inside.unfinished.items; state = c.self.inside.state } in
    part_read bytes c.args.more.now seen (record seen { unfinished = c.extend_from_slice.new.self.items }) (subst (HasRead bytes) (sym c.self.view_is) given) c.requires refl refl c.in_ok-extend_from_slice.ensures.items
