use Rattle.std.proofs.Common.{◌+◌, List, ◌++◌, take, drop, sym, ◌∙◌, subst}
use Rattle.std.proofs.lemmas.List.{append-nil}
use Rattle.mj_model.specs.Lexicon.{Row, rows_of}
use Rattle.image_writer.specs.Sections.{AreWritten}
use Rattle.image_writer.proofs.WriterLemmas.{records_more, records_all, records_around}
use Rattle.image_writer.proofs.Results.{passed_on}
use Rattle.image_writer.proofs.tokens.TokenWriter.add_all.Goals as goal

pub loop-record-init : goal.loop-record-init
loop-record-init c = λ all rows rest is written. subst (λ (rs : List Row). AreWritten all rs c.args.self.now) (sym (append-nil rows)) written

pub loop-record-preserved : goal.loop-record-preserved
loop-record-preserved c = λ all rows rest is written.
    let i = c.loop-record.record-index in
    let records = c.args.records.now in
    let around = records_around rows records i c.record-item.result rest c.loop-record-test.true c.record-item.is in
    subst (λ (rs : List Row). AreWritten all rs c.add.new.self) (records_more rows records i c.record-item.result c.loop-record-test.true c.record-item.is)
    (c.in_ok-add.ensures.written all (rows ++ rows_of (take i records)) (rows_of (drop (i + 1) records) ++ rest) (is ∙ around) (c.loop-record.invariant all rows rest is written))

pub returns-in_err-add-clause-large : goal.returns-in_err-add-clause-large
returns-in_err-add-clause-large c = λ all rows rest is written.
    let i = c.loop-record.record-index in
    let records = c.args.records.now in
    let around = records_around rows records i c.record-item.result rest c.loop-record-test.true c.record-item.is in
    passed_on c.from_residual.result _ c.from_residual.ensures.1
    (c.in_err-add.ensures.large all (rows ++ rows_of (take i records)) (rows_of (drop (i + 1) records) ++ rest) (is ∙ around) (c.loop-record.invariant all rows rest is written))

pub returns-clause-written : goal.returns-clause-written
returns-clause-written c = λ all rows rest is written.
    subst (λ (rs : List Row). AreWritten all rs c.loop-record.self) (records_all rows c.args.records.now c.loop-record.record-index c.loop-record-test.false) (c.loop-record.invariant all rows rest is written)
