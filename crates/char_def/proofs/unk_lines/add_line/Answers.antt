use Rattle.std.proofs.Common.{inr, ◌∙◌}
use Rattle.std.proofs.lemmas.Result.{err_from_is_err_and}
use Rattle.std.proofs.lemmas.Bool.{le-ltb}
use Rattle.mj_model.specs.Lexicon.{row_of}
use Rattle.mj_model.specs.declared.limits.TheConstants.{ENTRIES_MAX}
use Rattle.char_def.specs.Definitions.{HasNumber}
use Rattle.char_def.proofs.UnkLemmas.{line_bad, nothing_held, unnamed_rejected, full_rejected, row_held}
use Rattle.char_def.proofs.unk_lines.add_line.Goals as goal

pub returns-in_err-record-clause-rejected : goal.returns-in_err-record-clause-rejected
returns-in_err-record-clause-rejected c =
    let p = err_from_is_err_and c.from_residual.result c.from_residual.ensures.1 in
    rw (p.1, p.2) (line_bad c.args.table.now.categories c.args.number c.args.line.now c.args.held c.in_err-record.field-0.0 c.in_err-record.ensures)

pub returns-in_default-clause-added : goal.returns-in_default-clause-added
returns-in_default-clause-added c = nothing_held c.args.table.now.categories c.args.number c.args.line.now c.args.held c.args.lists.now.items (rw c.in_default.is at c.in_ok-record.ensures)

pub returns-in_default-number_of-clause-rejected : goal.returns-in_default-number_of-clause-rejected
returns-in_default-number_of-clause-rejected c =
    inr (unnamed_rejected c.args.table.now.categories c.args.number c.args.line.now c.args.held (row_of c.in-Some.record) (rw c.in-Some.is at c.in_ok-record.ensures)
    (rw (c.as_bytes.ensures.value ∙ c.as_str.ensures.value) at c.in_default-number_of.ensures))

pub returns-then-held-ge-ENTRIES_MAX-clause-rejected : goal.returns-then-held-ge-ENTRIES_MAX-clause-rejected
returns-then-held-ge-ENTRIES_MAX-clause-rejected c =
    let named : HasNumber c.args.table.now.categories (row_of c.in-Some.record).surface c.in-Some-number_of.category = rw (c.as_bytes.ensures.value ∙ c.as_str.ensures.value) at c.in-Some-number_of.ensures in
    inr (full_rejected c.args.table.now.categories c.args.number c.args.line.now c.args.held (row_of c.in-Some.record) (rw c.in-Some.is at c.in_ok-record.ensures) named.defined
    (le-ltb c.args.held ENTRIES_MAX c.if-held-ge-ENTRIES_MAX.true))

pub returns-clause-added : goal.returns-clause-added
returns-clause-added c =
    let named : HasNumber c.args.table.now.categories (row_of c.in-Some.record).surface c.in-Some-number_of.category = rw (c.as_bytes.ensures.value ∙ c.as_str.ensures.value) at c.in-Some-number_of.ensures in
    row_held c.args.table.now.categories c.args.number c.args.line.now c.args.held c.in-Some-number_of.category (row_of c.in-Some.record) c.args.lists.now.items _ (rw c.in-Some.is at c.in_ok-record.ensures) named
    c.if-held-ge-ENTRIES_MAX.false c.in_ok-add.ensures.added
