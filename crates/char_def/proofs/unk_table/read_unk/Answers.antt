use Rattle.std.proofs.Common.{◌∙◌, inr, arith}
use Rattle.std.proofs.lemmas.Result.{err_from_is_err_and}
use Rattle.std.proofs.lemmas.List.{length-map}
use Rattle.std.specs.declared.alloc.Global.{Global}
use Rattle.std.specs.declared.vec.Vec.{Vec}
use Rattle.mj_model.specs.declared.entry.Record.{Record}
use Rattle.mj_model.specs.Lexicon.{rows_of}
use Rattle.char_def.specs.UnkRows.{lists_are}
use Rattle.char_def.proofs.AcceptedUnk.{lists_formed}
use Rattle.char_def.proofs.UnkLemmas.{rejected_whole, missing_rejected, none_missing}
use Rattle.char_def.proofs.unk_table.read_unk.Goals as goal

pub returns-in_err-lists-clause-rejected : goal.returns-in_err-lists-clause-rejected
returns-in_err-lists-clause-rejected c =
    let p = err_from_is_err_and c.from_residual.result c.from_residual.ensures.1 in
    rw (p.1, p.2) (rejected_whole c.args.table.now.categories c.args.bytes.now c.in_err-lists.field-0.0 c.in_err-lists.ensures.rejected)

pub returns-then-missing-len-clause-rejected : goal.returns-then-missing-len-clause-rejected
returns-then-missing-len-clause-rejected c =
    rw c.at.ensures
    (inr (missing_rejected c.args.table.now.categories c.args.bytes.now c.in_ok-lists.lists.items c.first_empty-missing.result c.in_ok-lists.ensures.accepted
    (rw c.deref.ensures.value at c.first_empty-missing.ensures.first) (omega (arith, c.in_ok-lists.lists.ok, c.len.ensures, c.if-missing-len.true))))

pub invariant_of-result : goal.invariant_of-result
invariant_of-result c =
    lists_formed c.args.table.now.categories c.args.bytes.now (lists_are c.in_ok-lists.lists.items)
    (none_missing c.args.table.now.categories c.args.bytes.now c.in_ok-lists.lists.items c.first_empty-missing.result c.in_ok-lists.ensures.accepted
    (rw c.deref.ensures.value at c.first_empty-missing.ensures.first) (omega (arith, c.in_ok-lists.lists.ok, c.len.ensures, c.if-missing-len.false)))

pub returns-clause-accepted : goal.returns-clause-accepted
returns-clause-accepted c =
    none_missing c.args.table.now.categories c.args.bytes.now c.in_ok-lists.lists.items c.first_empty-missing.result c.in_ok-lists.ensures.accepted
    (rw c.deref.ensures.value at c.first_empty-missing.ensures.first) (omega (arith, c.in_ok-lists.lists.ok, c.len.ensures, c.if-missing-len.false))

pub returns-clause-count : goal.returns-clause-count
returns-clause-count c = length-map c.in_ok-lists.lists.items (λ (list : Vec Record Global). rows_of list.items) ∙ c.in_ok-lists.ensures.count
