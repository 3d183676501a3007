use Rattle.std.proofs.Common.{◌∙◌}
use Rattle.char_def.proofs.UnkLemmas.{unk_started, as_many, unk_more, unk_rejected, unk_read}
use Rattle.char_def.proofs.unk_lines.read_lines.Goals as goal

pub loop-number-init : goal.loop-number-init
loop-number-init c = record {
  can = tt;
  finite = tt;
  count = as_many c.args.table.now.categories c.count.result c.in_ok-lists.lists.items c.in_ok-lists.ensures c.count.ensures.count;
  read = unk_started c.args.table.now.categories c.args.bytes.now _ c.count.result c.in_ok-lists.lists.items (c.into_iter-number-iterator.ensures.into_iter_gives ∙ c.lines-number-items.ensures) c.in_ok-lists.ensures c.count.ensures.count;
}

pub loop-number-preserved : goal.loop-number-preserved
loop-number-preserved c = record {
  can = tt;
  finite = tt;
  count = c.in-Ok.ensures.count ∙ c.loop-number.invariant.count;
  read = unk_more c.args.table.now.categories _ _ _ c.in-Some.number c.in-Some.line.now c.loop-number.held c.in-Ok.now _ _ c.loop-number.invariant.read c.in-Some.ensures.steps c.in-Ok.ensures.added;
}

pub returns-in-Err-clause-rejected : goal.returns-in-Err-clause-rejected
returns-in-Err-clause-rejected c =
    rw c.at.ensures
    (unk_rejected c.args.table.now.categories c.args.bytes.now _ _ c.in-Some.number c.in-Some.line.now c.loop-number.held c.in-Err.kind _ c.loop-number.invariant.read c.in-Some.ensures.steps c.in-Err.ensures.rejected)

pub returns-clause-accepted : goal.returns-clause-accepted
returns-clause-accepted c = unk_read c.args.table.now.categories c.args.bytes.now _ c.loop-number.held c.loop-number.lists.items c.loop-number.invariant.read c.in-None.ensures.steps.0
