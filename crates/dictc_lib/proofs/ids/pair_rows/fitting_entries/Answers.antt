use Rattle.std.proofs.Common.{[]}
use Rattle.std.specs.Prelude.{pos}
use Rattle.dict_image.specs.declared.entry_ref.EntryRef.{EntryRef}
use Rattle.dictc_lib.specs.Templates.{fields_of}
use Rattle.dictc_lib.proofs.PairLemmas.{fitting_step}
use Rattle.dictc_lib.proofs.ids.pair_rows.fitting_entries.Goals as goal

pub loop-entry-preserved : goal.loop-entry-preserved
loop-entry-preserved c =
    let zero : EntryRef = record { left = 0; right = 0; cost = pos 0; feature = record { ref_ptr = (0, 0); now = [] }; token = 0 } in
    fitting_step (fields_of c.args.template.now) c.args.entries.now c.loop-entry.entry-index zero c.loop-entry.fitting.items c.add_fitting.new.fitting.items
    c.loop-entry-test.true c.loop-entry.invariant c.in_ok-add_fitting.ensures
