use Rattle.word_lookup.specs.Overlays.{overlay_of}
use Rattle.jseg_lib.proofs.RequestedOverlays.{as_given}
use Rattle.jseg_lib.proofs.printing.requested_dictionaries.Goals as goal

pub returns-in-Ok-clause-overlay : goal.returns-in-Ok-clause-overlay
returns-in-Ok-clause-overlay c =
    as_given c.args.system.now c.args.users.now c.args.grouping c.min.result (overlay_of c.in-Ok.dictionaries) (overlay_of c.with_grouping.result)
    c.min.ensures c.in-Ok.ensures.overlay c.with_grouping.ensures
