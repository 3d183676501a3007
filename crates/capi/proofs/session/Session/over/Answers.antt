use Rattle.std.proofs.Common.{◌≡◌}
use Rattle.line_segmenter.specs.Faults.{PassesTestsBeforeKeys}
use Rattle.line_segmenter.specs.declared.fault.SegmentFault.{SegmentFault}
use Rattle.line_segmenter.specs.declared.fault.SegmentFault.TheVariants.{Memory}
use Rattle.line_segmenter.proofs.ResultLemmas.{each_err}
use Rattle.line_segmenter.proofs.OutOfMemoryLemmas.{passes}
use Rattle.capi.proofs.session.Session.over.Goals as goal

pub returns-clause-out_of_memory : goal.returns-clause-out_of_memory
returns-clause-out_of_memory c =
    let image = c.args.image in
    each_err c.of.result (λ (fault : SegmentFault). fault ≡ Memory) (PassesTestsBeforeKeys c.args.digest image) (passes c.args.digest image c.in_ok-load.ensures.accepted)
