use Rattle.image_writer.proofs.GroupingLemmas.{begins_by_test}
use Rattle.image_writer.proofs.groups.starts_group.Goals as goal

pub returns-else-i-eq0 : goal.returns-else-i-eq0
returns-else-i-eq0 c =
    begins_by_test c.args.records.now c.args.i c.index-records-i.result c.index-records-i-else-i-eq0.result c.ne.result c.requires c.if-i-eq0.false c.ne.ensures
