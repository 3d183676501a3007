use Rattle.char_def.proofs.UnkLemmas.{list_added}
use Rattle.char_def.proofs.unk_lines.add.Goals as goal

pub returns-clause-added : goal.returns-clause-added
returns-clause-added c = list_added c.args.lists.now.items c.args.category c.index_mut.result.now _ c.args.made c.requires c.index_mut.ensures.value c.in_ok-push.ensures.items
