use Rattle.std.proofs.Common.{[], sym, append-nil, rules}
use Rattle.std.proofs.lemmas.List.{take_all}
use Rattle.out_format.proofs.PlainLemmas.{not_plain}
use Rattle.out_format.proofs.plain_word.PlainWordItemPrinter.append_item.Goals as goal

pub returns-in_default : goal.returns-in_default
returns-in_default c = record {
  appended = ([], λ plain. absurd (not_plain c.args.item c.in_default.not-Surface c.in_default.not-Feature plain), sym (append-nil c.args.out.now.items));
  unchanged = take_all _ _ (search rules);
}
