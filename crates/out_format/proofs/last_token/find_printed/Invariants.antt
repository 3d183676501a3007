use Rattle.std.proofs.Common.{◌≡◌}
use Rattle.out_format.proofs.last_token.find_printed.Given as goal

abbrev pub invariant-loop-part : goal.invariant-loop-part
invariant-loop-part l = l.fields ≡ l.initial.fields
