use Rattle.std.proofs.Common.{◌≡◌, ◌<◌, ◌≤◌, ◌-◌, length, take}
use Rattle.std.specs.Prelude.{slice_index}
use Rattle.mj_model.specs.Bytes.{quote}
use Rattle.lex_source.specs.Spelled.{IsDoubled}
use Rattle.lex_source.proofs.quoted.quoted_end.Given as goal

abbrev pub invariant-loop-at : goal.invariant-loop-at
invariant-loop-at l = record {
  within : l.at ≤ length l.bytes;
  inside : IsDoubled (take l.at l.bytes);
  here : l.at < length l.bytes → slice_index l.bytes l.at ≡ quote;
}

abbrev pub decreases-loop-at : goal.decreases-loop-at
decreases-loop-at l = length l.bytes - l.at
