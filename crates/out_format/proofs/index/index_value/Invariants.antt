use Rattle.std.proofs.Common.{◌≡◌, ◌≤◌, drop, true}
use Rattle.std.specs.Str.{all_ascii_digits}
use Rattle.mj_model.specs.Numbers.{digits_value}
use Rattle.out_format.proofs.IndexLemmas.{value_from}
use Rattle.out_format.proofs.index.index_value.Given as goal

abbrev pub invariant-loop-digit : goal.invariant-loop-digit
invariant-loop-digit l = record {
  left : all_ascii_digits (drop l.digit-index l.digits) ≡ true;
  low : l.value ≤ 65535;
  is : digits_value l.digits ≡ value_from l.value (drop l.digit-index l.digits);
}
