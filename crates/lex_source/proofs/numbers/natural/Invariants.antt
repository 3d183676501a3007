use Rattle.std.proofs.Common.{◌≡◌, take, drop}
use Rattle.std.specs.Str.{all_ascii_digits}
use Rattle.mj_model.specs.Numbers.{digits_value}
use Rattle.lex_source.specs.Digits.{saturated}
use Rattle.lex_source.proofs.numbers.natural.Given as goal

abbrev pub invariant-loop-byte : goal.invariant-loop-byte
invariant-loop-byte l = record {
  left : all_ascii_digits l.digits ≡ all_ascii_digits (drop l.byte-index l.digits);
  read : l.value ≡ saturated (digits_value (take l.byte-index l.digits));
}
