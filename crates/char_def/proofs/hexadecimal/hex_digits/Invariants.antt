use Rattle.std.proofs.Common.{◌≡◌, take, drop}
use Rattle.std.specs.Char.{is_ascii_hexdigit}
use Rattle.std.specs.List.{list_all}
use Rattle.mj_model.specs.CharDef.{hex_value}
use Rattle.char_def.specs.Hex.{number_up_to_max}
use Rattle.char_def.proofs.hexadecimal.hex_digits.Given as goal

abbrev pub invariant-loop-byte : goal.invariant-loop-byte
invariant-loop-byte l = record {
  left : list_all is_ascii_hexdigit l.digits ≡ list_all is_ascii_hexdigit (drop l.byte-index l.digits);
  read : l.value ≡ number_up_to_max (hex_value (take l.byte-index l.digits));
}
