use Rattle.std.proofs.Common.{◌/◌, ◌%◌, arith, eqb-true, eq-eqb, bit_and, ◌^◌}
use Rattle.std.proofs.lemmas.Nat.{bit_set_by_shift}
use Rattle.dict_image.proofs.validation.infos.is_char_info.Goals as goal

pub returns-then-bits-categories : goal.returns-then-bits-categories
returns-then-bits-categories c =
    let test = bit_set_by_shift (c.args.entry % 262144) (c.args.entry / 262144) in
    let bit = bit_and (c.args.entry % 262144 / 2 ^ (c.args.entry / 262144)) 1 in (
      λ t. record { first_below = omega arith; first_in_set = test.0 (eqb-true bit 1 t); set_below = grind arith },
      λ is. eq-eqb bit 1 (test.1 is.first_in_set),
    )
