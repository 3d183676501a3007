use Rattle.std.proofs.Common.{arith, ◌≡◌, ℕ, length, get_or, ap, sym, ◌∙◌}
use Rattle.mj_model.specs.CellMap.{codes_of}
use Rattle.mj_model.proofs.KeyWalks.{code_of_byte, code_of_end}
use Rattle.double_array.proofs.tail.code_at.Goals as goal

pub returns-then-i-key-clause-code : goal.returns-then-i-key-clause-code
returns-then-i-key-clause-code c = sym (code_of_byte c.args.key.now c.args.i c.if-i-key.true)

pub returns-else-i-key-clause-code : goal.returns-else-i-key-clause-code
returns-else-i-key-clause-code c =
    let e : c.args.i ≡ length c.args.key.now = omega (arith, c.requires, c.if-i-key.false) in
    sym (ap (λ (n : ℕ). get_or (codes_of c.args.key.now) n 0) e ∙ code_of_end c.args.key.now)
