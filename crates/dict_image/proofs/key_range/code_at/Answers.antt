use Rattle.std.proofs.Common.{◌+◌, ◌<◌, ℕ, length, sym, ap, ◌∙◌}
use Rattle.std.proofs.lemmas.Bool.{ltb-false, ltb-true}
use Rattle.std.proofs.lemmas.List.{get_or_read}
use Rattle.mj_model.proofs.KeyWalks.{code_of_byte}
use Rattle.dict_image.proofs.PrefixBytes.{code_past}
use Rattle.dict_image.proofs.key_range.code_at.Goals as goal

pub returns-in-Some-clause-code : goal.returns-in-Some-clause-code
returns-in-Some-clause-code c =
    let key = c.args.key.now in
    let less : c.args.place < length key = ltb-true c.args.place (length key) (sym c.in-Some.ensures.lookup.0) in
    ap (λ (b : ℕ). b + 1) (get_or_read key c.args.place c.in-Some.byte.now less c.in-Some.ensures.lookup.1 0) ∙ sym (code_of_byte key c.args.place less)

pub returns-in-None-clause-code : goal.returns-in-None-clause-code
returns-in-None-clause-code c =
    let key = c.args.key.now in
    sym (code_past key c.args.place (ltb-false c.args.place (length key) (sym c.in-None.ensures.lookup.0)))
