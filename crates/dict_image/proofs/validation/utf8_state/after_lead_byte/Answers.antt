use Rattle.std.proofs.Common.{arith}
use Rattle.dict_image.proofs.Utf8StateLemmas.{one_started, two_started, started_by_e0, started_before_ed, started_by_ed, started_past_ed, started_by_f0, started_before_f4, started_by_f4, none_started}
use Rattle.dict_image.proofs.validation.utf8_state.after_lead_byte.Goals as goal

pub returns-in-0-to-127 : goal.returns-in-0-to-127
returns-in-0-to-127 c = one_started c.args.byte (omega arith)

pub returns-in-194-to-223 : goal.returns-in-194-to-223
returns-in-194-to-223 c = two_started c.args.byte (omega arith)

pub returns-in-224 : goal.returns-in-224
returns-in-224 c = started_by_e0 c.args.byte c.in-224.is

pub returns-in-225-to-236 : goal.returns-in-225-to-236
returns-in-225-to-236 c = started_before_ed c.args.byte (omega arith)

pub returns-in-237 : goal.returns-in-237
returns-in-237 c = started_by_ed c.args.byte c.in-237.is

pub returns-in-238-to-239 : goal.returns-in-238-to-239
returns-in-238-to-239 c = started_past_ed c.args.byte (omega arith)

pub returns-in-240 : goal.returns-in-240
returns-in-240 c = started_by_f0 c.args.byte c.in-240.is

pub returns-in-241-to-243 : goal.returns-in-241-to-243
returns-in-241-to-243 c = started_before_f4 c.args.byte (omega arith)

pub returns-in-244 : goal.returns-in-244
returns-in-244 c = started_by_f4 c.args.byte c.in-244.is

pub returns-in-128-to-193 : goal.returns-in-128-to-193
returns-in-128-to-193 c = none_started c.args.byte (omega arith) (omega arith)

pub returns-in-245-to-255 : goal.returns-in-245-to-255
returns-in-245-to-255 c = none_started c.args.byte (omega arith) (omega arith)
