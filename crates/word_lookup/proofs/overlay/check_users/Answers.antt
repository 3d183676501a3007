use Rattle.std.proofs.lemmas.Result.{err_from_is_err_and}
use Rattle.image_format.specs.ImageMeaning.{image_tables}
use Rattle.word_lookup.proofs.UserLemmas.{all_passed, one_user_more, user_reported}
use Rattle.std.proofs.Common.{rules, arith}
use Rattle.word_lookup.proofs.overlay.check_users.Goals as goal

pub returns-in_err-check_user-clause-rejected : goal.returns-in_err-check_user-clause-rejected
returns-in_err-check_user-clause-rejected c =
    let p = err_from_is_err_and c.from_residual.result c.from_residual.ensures.1 in
    rw (p.1, p.2) (user_reported c.args.sizes image_tables c.args.users.now c.loop-i.i c.index-users-i.result c.in_err-check_user.field-0.0 (search rules) c.index-users-i.is c.loop-i.invariant c.in_err-check_user.ensures.rejected)

pub loop-i-preserved : goal.loop-i-preserved
loop-i-preserved c =
    one_user_more c.args.sizes image_tables c.args.users.now c.loop-i.i c.index-users-i.result (search rules) c.index-users-i.is c.in_ok-check_user.ensures.accepted c.loop-i.invariant

pub returns-clause-accepted : goal.returns-clause-accepted
returns-clause-accepted c = all_passed c.args.sizes image_tables c.args.users.now c.loop-i.i (omega arith) c.loop-i.invariant
