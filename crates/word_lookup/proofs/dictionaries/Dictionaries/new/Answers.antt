use Rattle.std.proofs.Common.{sym, ◌∙◌, map}
use Rattle.std.specs.Prelude.{None}
use Rattle.std.proofs.lemmas.Result.{err_from_is_err_and}
use Rattle.image_format.specs.ImageMeaning.{image_tables}
use Rattle.word_lookup.proofs.UserLemmas.{no_user_fault, overlay_found, overlay_is}
use Rattle.word_lookup.specs.Overlays.{overlay_of}
use Rattle.word_lookup.proofs.dictionaries.Dictionaries.new.Goals as goal

pub returns-in_err-check_users-clause-rejected : goal.returns-in_err-check_users-clause-rejected
unfolding overlay_of
returns-in_err-check_users-clause-rejected c =
    let p = err_from_is_err_and c.from_residual.result c.from_residual.ensures.1 in
    rw (p.1, p.2) (overlay_found (image_tables c.args.system.now) (map image_tables c.args.users.now) c.matrix_sizes.result _ (sym c.is_user.ensures.kind ∙ c.if-is_user.false)
    c.matrix_sizes.ensures.sizes c.in_err-check_users.ensures.rejected)

pub over-requires : goal.over-requires
unfolding overlay_of
over-requires c =
    overlay_is (image_tables c.args.system.now) (map image_tables c.args.users.now) c.matrix_sizes.result (sym c.is_user.ensures.kind ∙ c.if-is_user.false) c.matrix_sizes.ensures.fitting
    c.matrix_sizes.ensures.sizes c.in_ok-check_users.ensures.accepted

pub returns-clause-accepted : goal.returns-clause-accepted
unfolding overlay_of
returns-clause-accepted c =
    let users = map image_tables c.args.users.now in
    overlay_found (image_tables c.args.system.now) users c.matrix_sizes.result None (sym c.is_user.ensures.kind ∙ c.if-is_user.false) c.matrix_sizes.ensures.sizes
    (no_user_fault c.matrix_sizes.result 0 users c.in_ok-check_users.ensures.accepted)

pub returns-in_err-check_users-clause-fitting : goal.returns-in_err-check_users-clause-fitting
returns-in_err-check_users-clause-fitting c =
    let p = err_from_is_err_and c.from_residual.result c.from_residual.ensures.1 in
    rw (p.1) tt

pub returns-clause-fitting : goal.returns-clause-fitting
unfolding overlay_of
returns-clause-fitting c =
    overlay_is (image_tables c.args.system.now) (map image_tables c.args.users.now) c.matrix_sizes.result (sym c.is_user.ensures.kind ∙ c.if-is_user.false) c.matrix_sizes.ensures.fitting
    c.matrix_sizes.ensures.sizes c.in_ok-check_users.ensures.accepted
