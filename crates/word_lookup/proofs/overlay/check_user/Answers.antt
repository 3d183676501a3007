use Rattle.std.proofs.Common.{ap, sym, ◌∙◌}
use Rattle.mj_model.specs.declared.matrix_sizes.MatrixSizes.{MatrixSizes}
use Rattle.image_format.specs.ImageMeaning.{image_tables}
use Rattle.word_lookup.proofs.UserLemmas.{left_differs, other_sizes, right_differs, same}
use Rattle.word_lookup.proofs.overlay.check_user.Goals as goal
use Rattle.word_lookup.proofs.overlay.check_user.Goals.{then-right-sizes-via-then-right-sizes, then-right-sizes-via-else-right-sizes+then-left-sizes}

pub returns-then-right-sizes-clause-rejected : goal.returns-then-right-sizes-clause-rejected
returns-then-right-sizes-clause-rejected c = λ others.
    let t = image_tables c.args.user.now in
    let user = sym c.is_user.ensures.kind ∙ c.if-not-is_user.false in
    other_sizes c.args.sizes c.args.i t others user (elim c.then-right-sizes.branch [
      | then-right-sizes-via-then-right-sizes w ↦ right_differs t.sizes c.args.sizes _ (ap (λ (s : MatrixSizes). s.right) c.matrix_sizes-right.ensures.sizes) w.if-right-sizes.true
      | then-right-sizes-via-else-right-sizes+then-left-sizes w ↦ left_differs t.sizes c.args.sizes _ (ap (λ (s : MatrixSizes). s.left) c.matrix_sizes-right.ensures.sizes) w.if-left-sizes.true
    ])

pub returns-clause-accepted : goal.returns-clause-accepted
returns-clause-accepted c =
    let t = image_tables c.args.user.now in
    record {
      is_users = sym c.is_user.ensures.kind ∙ c.if-not-is_user.false;
      same_sizes = same t.sizes c.args.sizes _ _ (ap (λ (s : MatrixSizes). s.right) c.matrix_sizes-right.ensures.sizes) (ap (λ (s : MatrixSizes). s.left) c.matrix_sizes-right.ensures.sizes) c.if-right-sizes.false c.if-left-sizes.false;
      fits = c.matrix_sizes-right.ensures.fitting;
    }
