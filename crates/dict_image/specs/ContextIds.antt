-- The context ids that a text uses.
use Rattle.std.specs.Prelude.{◌≡◌}
use Rattle.mj_model.specs.declared.matrix_sizes.MatrixSizes.{MatrixSizes}
use Rattle.dict_image.specs.declared.context_ids.ContextIds.{ContextIds}

-- left ids and right ids of a dictionary with these sizes
pub record AreOfSizes (sizes : MatrixSizes) (ids : ContextIds) : Type 0 where
  pub lefts : ids.lefts.size ≡ sizes.left
  pub rights : ids.rights.size ≡ sizes.right

-- the sizes are unchanged
pub record HaveSameSizes (old new : ContextIds) : Type 0 where
  pub lefts : new.lefts.size ≡ old.lefts.size
  pub rights : new.rights.size ≡ old.rights.size
