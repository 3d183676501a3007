use Rattle.std.proofs.Common.{ℕ, List, ap, length, subst, sym, ◌∙◌, arith}
use Rattle.image_format.specs.ImageBytes.{header_of, section}
use Rattle.image_format.specs.Layouts.{key_form}
use Rattle.dict_image.specs.declared.validation.outline.Keys.TheVariants as keys
use Rattle.dict_image.specs.Validation.KeyPlaces.{AreKeysOf, AreStarts}
use Rattle.dict_image.proofs.KeyTableLemmas.{few_groups}
use Rattle.dict_image.proofs.dict.Dict.key_table.Goals as goal

pub new-requires-clause-starts : goal.new-requires-clause-starts
new-requires-clause-starts c =
    let places = subst (λ (bytes : List ℕ). AreKeysOf (key_form (header_of bytes).layout) (header_of bytes).groups (section bytes 5) (keys.Listed c.in-Listed.starts)) c.self.view_is
    (subst (AreKeysOf _ _ _) c.in-Listed.is c.self.invariant.outline.keys_are) in
    rw (c.deref.ensures.value, c.section.ensures.section) (subst (λ (n : ℕ). AreStarts n (section c.args.self.now 5) c.in-Listed.starts.items) (sym places.1.many) places.1)

pub new-requires-clause-few : goal.new-requires-clause-few
new-requires-clause-few c =
    let places = subst (λ (bytes : List ℕ). AreKeysOf (key_form (header_of bytes).layout) (header_of bytes).groups (section bytes 5) (keys.Listed c.in-Listed.starts)) c.self.view_is
    (subst (AreKeysOf _ _ _) c.in-Listed.is c.self.invariant.outline.keys_are) in
    let many = ap (length {A = ℕ}) c.deref.ensures.value ∙ places.1.many in
    let few = few_groups c.args.self.now c.section.ensures.formed in
    omega (arith, many, few)
