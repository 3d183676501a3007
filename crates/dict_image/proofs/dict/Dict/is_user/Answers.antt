use Rattle.std.proofs.Common.{◌≡◌, false, ap, ◌∙◌, refl}
use Rattle.image_format.specs.declared.header.Header.{Header}
use Rattle.image_format.specs.declared.kind.DictKind.{DictKind}
use Rattle.image_format.specs.declared.kind.DictKind.TheVariants as dict
use Rattle.image_format.specs.DictKinds.{kind_meant}
use Rattle.image_format.specs.ImageBytes.{kind_of}
use Rattle.mj_model.specs.Overlays.{is_user}
use Rattle.dict_image.proofs.OutlineLemmas.{is_formed}
use Rattle.dict_image.proofs.dict.Dict.is_user.Goals as goal

pub returns-in-User-clause-formed : goal.returns-in-User-clause-formed
returns-in-User-clause-formed c = is_formed c.args.self.now c.header.ensures.formed

no_user : (kind : DictKind) → (kind ≡ dict.User → ⊥) → false ≡ is_user (kind_meant kind)
no_user dict.System other = refl
no_user dict.User other = absurd (other refl)
no_user (dict.Other n) other = refl

pub returns-in_default : goal.returns-in_default
returns-in_default c = record {
  kind = no_user c.header.result.now.kind c.in_default.not-User ∙ ap (λ (h : Header). is_user (kind_of h)) c.header.ensures.numbers;
  formed = is_formed c.args.self.now c.header.ensures.formed;
}
