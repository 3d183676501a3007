-- The two kinds of dictionary.
use Rattle.std.proofs.Common.{◌≡◌, refl, ap, sym, ◌∙◌}
use Rattle.std.specs.Prelude.{true, false}
use Rattle.mj_model.specs.Overlays.{is_user}
use Rattle.mj_model.specs.Tables.{Kind, System, User}

pub a_user : (kind : Kind) → is_user kind ≡ true → kind ≡ User
a_user System h = absurd (cc)
a_user User h = refl

pub a_system : (kind : Kind) → is_user kind ≡ false → kind ≡ System
a_system System h = refl
a_system User h = absurd (cc)

pub not_both : (kind : Kind) → kind ≡ User → kind ≡ System → ⊥
not_both kind h k = let e : User ≡ System = sym h ∙ k in let b : true ≡ false = ap is_user e in absurd (cc)
