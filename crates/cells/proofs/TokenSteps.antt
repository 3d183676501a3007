-- Lemmas that the proofs of both functions of the block share: a `FreeToken` in the machine, and
-- what runs after a part of a body. Assumes `Logic`.
use Rattle.std.proofs.Common.{◌≡◌, List, [], ◌∷◌, ◌++◌, refl, ◌∙◌}
use seplogic.Ra.Ura.{Ura}
use mir.Syntax.{Body}
use mir.Val.{Val, vstruct, vcons, vnil, of_list}
use base.Logic.{ent, emp}
use base.Fml.{Fml}
use prog.Wp.{Env, Calls, Loops, Wp, after_seq, after_block}
use types.Logic.{Logic, sem}
use types.Kit.{Post, any_q, post}
use denote.RattleType.{RattleType}
use denote.Shadow.{shadow, makes_shadow}
use denote.Struct.Struct.{Struct}

-- a struct by its fields alone: its ownership does not depend on its name
abbrev plain_struct : List RattleType → RattleType
plain_struct fields = Struct (record { name = []; args = []; types = []; fields = fields })

-- the one machine value of a `FreeToken`, which has no bytes
abbrev pub token_val : Val
token_val = vstruct (vcons (vstruct vnil) vnil)

-- the ownership of its one field
abbrev pub mark_own : List Val → Fml
mark_own = (plain_struct (plain_struct [] ∷ [])).own_val (tt, tt)

pub mark_reported : (vs : List Val) → shadow (mark_own vs) → vs ≡ token_val ∷ []
mark_reported vs reported = reported.1.0 ∙ (λ i. vstruct (of_list (reported.1.1.0.1.0 i ++ [])) ∷ [])

pub mark_made : {M : Type 1} {𝓤 : Ura M} (𝓛 : Logic 𝓤) → ent 𝓤 (emp 𝓤) (sem 𝓛 (mark_own (token_val ∷ [])))
mark_made 𝓛 = makes_shadow 𝓛 (mark_own (token_val ∷ [])) (λ _. (tt, ((λ _. (tt, tt)), tt))) ((vstruct vnil ∷ [], tt), (refl, ((tt, (refl, tt)), tt)))

module _ {M : Type 1} {𝓤 : Ura M} (𝓛 : Logic 𝓤) where
  open 𝓛 use {H}

  -- the body runs next, and then what followed
  abbrev pub then_runs : Calls 𝓤 H → Loops 𝓤 H → Env 𝓤 H → Body → Post 𝓤 H → Post 𝓤 H
  then_runs C Λ E body next = any_q (after_seq 𝓤 H (Wp 𝓤 H C Λ E body (post 𝓤 H next)) (post 𝓤 H next))

  -- the block ends, and then what followed runs
  abbrev pub out_of_block : Post 𝓤 H → Post 𝓤 H
  out_of_block next = any_q (after_block 𝓤 H (post 𝓤 H next))
