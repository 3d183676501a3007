-- A session and the heap's handle as the type arguments of a call: the layouts that are passed, what drops each, and that the drops keep to what is asked of them. Assumes `Logic`.
use Rattle.std.proofs.Common.{[], ◌∷◌, refl}
use Rattle.std.specs.contracts.alloc.Global as heap
use Rattle.std.specs.contracts.impls.GlobalAllocator.TheImpl.{ghosts}
use Rattle.std.proofs.alloc.Global.TheLaws as heap_laws
use Rattle.std_alloc.specs.contracts.boxed.Box as box
use Rattle.std_alloc.proofs.boxed.Box.TheLaws as box_laws
use seplogic.Ra.Ura.{Ura}
use mir.Syntax.{Dict, impl, method, no_args, tnil, tcons, dnil}
use mir.Raw.{raw as bare}
use base.Fml.{fsep, ftrue}
use base.Logic.{emp, emp∗, sep}
use contract.Running.{Running}
use prog.Model.{Model}
use prog.Routine.{Env}
use prog.Wired.{Wired}
use types.Logic.{Logic, sem}
use types.Kit.{raw, ◌$◌, ◌∵◌, !, qed, done, join, keep, show}
use denote.Exit.{no}
use denote.Laws.{Lawful}
use denote.Param.{arg, layout, param}
use denote.Param.Glue.{Bound, Met}
use denote.Param.Laws.{Laws, arg_laws}
use denote.Param.NoDrop.{glues}
use denote.RattleType.{RattleType}
use denote.Signature.{Signature, plain}
use denote.Steps.{nothing}
use denote.Triple.Carry.{beside, spared}
use denote.Triple.Clauses.{closing}
use denote.Triple.Spec.{Spec, triple_of}
use denote.Triple.Table.{run_framed, widened}
use Rattle.capi.specs.contracts.session.Session as session
use Rattle.capi.specs.contracts.capi++session++Session+Destruct.drop as session_drop
use Rattle.capi.proofs.session.Session.TheLaws as session_laws
use Rattle.capi.proofs.capi++session++Session+Destruct.drop.Met as session_drop_met
use Rattle.capi.proofs.capi++session++Session+Destruct.drop.Symbol as session_drop_symbol
use Rattle.capi.proofs.Destruct++none.drop.Code.{code as no-drop}

abbrev pub Session : RattleType
Session = session.the_row

abbrev pub Heap : RattleType
Heap = heap.the_row

abbrev pub Boxed : RattleType
Boxed = box.the_row Session Heap ghosts

-- what is owned of a box is one machine value, of a box's type
pub boxed_lawful : {M : Type 1} {𝓤 : Ura M} (𝓛 : Logic 𝓤) → Lawful 𝓛 Boxed
boxed_lawful 𝓛 = (box_laws.the_field_loose Session Heap ghosts session_laws.the_row_laws heap_laws.the_row_laws).lawful 𝓛

-- a type by its layout, with no name
abbrev passed : RattleType → RattleType
passed R = arg (bare (layout R)) no R

abbrev pub SessionPassed : RattleType
SessionPassed = passed Session

abbrev pub HeapPassed : RattleType
HeapPassed = passed Heap

pub session_passed : Laws SessionPassed
session_passed = arg_laws (bare (layout Session)) no Session session_laws.the_row_laws refl

pub heap_passed : Laws HeapPassed
heap_passed = arg_laws (bare (layout Heap)) no Heap heap_laws.the_row_laws refl

-- a handle of the heap has nothing to drop, and a session has its fields
abbrev pub heap_drop : Dict
heap_drop = impl ("capi::Destruct++none::drop" ∷ []) (tcons (layout HeapPassed) tnil) dnil

abbrev pub session_drop_passed : Dict
session_drop_passed = impl ("capi::capi++session++Session+Destruct::drop" ∷ []) tnil dnil

pub heap_drops : (γ : Env) → Wired γ no-drop → Bound γ HeapPassed heap_drop
unfolding no-drop
heap_drops γ wired = glues "capi::Destruct++none::drop" γ wired HeapPassed heap_passed

-- the drop of a session has no precondition and no postcondition, which is what a generic call
-- requires of it, at any lifetime
pub session_drops : {M : Type 1} (𝓤 : Ura M) (𝓛 : Logic 𝓤) (𝓜 : Model 𝓤 𝓛.H) (𝓡 : Running 𝓤 𝓛.H 𝓜) → Wired 𝓡.env session_drop_symbol.code → Met 𝓛 𝓜 𝓡 𝓡.env SessionPassed session_drop_passed
session_drops 𝓤 𝓛 𝓜 𝓡 wired =
    let callee = method session_drop_passed 0 no_args in let run = 𝓡.run (𝓡.env callee) in let framed = run_framed 𝓤 𝓛.H 𝓜 𝓡 (𝓡.env callee) in
    let S : Signature = record session_drop.signature { params = plain (λ _. param 0 SessionPassed) ∷ [] } in
    let said : Spec 𝓤 S = λ κs a. let e = session_drop.spec 𝓛 𝓜.mem 𝓡.returns κs a in record { ghost = e.ghost; requires = e.requires; ensures = e.ensures } in
    let silent : Spec 𝓤 S = closing 𝓛 (record { signature = S; kept = (no, tt) }) (λ κs a. record { ghost = Unit {0}; requires = λ _. emp 𝓤; ensures = λ _ _ _. emp 𝓤 }) in
    let by_method = widened 𝓤 𝓛.H (triple_of 𝓛 S said) 𝓜 𝓡 𝓡.env (𝓡.env session_drop_symbol.name) (𝓡.env callee) (session_drop_symbol.as_method 𝓡.env wired callee refl) (session_drop_met.met 𝓤 𝓛 𝓜 𝓡 wired) in
    spared 𝓛 S run framed 1 (Session.lives, tt) silent (beside 𝓛 S run framed said silent (λ κs a g. g) (λ κs a g. emp 𝓤) (λ κs a g. emp∗ 𝓤 (emp 𝓤))
    (λ κs a g r. qed 𝓛 (raw ((said κs a).ensures g r) ∷ raw (emp 𝓤) ∷ []) ∵ keep ! [] $
    show ! (λ (ws : Unit {0} × Unit {0}). sep 𝓤 (sem 𝓛 (fsep ftrue ftrue)) (emp 𝓤)) (tt, tt) $ nothing ! $ nothing ! $ nothing ! $ join ! $ done !) by_method)
