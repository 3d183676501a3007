use Rattle.std.proofs.Common.{refl, ◌≡◌, ◌++◌, ◌∷◌, [], ◌+◌, subst, sym, take}
use Rattle.std.specs.List.{AllZip}
use Rattle.image_format.specs.ImageMeaning.{image_tables}
use Rattle.mj_model.specs.declared.run_fault.RunFault.TheVariants.{UserSource}
use Rattle.segmenter.specs.SourceDicts.{IsUserDictOf, users_of}
use Rattle.segmenter.proofs.ResultLemmas.{when_ok}
use Rattle.segmenter.proofs.UserDicts.{none_at_fault, user_first, user_more, user_error_first, users_end}
use Rattle.segmenter.proofs.dicts.user_dicts.Goals as goal

pub loop-i-init : goal.loop-i-init
loop-i-init c = subst (λ dicts. AllZip (IsUserDictOf (image_tables c.args.system.now)) [] dicts) (sym c.new-dicts.ensures.items) tt

pub returns-in-Err-clause-rejected : goal.returns-in-Err-clause-rejected
returns-in-Err-clause-rejected c =
    user_error_first (image_tables c.args.system.now) c.args.users.now c.loop-i.i _ c.loop-i.dicts.items c.loop-i-test.true c.loop-i.invariant c.in-Err.fault c.run_fault_of.result (c.run_fault_of.ensures (UserSource c.loop-i.i) refl) c.in-Err.ensures.rejected

pub returns-in-Err-clause-first : goal.returns-in-Err-clause-first
returns-in-Err-clause-first c =
    user_first (image_tables c.args.system.now) c.args.users.now c.loop-i.i _ c.loop-i.dicts.items c.loop-i-test.true c.loop-i.invariant c.in-Err.fault c.run_fault_of.result (c.run_fault_of.ensures (UserSource c.loop-i.i) refl) c.in-Err.ensures.rejected

pub loop-i-preserved : goal.loop-i-preserved
loop-i-preserved c =
    let system = image_tables c.args.system.now in
    let added = when_ok c.add.result (c.add.new.dicts.items ≡ c.loop-i.dicts.items ++ c.in-Ok.dict ∷ []) c.if-is_err.ensures.value c.add.ensures in
    subst (AllZip (IsUserDictOf system) (users_of (take (c.loop-i.i + 1) c.args.users.now))) (sym added)
    (user_more system c.args.users.now c.loop-i.i _ c.loop-i.dicts.items c.in-Ok.dict c.loop-i-test.true c.loop-i.invariant c.in-Ok.ensures.dict)

pub returns-clause-dicts : goal.returns-clause-dicts
returns-clause-dicts c = users_end (image_tables c.args.system.now) c.args.users.now c.loop-i.i c.loop-i.dicts.items c.loop-i-test.false c.loop-i.invariant

pub returns-clause-first : goal.returns-clause-first
returns-clause-first c = λ k first h.
    none_at_fault (image_tables c.args.system.now) (users_of c.args.users.now) c.loop-i.dicts.items
    (users_end (image_tables c.args.system.now) c.args.users.now c.loop-i.i c.loop-i.dicts.items c.loop-i-test.false c.loop-i.invariant) k first h
