use Rattle.std.proofs.lemmas.Result.{err_from_is_err_and}
use Rattle.std.proofs.Common.{◌≡◌, [], ◌∷◌, ◌++◌}
use Rattle.line_segmenter.specs.Segmenters.{FitOver}
use Rattle.line_segmenter.specs.declared.fault.SegmentFault.{SegmentFault}
use Rattle.line_segmenter.specs.declared.fault.SegmentFault.TheVariants.{Memory}
use Rattle.line_segmenter.specs.Faults.{IsImage, PassesTestsBeforeKeys}
use Rattle.line_segmenter.proofs.FaultLemmas.{add_rejected, user_rejected}
use Rattle.line_segmenter.proofs.OverlayLemmas.{fits_if, none_added, still_so, user_added}
use Rattle.line_segmenter.proofs.ResultLemmas.{each_err, on_ok}
use Rattle.line_segmenter.proofs.OutOfMemoryLemmas.{load_out_of_memory, passes}
use Rattle.line_segmenter.proofs.owned_dictionaries.OwnedDictionaries.add.Goals as goal

pub returns-in_err-user-clause-rejected : goal.returns-in_err-user-clause-rejected
returns-in_err-user-clause-rejected c =
    let p = err_from_is_err_and c.from_residual.result c.from_residual.ensures.1 in
    rw (p.1, p.2) (user_rejected c.args.digest c.args.self.now c.args.image c.in_err-user.field-0.0 c.in_err-user.ensures.rejected)

pub returns-in_err-user-clause-out_of_memory : goal.returns-in_err-user-clause-out_of_memory
returns-in_err-user-clause-out_of_memory c =
    let p = err_from_is_err_and c.from_residual.result c.from_residual.ensures.1 in
    rw (p.1, p.2) (load_out_of_memory c.args.digest c.args.image c.in_err-user.field-0.0 c.in_err-user.ensures.out_of_memory)

pub invariant_of-self : goal.invariant_of-self
invariant_of-self c =
    still_so c.add_checked.result (FitOver c.self.inside.system) c.self.inside.users.items c.add_checked.new.users.items
    (c.self.inside.users.items ++ c.in_ok-user.user ∷ []) c.add_checked.ensures.added c.add_checked.ensures.unchanged c.add_checked.ensures.accepted c.self.invariant

pub returns-clause-added : goal.returns-clause-added
returns-clause-added c =
    user_added c.add_checked.result c.args.self.now c.self.inside.system c.self.inside.users.items c.add_checked.new.users.items c.in_ok-user.user c.args.image c.self.view_is
    c.in_ok-user.ensures.dict c.add_checked.ensures.added

pub returns-clause-accepted : goal.returns-clause-accepted
unfolding IsImage
returns-clause-accepted c = on_ok c.add_checked.result (IsImage c.args.digest c.args.image) c.in_ok-user.ensures.accepted

pub returns-clause-rejected : goal.returns-clause-rejected
unfolding IsImage
returns-clause-rejected c =
    add_rejected c.args.digest c.add_checked.result c.args.self.now c.args.image c.in_ok-user.ensures.accepted (rw (← c.self.view_is, ← c.in_ok-user.ensures.dict) c.add_checked.ensures.rejected)

pub returns-clause-out_of_memory : goal.returns-clause-out_of_memory
unfolding IsImage
returns-clause-out_of_memory c =
    let image = c.args.image in
    each_err c.add_checked.result (λ (fault : SegmentFault). fault ≡ Memory) (PassesTestsBeforeKeys c.args.digest image) (passes c.args.digest image c.in_ok-user.ensures.accepted)

pub returns-clause-unchanged : goal.returns-clause-unchanged
returns-clause-unchanged c =
    none_added c.add_checked.result c.args.self.now c.self.inside.system c.self.inside.users.items c.add_checked.new.users.items c.self.view_is c.add_checked.ensures.unchanged

pub returns-clause-fits : goal.returns-clause-fits
returns-clause-fits c =
    fits_if c.add_checked.result c.args.self.now c.self.inside.system c.self.inside.users.items c.in_ok-user.user c.args.image c.self.view_is c.in_ok-user.ensures.dict
    c.add_checked.ensures.accepted
