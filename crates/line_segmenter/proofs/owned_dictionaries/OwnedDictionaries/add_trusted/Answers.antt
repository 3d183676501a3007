use Rattle.std.proofs.Common.{◌∷◌, ◌++◌, []}
use Rattle.image_format.specs.declared.digest_test.DigestTest.TheVariants.{Verified}
use Rattle.line_segmenter.specs.Segmenters.{FitOver}
use Rattle.line_segmenter.specs.Faults.{IsImage}
use Rattle.line_segmenter.specs.Trusted.{IsTrusted}
use Rattle.line_segmenter.proofs.FaultLemmas.{add_rejected}
use Rattle.line_segmenter.proofs.OverlayLemmas.{fits_if, none_added, still_so, user_added}
use Rattle.line_segmenter.proofs.ResultLemmas.{on_ok}
use Rattle.line_segmenter.proofs.owned_dictionaries.OwnedDictionaries.add_trusted.Goals as goal

pub load_trusted-requires-clause-intact : goal.load_trusted-requires-clause-intact
unfolding IsTrusted
load_trusted-requires-clause-intact c = c.requires.0

pub load_trusted-requires-clause-layout : goal.load_trusted-requires-clause-layout
unfolding IsTrusted
load_trusted-requires-clause-layout c = c.requires.1

pub invariant_of-self : goal.invariant_of-self
invariant_of-self c =
    still_so c.add_checked.result (FitOver c.self.inside.system) c.self.inside.users.items c.add_checked.new.users.items
    (c.self.inside.users.items ++ c.in_ok-user.user ∷ []) c.add_checked.ensures.added c.add_checked.ensures.unchanged c.add_checked.ensures.accepted c.self.invariant

pub returns-clause-added : goal.returns-clause-added
returns-clause-added c =
    user_added c.add_checked.result c.args.self.now c.self.inside.system c.self.inside.users.items c.add_checked.new.users.items c.in_ok-user.user c.args.image c.self.view_is
    c.in_ok-user.ensures c.add_checked.ensures.added

pub returns-clause-accepted : goal.returns-clause-accepted
unfolding IsImage IsTrusted
returns-clause-accepted c = on_ok c.add_checked.result (IsImage Verified c.args.image) c.requires.0

pub returns-clause-rejected : goal.returns-clause-rejected
unfolding IsImage IsTrusted
returns-clause-rejected c =
    add_rejected Verified c.add_checked.result c.args.self.now c.args.image c.requires.0 (rw (← c.self.view_is, ← c.in_ok-user.ensures) c.add_checked.ensures.rejected)

pub returns-clause-unchanged : goal.returns-clause-unchanged
returns-clause-unchanged c =
    none_added c.add_checked.result c.args.self.now c.self.inside.system c.self.inside.users.items c.add_checked.new.users.items c.self.view_is c.add_checked.ensures.unchanged

pub returns-clause-fits : goal.returns-clause-fits
returns-clause-fits c =
    fits_if c.add_checked.result c.args.self.now c.self.inside.system c.self.inside.users.items c.in_ok-user.user c.args.image c.self.view_is c.in_ok-user.ensures
    c.add_checked.ensures.accepted
