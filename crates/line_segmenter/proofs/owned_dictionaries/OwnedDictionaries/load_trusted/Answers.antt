use Rattle.image_format.specs.declared.digest_test.DigestTest.TheVariants.{Verified}
use Rattle.line_segmenter.specs.Faults.{IsImage}
use Rattle.line_segmenter.specs.Trusted.{IsTrusted}
use Rattle.line_segmenter.proofs.FaultLemmas.{alone_rejected}
use Rattle.line_segmenter.proofs.ResultLemmas.{on_ok}
use Rattle.line_segmenter.proofs.owned_dictionaries.OwnedDictionaries.load_trusted.Goals as goal

pub load_trusted-requires-clause-intact : goal.load_trusted-requires-clause-intact
unfolding IsTrusted
load_trusted-requires-clause-intact c = c.requires.0

pub load_trusted-requires-clause-layout : goal.load_trusted-requires-clause-layout
unfolding IsTrusted
load_trusted-requires-clause-layout c = c.requires.1

pub returns-clause-accepted : goal.returns-clause-accepted
unfolding IsImage IsTrusted
returns-clause-accepted c = on_ok c.alone.result (IsImage Verified c.args.image) c.requires.0

pub returns-clause-rejected : goal.returns-clause-rejected
unfolding IsImage IsTrusted
returns-clause-rejected c =
    alone_rejected Verified c.alone.result c.in_ok-load_trusted.field-0 c.args.image c.in_ok-load_trusted.ensures c.requires.0 c.alone.ensures.rejected
