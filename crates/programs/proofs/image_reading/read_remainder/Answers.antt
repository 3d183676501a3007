use Rattle.std.proofs.Common.{ℕ, List, length, sym, subst, arith, ap}
use Rattle.std.specs.Prelude.{Err}
use Rattle.programs.specs.HashedImages.{AgreeOnDigest, HasReceived}
use Rattle.programs.specs.Reading.{IsPrefixRead, IsReadOn}
use Rattle.programs.specs.declared.image_pieces.ImagePieces.{ImagePieces}
use Rattle.programs.specs.declared.image_reading.ReadImage.{ReadImage}
use Rattle.programs.specs.declared.reading.ReadFault.{ReadFault}
use Rattle.programs.specs.declared.reading.ReadFault.TheVariants.{Endless}
use Rattle.programs.proofs.ImageHeadLemmas.{longer_after}
use Rattle.programs.proofs.Results.{same_read}
use Rattle.programs.proofs.image_reading.read_remainder.Goals as goal

pub returns-in-Ok-Whole-clause-whole : goal.returns-in-Ok-Whole-clause-whole
returns-in-Ok-Whole-clause-whole g c =
    let before = g.R.Read.remaining c.args.reader.now in
    let after = g.R.Read.remaining c.read_prefix.new.reader in
    let front = c.in-Ok-Whole.ensures.prefix c.args.first.items c.started-started.ensures in
    let is = subst (IsPrefixRead (λ (pieces : ImagePieces) (bytes : List ℕ). HasReceived bytes pieces) _ c.args.reads _ c.args.first.items before after) c.in-Ok-Whole.field-0-is front in
    subst (IsReadOn c.args.first.items before after) (sym (c.whole.ensures.bytes is.0 is.1)) is.2

pub returns-in-Ok-Whole-clause-end : goal.returns-in-Ok-Whole-clause-end
returns-in-Ok-Whole-clause-end g c =
    let before = g.R.Read.remaining c.args.reader.now in
    let after = g.R.Read.remaining c.read_prefix.new.reader in
    let front = c.in-Ok-Whole.ensures.prefix c.args.first.items c.started-started.ensures in
    let is = subst (IsPrefixRead (λ (pieces : ImagePieces) (bytes : List ℕ). HasReceived bytes pieces) _ c.args.reads _ c.args.first.items before after) c.in-Ok-Whole.field-0-is front in
    is.3

pub returns-in-Ok-Whole-clause-few : goal.returns-in-Ok-Whole-clause-few
returns-in-Ok-Whole-clause-few g c =
    let before = g.R.Read.remaining c.args.reader.now in
    let after = g.R.Read.remaining c.read_prefix.new.reader in
    let front = c.in-Ok-Whole.ensures.prefix c.args.first.items c.started-started.ensures in
    let is = subst (IsPrefixRead (λ (pieces : ImagePieces) (bytes : List ℕ). HasReceived bytes pieces) _ c.args.reads _ c.args.first.items before after) c.in-Ok-Whole.field-0-is front in
    let long = ap length (c.whole.ensures.bytes is.0 is.1) in
    let most = is.4 in
    let more = c.saturating_sub-more.ensures in
    let few = c.requires.few in
    omega (arith, long, most, more, few)

pub returns-in-Ok-Whole-clause-digest : goal.returns-in-Ok-Whole-clause-digest
returns-in-Ok-Whole-clause-digest g c =
    let before = g.R.Read.remaining c.args.reader.now in
    let after = g.R.Read.remaining c.read_prefix.new.reader in
    let front = c.in-Ok-Whole.ensures.prefix c.args.first.items c.started-started.ensures in
    let is = subst (IsPrefixRead (λ (pieces : ImagePieces) (bytes : List ℕ). HasReceived bytes pieces) _ c.args.reads _ c.args.first.items before after) c.in-Ok-Whole.field-0-is front in
    subst (λ (bytes : List ℕ). AgreeOnDigest c.args.reading.digest c.whole.result.digest bytes) (sym (c.whole.ensures.bytes is.0 is.1)) (c.whole.ensures.digest is.0 is.1)

pub returns-in-Ok-More-clause-rejected : goal.returns-in-Ok-More-clause-rejected
returns-in-Ok-More-clause-rejected g c =
    let before = g.R.Read.remaining c.args.reader.now in
    let after = g.R.Read.remaining c.read_prefix.new.reader in
    let front = c.in-Ok-More.ensures.prefix c.args.first.items c.started-started.ensures in
    let is = subst (IsPrefixRead (λ (pieces : ImagePieces) (bytes : List ℕ). HasReceived bytes pieces) _ c.args.reads _ c.args.first.items before after) c.in-Ok-More.field-0-is front in
    let many = is.3 in
    let more = c.saturating_sub-more.ensures in
    longer_after c.args.first.items is.0 c.args.reported before after c.requires.head is.2 (omega (arith, many, more))

pub returns-clause-endless : goal.returns-clause-endless
returns-clause-endless g c = λ same. c.in-Err.ensures.endless (ap (λ (fault : ReadFault). Err fault) (same_read ReadImage c.in-Err.fault Endless same))
