use Rattle.std.proofs.lemmas.Result.{err_from_is_err_and}
use Rattle.std.proofs.Common.{◌≡◌, ℕ, List, [], subst}
use Rattle.std.specs.Prelude.{IfOk}
use Rattle.line_segmenter.specs.Faults.{IsImage, PassesTestsBeforeKeys}
use Rattle.line_segmenter.proofs.FaultLemmas.{alone_rejected, alone_takes_no_memory, load_rejected}
use Rattle.line_segmenter.proofs.ResultLemmas.{on_ok}
use Rattle.line_segmenter.proofs.OutOfMemoryLemmas.{load_out_of_memory}
use Rattle.line_segmenter.proofs.owned_dictionaries.OwnedDictionaries.load.Goals as goal

pub returns-in_err-load_image_bytes-clause-rejected : goal.returns-in_err-load_image_bytes-clause-rejected
returns-in_err-load_image_bytes-clause-rejected c =
    let p = err_from_is_err_and c.from_residual.result c.from_residual.ensures.1 in
    rw (p.1, p.2) (load_rejected c.args.digest c.args.image c.in_err-load_image_bytes.field-0.0 c.in_err-load_image_bytes.ensures.rejected)

pub returns-in_err-load_image_bytes-clause-out_of_memory : goal.returns-in_err-load_image_bytes-clause-out_of_memory
returns-in_err-load_image_bytes-clause-out_of_memory c =
    let p = err_from_is_err_and c.from_residual.result c.from_residual.ensures.1 in
    rw (p.1, p.2) (load_out_of_memory c.args.digest c.args.image c.in_err-load_image_bytes.field-0.0 c.in_err-load_image_bytes.ensures.out_of_memory)

pub returns-clause-rejected : goal.returns-clause-rejected
unfolding IsImage
returns-clause-rejected c =
    alone_rejected c.args.digest c.alone.result c.in_ok-load_image_bytes.field-0 c.args.image c.in_ok-load_image_bytes.ensures.dict c.in_ok-load_image_bytes.ensures.accepted c.alone.ensures.rejected

pub returns-clause-out_of_memory : goal.returns-clause-out_of_memory
unfolding IsImage
returns-clause-out_of_memory c =
    alone_takes_no_memory c.args.digest c.alone.result c.in_ok-load_image_bytes.field-0 c.args.image (PassesTestsBeforeKeys c.args.digest c.args.image) c.in_ok-load_image_bytes.ensures.dict c.in_ok-load_image_bytes.ensures.accepted
    c.alone.ensures.rejected

pub returns-clause-loaded : goal.returns-clause-loaded
returns-clause-loaded c =
    subst (λ (bytes : List ℕ). IfOk c.alone.result (λ d. d ≡ record { system = bytes; users = [] })) c.in_ok-load_image_bytes.ensures.dict c.alone.ensures.alone

pub returns-clause-accepted : goal.returns-clause-accepted
unfolding IsImage
returns-clause-accepted c = on_ok c.alone.result (IsImage c.args.digest c.args.image) c.in_ok-load_image_bytes.ensures.accepted
