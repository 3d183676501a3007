use Rattle.std.proofs.lemmas.Result.{err_from_is_err_and}
use Rattle.mj_model.specs.declared.format_fault.FormatPart.TheVariants.{Bos, Eos}
use Rattle.out_format.specs.Texts.{texts_of}
use Rattle.out_format.proofs.FaultLemmas.{first_fault, good_unk}
use Rattle.out_format.proofs.format.Format.parse.Goals as goal

pub returns-in_err-bos_parts-clause-rejected : goal.returns-in_err-bos_parts-clause-rejected
returns-in_err-bos_parts-clause-rejected c =
    let texts = texts_of c.args.node.now c.args.unk c.args.bos.now c.args.eos.now in
    let p = err_from_is_err_and c.from_residual-in_err-bos_parts.result c.from_residual-in_err-bos_parts.ensures.1 in
    let unk = good_unk c.args.node c.args.unk c.unwrap_or.result c.args.bos.now c.args.eos.now _ c.unwrap_or.ensures c.in_ok-unk_parts.ensures in
    rw (p.1, p.2) (first_fault texts Bos _ ((_, c.in_ok-node_parts.ensures), unk) c.in_err-bos_parts.ensures)

pub returns-in_err-eos_parts-clause-rejected : goal.returns-in_err-eos_parts-clause-rejected
returns-in_err-eos_parts-clause-rejected c =
    let texts = texts_of c.args.node.now c.args.unk c.args.bos.now c.args.eos.now in
    let p = err_from_is_err_and c.from_residual-in_err-eos_parts.result c.from_residual-in_err-eos_parts.ensures.1 in
    let unk = good_unk c.args.node c.args.unk c.unwrap_or.result c.args.bos.now c.args.eos.now _ c.unwrap_or.ensures c.in_ok-unk_parts.ensures in
    rw (p.1, p.2) (first_fault texts Eos _ ((_, c.in_ok-node_parts.ensures), unk, (_, c.in_ok-bos_parts.ensures)) c.in_err-eos_parts.ensures)
