use Rattle.std.proofs.Common.{refl}
use Rattle.std.proofs.lemmas.Result.{err_from_is_err_and}
use Rattle.capi.specs.Settings.{four, place_at}
use Rattle.capi.proofs.SettingLemmas.{one, placed_at, three, two}
use Rattle.capi.proofs.settings.set_texts.Goals as goal

pub returns-in_err-unk-clause-place : goal.returns-in_err-unk-clause-place
returns-in_err-unk-clause-place c =
    let t = c.args.texts in
    let p = err_from_is_err_and c.from_residual-in_err-unk.result c.from_residual-in_err-unk.ensures.1 in
    rw (p.1, p.2) (placed_at (four t.node.now t.unk.now t.bos.now t.eos.now) t.unk.now 1 (place_at c.args.part.now c.args.at.now) c.text_of-2.new.part c.text_of-2.new.at c.in_err-unk.field-0.0
    c.in_err-unk.ensures.rejected refl (one c.in_ok-node.ensures.accepted) c.in_err-unk.ensures.part c.in_err-unk.ensures.place)

pub returns-in_err-bos-clause-place : goal.returns-in_err-bos-clause-place
returns-in_err-bos-clause-place c =
    let t = c.args.texts in
    let p = err_from_is_err_and c.from_residual-in_err-bos.result c.from_residual-in_err-bos.ensures.1 in
    rw (p.1, p.2) (placed_at (four t.node.now t.unk.now t.bos.now t.eos.now) t.bos.now 2 (place_at c.args.part.now c.args.at.now) c.text_of-3.new.part c.text_of-3.new.at c.in_err-bos.field-0.0
    c.in_err-bos.ensures.rejected refl (two c.in_ok-node.ensures.accepted c.in_ok-unk.ensures.accepted) c.in_err-bos.ensures.part c.in_err-bos.ensures.place)

pub returns-in_err-eos-clause-place : goal.returns-in_err-eos-clause-place
returns-in_err-eos-clause-place c =
    let t = c.args.texts in
    let p = err_from_is_err_and c.from_residual-in_err-eos.result c.from_residual-in_err-eos.ensures.1 in
    rw (p.1, p.2) (placed_at (four t.node.now t.unk.now t.bos.now t.eos.now) t.eos.now 3 (place_at c.args.part.now c.args.at.now) c.text_of-4.new.part c.text_of-4.new.at c.in_err-eos.field-0.0
    c.in_err-eos.ensures.rejected refl (three c.in_ok-node.ensures.accepted c.in_ok-unk.ensures.accepted c.in_ok-bos.ensures.accepted) c.in_err-eos.ensures.part c.in_err-eos.ensures.place)
