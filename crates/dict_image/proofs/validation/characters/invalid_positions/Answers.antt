use Rattle.std.proofs.Common.{arith}
use Rattle.dict_image.proofs.StretchLemmas.{wrong_more}
use Rattle.dict_image.proofs.validation.characters.invalid_positions.Goals as goal

pub loop-place-preserved : goal.loop-place-preserved
loop-place-preserved c =
    let found = c.in-Some.ensures in
    let less = found.1 in
    record {
      within = omega (arith, less);
      wrong = rw c.in_ok-push.ensures.items (wrong_more c.args.bytes.now c.loop-place.wrong.items c.loop-place.at c.in-Some.place c.loop-place.invariant.wrong found.0);
    }
