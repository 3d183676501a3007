use Rattle.std.proofs.Common.{refl}
use Rattle.jseg_lib.proofs.PrintedTexts.{by_images}
use Rattle.jseg_lib.proofs.images.segment_by_images.Given as given
use Rattle.jseg_lib.proofs.images.segment_by_images.Goals as goal

pub returns-clause-ok : goal.returns-clause-ok
returns-clause-ok g c =
    let over = rw (c.deref.ensures.value, c.new-text.ensures.reader, c.new-counted.ensures.inner) at c.segment_text-result.ensures.ok in
    let images = c.args.images.now in
    by_images (given.L-post g c.args.load) images.digest images.dic.now images.users.now c.args.settings.now.grouping c.args.settings.now.printed
    c.in_ok-system.system c.in_ok-overlays.overlays.items (g.R.Read.remaining c.args.text) _ _ c.segment_text-result.result
    (images.dic, refl, c.in_ok-system.ensures) c.in_ok-overlays.ensures.loaded over
