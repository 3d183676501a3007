use Rattle.std.proofs.Common.{◌++◌, [], ◌∷◌, ℕ, reverse, sym, subst}
use Rattle.image_format.specs.ImageSections.{stored_cells}
use Rattle.dict_image.specs.Validation.KeyPrefixes.{IsKeyPrefixIfNear, IsKeyPrefixOf}
use Rattle.dict_image.proofs.KeyLemmas.{first_of_path, too_far_on}
use Rattle.dict_image.proofs.KeyPrefixLemmas.{led_more, prefixes_set}
use Rattle.dict_image.proofs.validation.keys.record_path.Goals as goal

pub returns-in_err-prefix-clause-key_prefix : goal.returns-in_err-prefix-clause-key_prefix
returns-in_err-prefix-clause-key_prefix c state back =
    let cells = stored_cells c.args.cells.now.bytes.now in
    let next = c.in-Some.next in
    let byte = c.byte_between.result in
    let known = c.loop-next.invariant.prefix in
    let leads = first_of_path cells c.loop-next.cell next state c.loop-next.path.items c.pop.new.self.items c.in-Some.ensures.items (c.loop-next.invariant.leads state back) in
    let led = led_more cells known.key c.loop-next.cell next byte known.led c.byte_between.ensures in
    subst (IsKeyPrefixIfNear cells state) (sym c.from_residual.ensures)
    (too_far_on c.requires.cells.0 cells next state (reverse c.pop.new.self.items) (known.key ++ byte ∷ []) c.requires.cells.1 led (c.in_err-prefix.ensures known.key known.known) leads.2)

pub loop-next-preserved : goal.loop-next-preserved
loop-next-preserved c =
    let cells = stored_cells c.args.cells.now.bytes.now in
    let next = c.in-Some.next in
    let byte = c.byte_between.result in
    let known = c.loop-next.invariant.prefix in
    let here = λ (state : ℕ). first_of_path cells c.loop-next.cell next state c.loop-next.path.items c.pop.new.self.items c.in-Some.ensures.items in
    let there = here c.requires.path.0 (c.loop-next.invariant.leads c.requires.path.0 c.requires.path.1) in
    let is : IsKeyPrefixOf cells next c.in_ok-prefix.prefix = record {
      key = known.key ++ byte ∷ [];
      led = led_more cells known.key c.loop-next.cell next byte known.led c.byte_between.ensures;
      known = c.in_ok-prefix.ensures known.key known.known;
    } in
    record {
      prefixes = prefixes_set cells c.loop-next.prefixes next c.in_ok-prefix.prefix c.loop-next.invariant.prefixes there.1.within is;
      prefix = is;
      leads = λ state back. (here state (c.loop-next.invariant.leads state back)).2;
    }
