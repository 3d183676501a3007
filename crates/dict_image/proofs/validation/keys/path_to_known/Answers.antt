use Rattle.std.proofs.Common.{◌≡◌, ◌+◌, ◌++◌, [], ◌∷◌, List, ℕ, length, reverse, sym, ap, ◌∙◌, subst, arith}
use Rattle.std.proofs.lemmas.List.{length-append}
use Rattle.image_format.specs.ImageSections.{stored_cells}
use Rattle.dict_image.specs.Validation.KeyPrefixes.{key_prefix_at}
use Rattle.dict_image.specs.Validation.PathsToKnown.{LeadOn}
use Rattle.dict_image.proofs.KeyLemmas.{is_state, one_passed, path_too_long}
use Rattle.dict_image.proofs.validation.keys.path_to_known.Goals as goal

pub returns-then-len-eq-SURFACE_MAX : goal.returns-then-len-eq-SURFACE_MAX
returns-then-len-eq-SURFACE_MAX c =
    let cells = stored_cells c.args.cells.now.bytes.now in
    let root = c.requires.prefixes.root in
    let long = c.len.ensures in
    let many = c.loop-cell.path.ok.0 in
    let full = c.if-len-eq-SURFACE_MAX.true in
    path_too_long c.requires.cells.0 cells c.loop-cell.cell c.args.state c.loop-cell.path.items c.requires.cells.1 (λ zero. c.in_default.not-Some root.0 (ap (key_prefix_at c.args.prefixes.now) zero ∙ root.1)) c.loop-cell.invariant.leads (omega (arith, long, many, full))

pub loop-cell-preserved : goal.loop-cell-preserved
loop-cell-preserved c =
    let cells = stored_cells c.args.cells.now.bytes.now in
    let path = c.loop-cell.path.items in
    let s = c.state_before-cell.result in
    let more : c.push.new.self.items ≡ path ++ c.loop-cell.cell ∷ [] = c.in_ok-push.ensures.items in
    let few = c.loop-cell.invariant.few in
    let long = c.len.ensures in
    let many = c.loop-cell.path.ok.0 in
    let room = c.if-len-eq-SURFACE_MAX.false in
    let grown : length c.push.new.self.items ≡ length path + 1 = ap length more ∙ length-append path (c.loop-cell.cell ∷ []) in
    record {
      few = omega (arith, few, long, many, room, grown);
      state = is_state c.requires.cells.0 cells s c.loop-cell.cell c.requires.cells.1 c.state_before-cell.ensures;
      leads = subst (λ (xs : List ℕ). LeadOn cells s (reverse xs) c.args.state) (sym more) (one_passed cells s c.loop-cell.cell c.args.state path c.state_before-cell.ensures c.loop-cell.invariant.state c.loop-cell.invariant.leads);
    }
