use Rattle.std.proofs.Common.{ℕ, ◌≡◌, ◌<◌, List, arith, sym, ap, ◌∙◌, subst, length, get_or, eqb, eqb-true, eq-eqb}
use Rattle.image_format.specs.ImageSections.{stored_cells}
use Rattle.dict_image.specs.Validation.Values.{IsScanned}
use Rattle.dict_image.proofs.ValueLemmas.{not_both, root_within, not_found, all_found}
use Rattle.dict_image.proofs.validation.values.scan.Goals as goal

pub returns-then-contains : goal.returns-then-contains
returns-then-contains c each =
    let cells = stored_cells c.args.cells.now.bytes.now in
    let some = root_within cells c.requires.root in
    let long = c.len-t-end.ensures in
    let end : c.loop-t.t ≡ length cells = omega (arith, some, long, c.loop-t.auto.t-end) in
    let zero = c.if-contains.ensures.cases in
    let same = ap length c.deref.ensures.value in
    let many = c.loop-t.invariant.many in
    let less = zero.1 in
    let below : zero.0 < c.args.groups = omega (arith, same, many, less) in
    let none : get_or c.loop-t.places.items zero.0 0 ≡ 0 = ap (λ (xs : List ℕ). get_or xs zero.0 0) (sym c.deref.ensures.value) ∙ eqb-true (get_or c.deref.result.now zero.0 0) 0 (zero.2 0) in
    not_found cells c.requires.root c.args.groups zero.0 c.loop-t.places.items (subst (λ (t : ℕ). IsScanned c.args.groups cells t c.loop-t.places.items) end c.loop-t.invariant) below none each

pub returns : goal.returns
returns c =
    let cells = stored_cells c.args.cells.now.bytes.now in
    let some = root_within cells c.requires.root in
    let long = c.len-t-end.ensures in
    let end : c.loop-t.t ≡ length cells = omega (arith, some, long, c.loop-t.auto.t-end) in
    let same = ap length c.deref.ensures.value in
    let many = c.loop-t.invariant.many in
    let zero = c.if-contains.ensures.cases in
    all_found cells c.requires.root c.args.groups c.loop-t.places.items (subst (λ (t : ℕ). IsScanned c.args.groups cells t c.loop-t.places.items) end c.loop-t.invariant)
    (λ g less none.
    let within : g < length c.deref.result.now = omega (arith, same, many, less) in
    let here : get_or c.deref.result.now g 0 ≡ 0 = ap (λ (xs : List ℕ). get_or xs g 0) c.deref.ensures.value ∙ none in
    let other = zero g 0 (omega arith) within in
    let e = eq-eqb (get_or c.deref.result.now g 0) 0 here in
    not_both (eqb (get_or c.deref.result.now g 0) 0) e other)
