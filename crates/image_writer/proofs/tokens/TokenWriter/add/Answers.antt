use Rattle.std.proofs.Common.{◌≡◌, ℕ, List, [], ◌∷◌, ◌++◌, ap, sym, ◌∙◌, refl, rules, subst}
use Rattle.std.specs.Prelude.{ℤ, IsUtf8, length, slice_index_or}
use Rattle.std.proofs.lemmas.Int.{to_z-of_z}
use mir.Syntax.{w16}
use mir.Val.{SFits}
use Rattle.mj_model.specs.Lexicon.{row_of}
use Rattle.image_writer.specs.Sections.{IsNextUse, features_of}
use Rattle.image_writer.specs.TokenBytes.{FitsBytes, stored_bytes, stored_with}
use Rattle.image_writer.proofs.WriterLemmas.{prefix_too_large, next_use, token_written, record_too_large}
use Rattle.image_writer.proofs.Results.{passed_on}
use Rattle.image_writer.proofs.tokens.TokenWriter.add.Goals as goal

pub returns-in_err-place-clause-large : goal.returns-in_err-place-clause-large
returns-in_err-place-clause-large c = λ all rows rest is written.
    let old = c.args.self.now in
    let row = row_of c.args.row.now in
    let number : c.len-number.result ≡ length old.features.places.items = search rules in
    let reported : c.first_of-first.result ≡ slice_index_or old.firsts.items c.len-number.result c.len-number.result = search rules in
    let next = subst (IsNextUse (features_of rows) row.feature) (sym reported) (next_use all rows rest row old.firsts.items c.len-number.result is written.firsts (number ∙ written.features.long)) in
    passed_on c.from_residual.result _ c.from_residual.ensures.1
    (λ same. prefix_too_large all (rows ++ row ∷ []) rest is (record_too_large rows row (c.in_err-place.ensures.large (features_of rows) written.features next same)))

pub returns-clause-written : goal.returns-clause-written
returns-clause-written c = λ all rows rest is written.
    let old = c.args.self.now in
    let row = row_of c.args.row.now in
    let entry = c.args.row.now.entry in
    let place = c.in_ok-place.place in
    let number : c.len-number.result ≡ length old.features.places.items = search rules in
    let reported : c.first_of-first.result ≡ slice_index_or old.firsts.items c.len-number.result c.len-number.result = search rules in
    let next = subst (IsNextUse (features_of rows) row.feature) (sym reported) (next_use all rows rest row old.firsts.items c.len-number.result is written.firsts (number ∙ written.features.long)) in
    let more = c.in_ok-place.ensures.place (features_of rows) written.features next in
    let price : SFits w16 entry.cost = search rules in
    let cost = to_z-of_z w16 entry.cost price in
    let text : IsUtf8 entry.feature.now = search rules in
    let stored = λ (z : ℤ) (l : ℕ). stored_with entry.left entry.right z place.start l in
    token_written all rows row old _ place written more
    (subst (λ (l : ℕ). FitsBytes (stored entry.cost l)) more.is_stored.long (subst (λ (z : ℤ). FitsBytes (stored z place.length)) cost c.token_bytes-token.ensures.fits))
    text
    (c.in_ok-extend_from_slice.ensures.items ∙ ap (λ (bytes : List ℕ). old.tokens.items ++ bytes)
    (c.token_bytes-token.ensures.bytes ∙ ap (λ (z : ℤ). stored_bytes (stored z place.length)) cost ∙ ap (λ (l : ℕ). stored_bytes (stored entry.cost l)) more.is_stored.long))
    refl
