use Rattle.std.proofs.Common.{◌≡◌, ◌<◌, List, Some, ap, arith, length, slice_get, subst, sym, ◌∙◌}
use Rattle.mj_model.specs.declared.word.Word.{Word}
use Rattle.word_lookup.proofs.RowLemmas.{word_is, words_length}
use Rattle.word_lookup.proofs.surface_words.SurfaceWords.word.Goals as goal

pub overflow_add-token : goal.overflow_add-token
overflow_add-token c =
    let s = c.self.inside.surface in
    let within = subst (λ (ws : List Word). c.args.i < length ws) (sym c.self.view_is) c.requires in
    let many = words_length s s.first c.self.inside.entries in
    let few = c.self.invariant in
    omega (arith, within, many, few)

pub get-requires : goal.get-requires
get-requires c =
    let s = c.self.inside.surface in
    let within = subst (λ (ws : List Word). c.args.i < length ws) (sym c.self.view_is) c.requires in
    let many = words_length s s.first c.self.inside.entries in
    omega (arith, within, many)

pub returns : goal.returns
returns c =
    let s = c.self.inside.surface in
    subst (λ (ws : List Word). slice_get ws c.args.i ≡ Some c.word_with.result) c.self.view_is
    (word_is s s.first c.self.inside.entries c.args.i c.get.result c.get.ensures ∙ ap Some (sym c.word_with.ensures))
