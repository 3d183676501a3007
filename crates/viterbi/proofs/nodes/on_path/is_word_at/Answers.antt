use Rattle.std.proofs.Common.{◌∙◌, Some, length, refl, sym, ap, arith}
use Rattle.std.proofs.lemmas.Option.{same_Some, slice_get_read, slice_get_within}
use Rattle.viterbi.proofs.nodes.on_path.is_word_at.Goals as goal

pub returns-in-Some : goal.returns-in-Some
returns-in-Some c =
    let path = c.args.path.now in
    let found = c.in-Some.found.now in
    let at = slice_get_read path (length path) c.args.number found refl c.in-Some.ensures.lookup.3.0 c.in-Some.ensures.lookup.1 in
    (λ yes_it_is. at ∙ ap Some (c.is_same.ensures.0 yes_it_is), λ there. c.is_same.ensures.1 (same_Some found c.args.word.now (sym at ∙ there)))

pub returns-in-None : goal.returns-in-None
returns-in-None c = (
  λ e. absurd (cc),
  λ at.
      let low = slice_get_within c.args.path.now c.args.number c.args.word.now at in
      let past = c.in-None.ensures.lookup.3 in
      absurd (omega (arith, low, past)),
)
