-- The words of a line, up to its comment.
use Rattle.std.proofs.Common.{◌≡◌, ℕ, Bool, false, cond, List, [], ◌∷◌, ◌∙◌, ap}
use Rattle.std.specs.Prelude.{not}
use Rattle.std.proofs.lemmas.List.Sums.{take_while-cons}
use Rattle.mj_model.specs.CharDef.{starts_comment}
use Rattle.char_def.specs.LineWords.{before_comment}

pub a_word : (word : List ℕ) (words rest : List (List ℕ)) → starts_comment word ≡ false → words ≡ word ∷ rest → before_comment words ≡ word ∷ before_comment rest
a_word word words rest other is =
    ap before_comment is ∙ take_while-cons (λ w. not (starts_comment w)) word rest ∙ ap (λ (b : Bool). cond (not b) (word ∷ before_comment rest) []) other
