use Rattle.std.proofs.Common.{◌≡◌, ◌⊎◌, ℕ, ◌-◌, List, [], ◌∷◌, ◌++◌, length, take, drop, sym, ap, ◌∙◌, subst}
use Rattle.std.proofs.lemmas.List.{take_rest}
use Rattle.mj_model.specs.Bytes.{line_feed}
use Rattle.dictc_lib.proofs.FileLineLemmas.{feed_is, lines_are, whole_is}
use Rattle.dictc_lib.proofs.file_line.first_line.Goals as goal

pub returns : goal.returns
returns c = λ number begins.
    let up = c.up_to_feed-line.ensures in
    let rest : List ℕ = c.args.rest.now in
    let bytes : List ℕ = c.args.bytes.now in
    let line : List ℕ = c.up_to_feed-line.result.now in
    let tail : drop (length line) rest ≡ take (length rest - length line) (drop (length line) rest) = sym (take_rest rest (length line)) in
    record {
      whole = whole_is number bytes rest line begins up ∙ ap (λ (xs : List ℕ). (take (length bytes - length rest) bytes ++ line) ++ xs) tail;
      lines_before = lines_are number bytes rest line begins up;
      no_feed = up.0;
      its_feed = subst (λ (xs : List ℕ). (xs ≡ []) ⊎ ((more : List ℕ) × (xs ≡ line_feed ∷ more))) tail (feed_is number bytes rest line begins up);
    }
