use Rattle.std.proofs.Common.{rules, ◌≡◌, ℕ, ◌-◌, List, length, take, ap, ◌∙◌, subst}
use Rattle.std.specs.Prelude.{min}
use Rattle.sha2.specs.Hashers.{Holds256}
use Rattle.programs.proofs.HashLemmas.{hashed_of_both}
use Rattle.programs.proofs.image_pieces.Hashed.with.Goals as goal

pub returns : goal.returns
returns c = λ end bytes count held.
    let piece : List ℕ = c.args.piece.now in
    let is : c.min-missing.result ≡ min (c.args.self.end - c.args.before) (length piece) = search rules in
    let missing = is ∙ ap (λ (n : ℕ). min (n - c.args.before) (length piece)) held.end_is in
    record {
      end_is = held.end_is;
      holds = subst (Holds256 c.update.new.self) (hashed_of_both end c.args.before c.min-missing.result bytes piece count missing) (c.update.ensures (take end bytes) held.holds);
    }
