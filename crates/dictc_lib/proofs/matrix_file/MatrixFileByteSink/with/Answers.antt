use Rattle.std.proofs.Common.{rules, ◌≡◌, ℕ, ◌+◌, ◌-◌, ◌^◌, List, ◌++◌, length, arith, ap, ◌∙◌}
use Rattle.std.proofs.lemmas.List.{length-append}
use Rattle.std.specs.Prelude.{min, take}
use Rattle.programs.proofs.FirstBytes.{first_of_both}
use Rattle.dictc_lib.proofs.matrix_file.MatrixFileByteSink.with.Goals as goal

pub returns : goal.returns
returns c = λ bytes taken.
    let piece : List ℕ = c.args.piece.now in
    let bytes_now : c.saturating_add.result ≡ min (c.args.self.bytes + length piece) (2 ^ 64 - 1) = search rules in
    let counted = taken.counted in
    let missing : c.min-missing.result ≡ min (3 - length c.args.self.first.items) (length piece) = search rules in
    let items : c.extend_from_slice.new.self.items ≡ c.args.self.first.items ++ take c.min-missing.result piece = search rules in
    record {
      read = c.in_ok-read.ensures.read bytes taken.read;
      counted = omega (arith, bytes_now, counted, length-append {A = ℕ});
      first =
          items ∙ ap (λ (before : List ℕ). before ++ take c.min-missing.result piece) taken.first
          ∙ first_of_both 3 c.min-missing.result bytes piece (missing ∙ ap (λ (before : List ℕ). min (3 - length before) (length piece)) taken.first);
    }
