use Rattle.std.proofs.Common.{◌≡◌, List, ℕ, ◌++◌, length, take}
use Rattle.std.specs.Prelude.{IsUtf8}
use Rattle.mj_model.specs.Fields.{with_doubled_quotes}
use Rattle.lex_source.proofs.quoted.append_undoubled.Given as goal

abbrev pub invariant-loop-before : goal.invariant-loop-before
invariant-loop-before g l = record {
  utf8 : IsUtf8 l.rest;
  left : (field : List ℕ) → l.raw ≡ with_doubled_quotes field → (left : List ℕ) × (l.rest ≡ with_doubled_quotes left) × (g.S.TextSink.bytes l.initial.out ++ field ≡ g.S.TextSink.bytes l.out ++ left);
  front : take (length (g.S.TextSink.bytes l.initial.out)) (g.S.TextSink.bytes l.out) ≡ g.S.TextSink.bytes l.initial.out;
}

abbrev pub decreases-loop-before : goal.decreases-loop-before
decreases-loop-before g l = length l.rest
