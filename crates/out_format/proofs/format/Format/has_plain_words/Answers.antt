use Rattle.std.proofs.Common.{List, subst}
use Rattle.std.specs.Prelude.{All}
use Rattle.out_format.specs.Pieces.{pieces_of}
use Rattle.out_format.specs.Plain.{HasPlainWords, IsPlain}
use Rattle.out_format.specs.declared.part.Part.{Part}
use Rattle.out_format.proofs.format.Format.has_plain_words.Goals as goal

pub returns-then-are_plain : goal.returns-then-are_plain
returns-then-are_plain c = λ yes. subst HasPlainWords c.self.view_is (record {
  node = subst (λ (ps : List Part). All IsPlain (pieces_of ps)) c.deref.ensures.value (c.are_plain.ensures c.if-are_plain.true);
  unk = subst (λ (ps : List Part). All IsPlain (pieces_of ps)) c.deref-then-are_plain.ensures.value (c.are_plain-then-are_plain.ensures yes);
})
