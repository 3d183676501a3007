use Rattle.std.proofs.Common.{subst, sym}
use Rattle.std.specs.Prelude.{All}
use Rattle.out_format.specs.Pieces.{pieces_in}
use Rattle.out_format.specs.Plain.{IsPlain}
use Rattle.out_format.specs.declared.part.Part.{Part}
use Rattle.out_format.proofs.PlainLemmas.{bytes_plain}
use Rattle.out_format.proofs.plain_word.is_plain.Goals as goal

pub returns-in-Bytes : goal.returns-in-Bytes
returns-in-Bytes c = λ _. subst (λ (p : Part). All IsPlain (pieces_in p)) (sym c.in-Bytes.is) (bytes_plain c.in-Bytes.field-0.items)
