use Rattle.std.proofs.Common.{◌∙◌, sym, ap, List, ℕ}
use Rattle.std.specs.Prelude.{bytes_eq}
use Rattle.mj_model.specs.CharDef.{is_named}
use Rattle.char_def.specs.declared.definitions.Definition.{Definition}
use Rattle.char_def.specs.Definitions.{definition_is}
use Rattle.char_def.proofs.NameLemmas.{has_number, has_no_number}
use Rattle.char_def.proofs.definitions.number_of.Goals as goal

pub returns-then-eq : goal.returns-then-eq
returns-then-eq c =
    has_number c.args.definitions.now c.args.name.now c.loop-number.number c.index-definitions-number.result c.loop-number-test.true c.loop-number.invariant
    (ap (λ (d : Definition). is_named c.args.name.now (definition_is d)) (sym c.index-definitions-number.is) ∙ ap (λ (bytes : List ℕ). bytes_eq bytes c.args.name.now) (sym c.as_bytes.ensures.value)
    ∙ sym c.eq.ensures ∙ c.if-eq.true)

pub returns : goal.returns
returns c = has_no_number c.args.definitions.now c.args.name.now c.loop-number.number c.loop-number.invariant c.loop-number-test.false
