use Rattle.std.proofs.Common.{◌∙◌, sym}
use Rattle.mj_model.specs.Lexicon.{not_text}
use Rattle.lex_source.proofs.OutcomeLemmas.{few_outcome}
use Rattle.lex_source.proofs.parts.split_line.Goals as goal

pub returns-in_default : goal.returns-in_default
returns-in_default c = λ outcome_from number. not_text (sym c.is_blank_line.ensures ∙ c.if-is_blank_line.false) c.in_default.ensures.cases.0

pub returns-in_default-line_parts : goal.returns-in_default-line_parts
returns-in_default-line_parts c = λ outcome_from number.
    few_outcome outcome_from number c.args.line.now c.in-Ok.text.now (sym c.is_blank_line.ensures ∙ c.if-is_blank_line.false) c.in-Ok.ensures.cases.0 c.in-Ok.ensures.cases.1 c.in_default-line_parts.ensures
