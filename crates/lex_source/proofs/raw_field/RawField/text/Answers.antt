use Rattle.std.proofs.lemmas.Str.{IsUtf8-string_bytes}
use Rattle.lex_source.proofs.raw_field.RawField.text.Goals as goal

pub returns-in_ok-to_string-clause-text : goal.returns-in_ok-to_string-clause-text
returns-in_ok-to_string-clause-text c = IsUtf8-string_bytes c.in_ok-to_string.field-0
