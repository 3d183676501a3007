-- First fields of a text, plain or quoted.
use Rattle.std.proofs.Common.{◌≡◌, ℕ, Bool, false, cond, List, refl, sym, ap, Some, None, inl}
use Rattle.std.specs.List.{list_any, after_first}
use Rattle.mj_model.specs.Bytes.{is_comma}
use Rattle.mj_model.specs.Fields.{StartsWithQuote, IsFieldOf, rest_of}
use Rattle.lex_source.specs.Spelled.{StartsWithField}
use Rattle.lex_source.proofs.SplitLemmas.{uncut}

pub no_rest : (text : List ℕ) → list_any is_comma text ≡ false → None ≡ rest_of text
no_rest text h = sym (ap (λ (b : Bool). cond b (Some (after_first is_comma text)) None) h)

pub plain_last : (text : List ℕ) → (StartsWithQuote text → ⊥) → list_any is_comma text ≡ false → StartsWithField (IsFieldOf text) text false None
plain_last text out h = record { field = text; spelled = refl; first = inl (out, uncut is_comma text h, no_rest text h) }
