use Rattle.std.proofs.Common.{sym, subst, ◌∙◌}
use Rattle.lex_source.specs.Lexicons.{AreLexiconRows}
use Rattle.lex_source.proofs.EntryLemmas.{after_reading, entries_back, on_error}
use Rattle.lex_source.proofs.source_lexicon.SourceLexicon.add.Goals as goal

pub invariant_of-self-else-is_err : goal.invariant_of-self-else-is_err
invariant_of-self-else-is_err c =
    after_reading c.args.file c.args.bytes.now _ _ _ c.self.invariant (sym c.is_err.ensures.value ∙ c.if-is_err.false) c.append_within-read.ensures.accepted

pub invariant_of-self : goal.invariant_of-self
invariant_of-self c =
    subst AreLexiconRows
    (sym (entries_back c.self.inside.sizes c.self.inside.records.items c.append_within-read.new.records.items c.truncate.new.self.items c.len-held.result
    c.truncate.ensures.items (c.len-held.ensures ∙ c.self.inside.records.ok.0) c.append_within-read.ensures.begins)) c.self.invariant

pub returns-then-is_err-clause-unchanged : goal.returns-then-is_err-clause-unchanged
returns-then-is_err-clause-unchanged c =
    on_error c.append_within-read.result (entries_back c.self.inside.sizes c.self.inside.records.items c.append_within-read.new.records.items c.truncate.new.self.items c.len-held.result
    c.truncate.ensures.items (c.len-held.ensures ∙ c.self.inside.records.ok.0) c.append_within-read.ensures.begins ∙ c.self.view_is)
