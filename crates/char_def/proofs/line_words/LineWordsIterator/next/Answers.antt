use Rattle.std.proofs.Common.{◌∙◌, sym}
use Rattle.char_def.proofs.WordLemmas.{a_word}
use Rattle.char_def.proofs.line_words.LineWordsIterator.next.Goals as goal

pub returns-clause-steps : goal.returns-clause-steps
returns-clause-steps c = sym c.self.view_is ∙ a_word c.in_ok-word.word.now _ _ (sym c.starts_with.ensures.value ∙ c.if-starts_with.false) c.in_ok-word.ensures.steps
