use Rattle.search_tests.proofs.tests.of_word_lookup.characters.end_of_blanks.Goals as goal

pub blanks-requires : goal.blanks-requires
blanks-requires c = c.is_at.ensures c.if-is_at.true
