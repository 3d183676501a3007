use Rattle.std.proofs.lemmas.Str.{IsUtf8-drop}
use Rattle.mj_model.proofs.PlaceWords.{place_there}
use Rattle.search_tests.proofs.tests.of_word_lookup.expected_words.is_at.Goals as goal

pub returns : goal.returns
returns c = λ there.
    let b = c.is_char_boundary.ensures.test.0 there in
    place_there c.args.text.now c.args.place b.0 (IsUtf8-drop c.args.text.now c.args.place c.utf8.text b)
