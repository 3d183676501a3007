use Rattle.std.proofs.Common.{refl}
use Rattle.word_lookup.specs.Overlays.{overlay_of}
use Rattle.word_lookup.proofs.DictionaryLaws.{is_system}
use Rattle.word_lookup.proofs.FirstLemmas.{bytes_taken, first_is, none_is}
use Rattle.word_lookup.proofs.PlaceLemmas.{first_taken, no_chars}
use Rattle.word_lookup.proofs.dictionaries.Dictionaries.first_with_hint.Goals as goal

pub info_with_hint-requires : goal.info_with_hint-requires
unfolding overlay_of
info_with_hint-requires c = is_system c.args.self.now

pub returns-in-Some : goal.returns-in-Some
unfolding overlay_of
returns-in-Some c =
    let text = c.args.text.now in
    let f = first_taken text _ _ c.in-Some.character _ c.utf8.text c.chars-left.ensures.rest c.in-Some.ensures.steps.0 refl in
    first_is _ _ _ _ _ _ f.split (bytes_taken text _ _ _ c.in-Some.character c.chars-left.ensures.rest c.in-Some.ensures.steps.0 c.as_str.ensures) c.info_with_hint.ensures.info

pub returns-in-None : goal.returns-in-None
returns-in-None c = none_is _ _ (no_chars c.args.text.now _ c.utf8.text c.chars-left.ensures.rest c.in-None.ensures.steps.0.0)
