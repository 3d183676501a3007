use Rattle.std.proofs.Common.{nat_le, length, drop}
use Rattle.std.specs.Str.{is_utf8}
use Rattle.std.proofs.lemmas.Bool.{and_from, le-leb}
use Rattle.std.proofs.lemmas.Str.{IsUtf8-drop, is_utf8-from_IsUtf8}
use Rattle.word_lookup.proofs.dictionaries.Dictionaries.collect_at.Goals as goal

pub surfaces_at-requires-clause-place : goal.surfaces_at-requires-clause-place
surfaces_at-requires-clause-place c =
    let text = c.args.text.now in
    let place = c.args.place in
    and_from (nat_le place (length text)) (is_utf8 (drop place text)) (le-leb place (length text) c.requires.place.0) (is_utf8-from_IsUtf8 (drop place text) (IsUtf8-drop text place c.utf8.text c.requires.place))
