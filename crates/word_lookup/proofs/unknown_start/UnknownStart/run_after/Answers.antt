use Rattle.std.proofs.Common.{arith, drop, length, ap}
use Rattle.std.specs.Prelude.{chars}
use Rattle.std.specs.Char.{len_utf8}
use Rattle.std.proofs.lemmas.List.{length-drop}
use Rattle.image_format.specs.ImageMeaning.{image_tables}
use Rattle.mj_model.proofs.CharBytes.{chars_within}
use Rattle.word_lookup.proofs.CategoryScanLemmas.{started_run, bytes_counted, bytes_reported}
use Rattle.word_lookup.proofs.PlaceLemmas.{text_there}
use Rattle.word_lookup.proofs.unknown_start.UnknownStart.run_after.Goals as goal

pub invariant_of-text : goal.invariant_of-text
invariant_of-text c =
    let long = length-drop c.args.self.at.start c.args.self.at.text.now in
    let same = ap length c.args.self.at.rest_is in
    omega (arith, long, same, c.args.self.at.fits)

pub run_of_place-run-requires-clause-started : goal.run_of_place-run-requires-clause-started
run_of_place-run-requires-clause-started c =
    let self = c.args.self in
    started_run (image_tables self.system.now).info self.at.text.now self.at.rest.now self.at.start self.first self.bytes self.info self.at.there self.at.rest_is self.is_first self.bytes_are self.info_is

pub returns-clause-bytes : goal.returns-clause-bytes
returns-clause-bytes c =
    let first = c.args.self.first in
    let covered = c.run_of_place-run.ensures.run in
    let reported = bytes_reported (image_tables c.args.self.system.now).info c.args.self.at.text.now c.args.self.at.rest.now covered.run c.args.self.at.start first (len_utf8 first) covered.is covered.scanned.begins c.args.self.at.rest_is c.args.self.is_first in
    bytes_counted (chars (drop (len_utf8 first) c.args.self.at.rest.now)) covered.run.following c.args.limit _ _ (omega (arith, covered.scanned.characters)) (omega (arith, reported, covered.scanned.bytes, c.args.self.bytes_are))

pub returns-clause-within : goal.returns-clause-within
returns-clause-within c =
    let first = c.args.self.first in
    let n = len_utf8 first in
    let rest = c.args.self.at.rest.now in
    let covered = c.run_of_place-run.ensures.run in
    let reported = bytes_reported (image_tables c.args.self.system.now).info c.args.self.at.text.now rest covered.run c.args.self.at.start first n covered.is covered.scanned.begins c.args.self.at.rest_is c.args.self.is_first in
    let all = chars_within (drop n rest) covered.run.following (text_there rest n c.args.self.is_first.place) in
    let long = c.args.self.is_first.long in
    omega (arith, reported, all, long, covered.scanned.bytes, c.args.self.bytes_are)
