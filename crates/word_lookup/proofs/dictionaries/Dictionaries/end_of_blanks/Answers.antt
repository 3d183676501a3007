use Rattle.std.proofs.Common.{arith}
use Rattle.word_lookup.specs.Overlays.{overlay_of}
use Rattle.word_lookup.proofs.DictionaryLaws.{is_system, space_of}
use Rattle.word_lookup.proofs.PlaceLemmas.{blanks_fit, blanks_are}
use Rattle.word_lookup.proofs.dictionaries.Dictionaries.end_of_blanks.Goals as goal

pub overflow_add-result : goal.overflow_add-result
unfolding overlay_of
overflow_add-result c =
    let b = blanks_fit c.args.text.now c.suffix-rest.result.now c.args.place c.run_up_to.result.characters c.run_up_to.result.bytes c.requires c.suffix-rest.ensures c.run_up_to.ensures.bytes in
    omega (arith, b)

pub returns : goal.returns
unfolding overlay_of
returns c =
    let d = c.args.self.now in
    blanks_are (overlay_of d) c.args.text.now c.suffix-rest.result.now c.args.place d.space c.run_up_to.result.characters c.run_up_to.result.bytes c.requires c.suffix-rest.ensures
    (space_of d) c.run_up_to.ensures.characters c.run_up_to.ensures.bytes

pub run_up_to-requires : goal.run_up_to-requires
unfolding overlay_of
run_up_to-requires c = is_system c.args.self.now
