use Rattle.std.proofs.Common.{◌∙◌, arith}
use Rattle.std.specs.Prelude.{vec_capacity}
use Rattle.word_lookup.specs.Overlays.{overlay_of}
use Rattle.out_format.proofs.PrintedLemmas.{no_word}
use Rattle.line_segmenter.proofs.BorrowedLemmas.{feature_more, no_room_for_all}
use Rattle.line_segmenter.proofs.features.append_features.Goals as goal

pub loop-word-preserved : goal.loop-word-preserved
loop-word-preserved c = record {
  items =
      feature_more (overlay_of c.args.dictionaries.now) c.args.words.now c.loop-word.word-index no_word c.args.out.now.items c.loop-word.out.items c.extend_from_slice.new.self.items c.as_bytes.result.now
      c.loop-word-test.true c.loop-word.invariant.items (c.as_bytes.ensures.value ∙ c.feature.ensures) c.in_default.ensures.items;
  room = omega (arith, c.loop-word.invariant.room, c.extend_from_slice.ensures.capacity);
}

pub returns-in-Err-clause-full : goal.returns-in-Err-clause-full
returns-in-Err-clause-full c =
    let old = c.args.out.now in
    let now = c.loop-word.out in
    let full = c.in-Err.ensures.full in
    let none = no_room_for_all (overlay_of c.args.dictionaries.now) c.args.words.now c.loop-word.word-index no_word old.items now.items c.as_bytes.result.now (vec_capacity now) (vec_capacity old)
    c.loop-word-test.true c.loop-word.invariant.items (c.as_bytes.ensures.value ∙ c.feature.ensures) c.loop-word.invariant.room (omega (arith, full, now.ok.0)) in
    omega (arith, none, old.ok.0)
