use Rattle.std.proofs.Common.{◌<◌, rules, refl, length}
use Rattle.line_segmenter.specs.PathEnds.{at_bos}
use Rattle.capi.specs.Words.{c_words}
use Rattle.capi.proofs.WalkLemmas.{can_follow, walked_on}
use Rattle.out_format.proofs.PrintedLemmas.{no_word}
use Rattle.word_lookup.specs.Overlays.{overlay_of}
use Rattle.capi.proofs.words.path_end_before.Goals as goal

pub loop-i-init : goal.loop-i-init
loop-i-init c = record { rest = refl; follow = c.requires.follow }

pub path_end_after-reached-requires : goal.path_end_after-reached-requires
path_end_after-reached-requires c =
    let l = c.args.last.now in
    let o = overlay_of l.dictionaries in
    let low : c.loop-i.i < length l.words.now = search rules in
    can_follow o l.text.now l.words.now (c_words o l.text.now at_bos l.words.now) c.loop-i.i c.loop-i.reached no_word low c.loop-i.invariant

pub loop-i-preserved : goal.loop-i-preserved
loop-i-preserved c =
    let l = c.args.last.now in
    let o = overlay_of l.dictionaries in
    let low : c.loop-i.i < length l.words.now = search rules in
    walked_on o l.text.now l.words.now (c_words o l.text.now at_bos l.words.now) c.loop-i.i c.loop-i.reached no_word low c.loop-i.invariant c.path_end_after-reached.result c.path_end_after-reached.ensures
