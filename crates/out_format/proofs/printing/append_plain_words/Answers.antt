use Rattle.std.proofs.Common.{◌∙◌, rules}
use Rattle.word_lookup.proofs.AppendLemmas.{prefix_kept}
use Rattle.word_lookup.specs.Overlays.{overlay_of}
use Rattle.out_format.proofs.PlainLemmas.{all_plain, next_surface, no_plain_yet, plain_more}
use Rattle.out_format.proofs.printing.append_plain_words.Goals as goal

pub loop-word-init : goal.loop-word-init
loop-word-init g c = no_plain_yet (overlay_of c.args.dictionaries.now) c.args.format.now c.args.text.now (g.W.WordStream.left c.args.words) c.args.out.now.items c.requires.words

pub append_parts-requires : goal.append_parts-requires
append_parts-requires g c =
    next_surface (overlay_of c.args.dictionaries.now) c.args.format.now c.args.text.now (g.W.WordStream.left c.args.words) (g.W.WordStream.left c.loop-word.words) (g.W.WordStream.left c.next_word.new.self) c.in-Some.word
    c.args.out.now.items c.loop-word.out.items c.in-Some.ensures c.loop-word.invariant

pub returns-in_err-append_parts-clause-unchanged : goal.returns-in_err-append_parts-clause-unchanged
returns-in_err-append_parts-clause-unchanged g c = prefix_kept _ _ _ _ _ (search rules) (c.append_parts.ensures.unchanged ∙ c.loop-word.invariant.shown.appended)

pub loop-word-preserved : goal.loop-word-preserved
loop-word-preserved g c =
    plain_more (overlay_of c.args.dictionaries.now) c.args.format.now c.args.text.now (g.W.WordStream.left c.args.words) (g.W.WordStream.left c.loop-word.words) (g.W.WordStream.left c.next_word.new.self) c.in-Some.word
    _ c.args.out.now.items c.loop-word.out.items c.append_parts.new.out.items c.requires.plain c.in-Some.ensures c.word_parts.ensures c.loop-word.invariant c.in_ok-append_parts.ensures.appended

pub returns-clause-appended : goal.returns-clause-appended
returns-clause-appended g c =
    all_plain (overlay_of c.args.dictionaries.now) c.args.format.now c.args.text.now (g.W.WordStream.left c.args.words) (g.W.WordStream.left c.loop-word.words) c.args.out.now.items c.loop-word.out.items c.in_default.ensures.0 c.loop-word.invariant
