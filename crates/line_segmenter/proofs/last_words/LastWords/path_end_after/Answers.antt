use Rattle.std.proofs.Common.{rules, ◌≡◌, ap, ◌∙◌, w64, to_z, of_z}
use Rattle.std.specs.Prelude.{ℤ}
use Rattle.std.proofs.lemmas.Int.{to_z-of_z}
use mir.Val.{SFits}
use Rattle.out_format.specs.PrintedPaths.{cost_with_word}
use Rattle.word_lookup.specs.Overlays.{overlay_of}
use Rattle.line_segmenter.proofs.last_words.LastWords.path_end_after.Goals as goal

pub returns : goal.returns
returns c =
    let o = overlay_of c.args.self.now.dictionaries in
    let reported = c.cost_with.result in
    let had = c.args.before.total in
    let fits : SFits w64 reported = search rules in
    let fitted : SFits w64 had = search rules in
    let same : to_z w64 (of_z w64 had) ≡ had = to_z-of_z w64 had fitted in
    λ i. record {
      right = c.args.word.now.right;
      total = (to_z-of_z w64 reported fits ∙ c.cost_with.ensures ∙ ap (λ (z : ℤ). cost_with_word o c.args.before.right z c.args.word.now) same) i;
    }
