use Rattle.std.proofs.Common.{◌≡◌, rules, ◌∙◌}
use Rattle.std.proofs.lemmas.Int.{to_z-of_z}
use mir.Val.{to_z, of_z, SFits}
use mir.Syntax.{w64}
use Rattle.word_lookup.specs.Overlays.{overlay_of}
use Rattle.out_format.proofs.PrintedLemmas.{path_shown}
use Rattle.out_format.proofs.printing.append_path.Goals as goal

pub returns-clause-appended : goal.returns-clause-appended
returns-clause-appended g c =
    let total = c.args.total in
    let fits : SFits w64 total = search rules in
    let same : to_z w64 (of_z w64 total) ≡ total = to_z-of_z w64 total fits in
    path_shown c.append_parts-2.result (overlay_of c.args.dictionaries.now) c.args.format.now c.args.text.now (g.W.WordStream.left c.args.words) (to_z w64 (of_z w64 total)) _ _ c.args.out.now.items _ _
    c.append_parts-2.new.out.items c.bos_parts.ensures c.eos_parts.ensures (same ∙ c.requires.total) c.in_ok-append_parts.ensures.appended c.in_ok-append_words.ensures.appended c.append_parts-2.ensures.appended
