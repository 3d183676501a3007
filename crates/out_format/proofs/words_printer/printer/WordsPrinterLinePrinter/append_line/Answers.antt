use Rattle.std.proofs.Common.{◌≡◌, ◌++◌, ◌∙◌, List, rules, w64}
use Rattle.std.proofs.lemmas.Int.{to_z-of_z}
use mir.Val.{SFits}
use Rattle.std.specs.Prelude.{ℕ}
use Rattle.line_stream.specs.StreamState.{IsPrinted}
use Rattle.line_stream.proofs.ResultLemmas.{prefix_kept, on_ok_by}
use Rattle.out_format.specs.PrintedPaths.{PrintsPath}
use Rattle.word_lookup.specs.Overlays.{overlay_of}
use Rattle.out_format.specs.PrintedLines.{LineResult}
use Rattle.out_format.proofs.words_printer.printer.WordsPrinterLinePrinter.append_line.Goals as goal

pub returns-clause-printed : goal.returns-clause-printed
returns-clause-printed c =
    let o = overlay_of c.args.self.now.dictionaries in
    let f = c.args.self.now.format.now in
    let text = c.args.text.now in
    let path = c.in_ok-found.found.words in
    let old = c.args.out.now.items in
    let new = c.print_words.new.out.items in
    on_ok_by c.print_words.result ((shown : List ℕ) × PrintsPath o f text path shown × (new ≡ old ++ shown)) (IsPrinted (LineResult o f) text old new)
    (λ h. (h.0, ((c.requires, c.utf8.text), (path, c.in_ok-found.ensures.best, h.1)), h.2)) c.print_words.ensures.appended

pub returns-clause-unchanged : goal.returns-clause-unchanged
returns-clause-unchanged c =
    let o = overlay_of c.args.self.now.dictionaries in
    let f = c.args.self.now.format.now in
    prefix_kept c.print_words.result (PrintsPath o f c.args.text.now c.in_ok-found.found.words) _ c.args.out.now.items c.print_words.new.out.items (search rules) c.print_words.ensures.appended c.print_words.ensures.unchanged

pub print_words-requires-clause-total : goal.print_words-requires-clause-total
print_words-requires-clause-total c =
    let total = c.in_ok-found.found.total in
    let fits : SFits w64 total = search rules in
    to_z-of_z w64 total fits ∙ c.in_ok-found.ensures.total
