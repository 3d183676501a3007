use Rattle.std.proofs.Common.{◌<◌, ◌≤◌, ◌+◌, List, length, take, drop, sym, arith, subst}
use Rattle.std.specs.Prelude.{flat_map}
use Rattle.std.proofs.lemmas.List.{append-nil}
use Rattle.mj_model.specs.Lexicon.{Row}
use Rattle.image_writer.specs.Entries.{all_rows}
use Rattle.image_writer.specs.Sections.{AreWritten}
use Rattle.image_writer.proofs.LexiconLemmas.{category_more, categories_all, categories_around}
use Rattle.image_writer.proofs.Results.{passed_on}
use Rattle.image_writer.proofs.lexicon.add_unknown.Goals as goal

pub loop-category-init : goal.loop-category-init
loop-category-init c = λ rows written. subst (λ (rs : List Row). AreWritten (all_rows rows c.args.unknown.now) rs c.args.writer.now) (sym (append-nil rows)) written

pub loop-category-preserved : goal.loop-category-preserved
loop-category-preserved c = λ rows written.
    let i = c.loop-category.category in
    let unknown = c.args.unknown.now in
    let less : i < length unknown = omega arith in
    subst (λ (rs : List Row). AreWritten (all_rows rows unknown) rs c.add_all.new.self) (category_more rows unknown i _ less c.lines.ensures)
    (c.in_ok-add_all.ensures.written (all_rows rows unknown) (all_rows rows (take i unknown)) (flat_map (λ rs. rs) (drop (i + 1) unknown)) (categories_around rows unknown i _ less c.lines.ensures)
    (c.loop-category.invariant rows written))

pub returns-in_err-add_all-clause-large : goal.returns-in_err-add_all-clause-large
returns-in_err-add_all-clause-large c = λ rows written.
    let i = c.loop-category.category in
    let unknown = c.args.unknown.now in
    let less : i < length unknown = omega arith in
    passed_on c.from_residual.result _ c.from_residual.ensures.1
    (c.in_err-add_all.ensures.large (all_rows rows unknown) (all_rows rows (take i unknown)) (flat_map (λ rs. rs) (drop (i + 1) unknown)) (categories_around rows unknown i _ less c.lines.ensures)
    (c.loop-category.invariant rows written))

pub returns-clause-written : goal.returns-clause-written
returns-clause-written c = λ rows written.
    let past : length c.args.unknown.now ≤ c.loop-category.category = omega arith in
    subst (λ (rs : List Row). AreWritten (all_rows rows c.args.unknown.now) rs c.loop-category.writer) (categories_all rows c.args.unknown.now c.loop-category.category past) (c.loop-category.invariant rows written)
