use Rattle.std.proofs.Common.{arith, rules, ◌≡◌, ℕ, List, length, drop, refl, sym, ap, ◌∙◌, subst}
use Rattle.std.specs.Prelude.{chars, IfSome}
use Rattle.std.specs.Char.{len_utf8}
use Rattle.image_format.specs.ImageMeaning.{image_tables}
use Rattle.mj_model.specs.Categories.{shares}
use Rattle.word_lookup.specs.Spans.{HasBytes, grouped_with}
use Rattle.word_lookup.proofs.SpanLemmas.{no_spans_from, has_bytes, grouped_below, spans_found_from, category_is, longest_within}
use Rattle.word_lookup.proofs.unknown_start.UnknownStart.spans.Goals as goal

pub longest_length-requires : goal.longest_length-requires
longest_length-requires c = omega (arith, c.run_after-run.ensures.characters)

pub returns-clause-spans : goal.returns-clause-spans
returns-clause-spans c =
    let t = image_tables c.args.self.system.now in
    let first = c.args.self.first in
    let cs = chars (drop (len_utf8 first) c.args.self.at.rest.now) in
    let head : c.from.result ≡ (t.info first).head = search rules in
    let category = category_is t.categories (t.info first).head c.from.result c.category-category.result head c.category-category.ensures in
    spans_found_from t.info c.category-category.result _ c.args.none_known c.args.grouping c.lookahead-ahead.result first c.args.self.info cs
    c.run_after-run.result.characters _ c.category-category.result.length _ _ c.at_least_one.result
    c.args.self.info_is category refl (sym c.makes_words.ensures ∙ c.if-not-makes_words.false)
    c.lookahead-ahead.ensures c.run_after-run.ensures.characters refl
    c.grouped_run.ensures c.longest_length.ensures c.at_least_one.ensures.spans

pub returns-clause-bytes : goal.returns-clause-bytes
returns-clause-bytes c =
    let first = c.args.self.first in
    let cs = chars (drop (len_utf8 first) c.args.self.at.rest.now) in
    let category = c.category-category.result in
    let has = has_bytes _ first cs c.run_after-run.result.characters c.run_after-run.result.bytes _ _ c.at_least_one.ensures.grouped (c.grouped_run.ensures ∙ ap (λ (n : ℕ). grouped_with category c.args.grouping n c.run_after-run.result) c.args.self.bytes_are)
    (λ grouped. c.run_after-run.ensures.bytes (grouped_below category.group c.args.grouping category.length c.lookahead-ahead.result c.run_after-run.result.characters c.lookahead-ahead.ensures grouped)) in
    subst (λ (ds : List ℕ). IfSome c.at_least_one.result.grouped (HasBytes ds)) (sym c.args.self.is_first.split) has

pub grouped_run-requires : goal.grouped_run-requires
grouped_run-requires c = omega (arith, c.run_after-run.ensures.within, c.args.self.at.fits, c.args.self.bytes_are)

pub returns-then-not-makes_words-clause-spans : goal.returns-then-not-makes_words-clause-spans
returns-then-not-makes_words-clause-spans c =
    let t = image_tables c.args.self.system.now in
    let head : c.from.result ≡ (t.info c.args.self.first).head = search rules in
    let category = category_is t.categories (t.info c.args.self.first).head c.from.result c.category-category.result head c.category-category.ensures in
    no_spans_from c.category-category.result _ c.args.none_known c.args.grouping _ _ category (sym c.makes_words.ensures ∙ c.if-not-makes_words.true)

pub returns-clause-within : goal.returns-clause-within
returns-clause-within c =
    let t = image_tables c.args.self.system.now in
    let cs = chars (drop (len_utf8 c.args.self.first) c.args.self.at.rest.now) in
    let within = longest_within c.category-category.result.group (λ (d : ℕ). shares c.args.self.info (t.info d)) c.category-category.result.length c.category-category.result.length _ _ _ _ cs
    refl c.longest_length.ensures c.at_least_one.ensures.longest in
    let split = ap length c.args.self.is_first.split in
    omega (arith, within, split)
