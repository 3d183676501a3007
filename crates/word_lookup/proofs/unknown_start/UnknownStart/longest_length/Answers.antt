use Rattle.std.proofs.Common.{List, ℕ, ◌-◌, drop, ap, ◌∙◌}
use Rattle.std.specs.Prelude.{chars, take}
use Rattle.std.specs.Char.{len_utf8}
use Rattle.image_format.specs.ImageMeaning.{image_tables}
use Rattle.mj_model.specs.Categories.{shares}
use Rattle.mj_model.specs.Run.{sharing_with}
use Rattle.word_lookup.proofs.SpanLemmas.{alike_up_to_longest, few_alike_for_sure}
use Rattle.word_lookup.proofs.unknown_start.UnknownStart.longest_length.Goals as goal

pub returns-then-most-certainly_sharing : goal.returns-then-most-certainly_sharing
returns-then-most-certainly_sharing c =
    let self = c.args.self in
    few_alike_for_sure (image_tables self.system.now).info self.info (chars (drop (len_utf8 self.first) self.at.rest.now)) c.args.category.group c.args.category.length c.args.following c.longest_in_run-most.result _
    c.requires c.longest_in_run-most.ensures c.certainly_sharing.ensures c.if-most-certainly_sharing.true

pub returns : goal.returns
returns c =
    let self = c.args.self in
    let t = image_tables self.system.now in
    let rest = self.at.rest.now in
    let most = c.longest_in_run-most.result in
    let suffix = c.suffix-after_first.ensures ∙ ap (λ (n : ℕ). drop n rest) self.bytes_are in
    let seen = c.sharing_up_to.ensures ∙ ap (λ (bytes : List ℕ). sharing_with self.info t.info (take (most - 1) (chars bytes))) suffix in
    c.min.ensures
    ∙ alike_up_to_longest (λ d. shares self.info (t.info d)) (chars (drop (len_utf8 self.first) rest)) c.args.category.group c.args.category.length c.args.following most _ c.longest_in_run-most.ensures seen
