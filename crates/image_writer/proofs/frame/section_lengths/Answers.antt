use Rattle.std.proofs.Common.{rules, ◌≡◌, length, sym, [], ◌∷◌}
use Rattle.image_writer.proofs.CostLemmas.{costs_length}
use Rattle.image_writer.proofs.frame.section_lengths.Goals as goal

pub returns : goal.returns
returns c =
    let made = c.args.lexicon.now in
    let keys : c.len.result ≡ length made.keys.items = search rules in
    let groups : c.len-2.result ≡ length made.groups.items = search rules in
    let tokens : c.len-3.result ≡ length made.tokens.items = search rules in
    let features = made.long in
    λ i. (sym (costs_length c.args.costs.now)) i ∷ length c.args.categories.now ∷ length c.args.ranges.now ∷ length c.args.index.now
    ∷ keys i ∷ groups i ∷ tokens i ∷ features i ∷ []
