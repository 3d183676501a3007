use Rattle.std.proofs.Common.{◌≡◌, get_or, length, true, false, refl}
use Rattle.std.proofs.lemmas.Option.{slice_get-get_or, slice_get_read}
use Rattle.viterbi.proofs.RecordedRanks.{record_set, record_stays, recorded_kept}
use Rattle.viterbi.proofs.PruningLemmas.{no_end}
use Rattle.viterbi.proofs.search.end_pruning.record_rank.Goals as goal

pub returns-then-not-is_not_costlier : goal.returns-then-not-is_not_costlier
returns-then-not-is_not_costlier c =
    let ends = c.args.ends.now in
    let rank = c.args.rank in
    let ranks = c.ensure_slot.new.slots.items in
    let x = get_or ends rank no_end in
    let at = slice_get-get_or ends rank no_end c.requires.rank in
    let recorded = c.index-recorded.result.now in
    let slot = slice_get_read ranks (length ranks) x.right recorded refl c.in_ok-ensure_slot.ensures.there c.index-recorded.ensures in
    record_set ends rank ranks x recorded at slot (λ h. let is : c.is_not_costlier.result ≡ true = c.is_not_costlier.ensures.1 h in let not : c.is_not_costlier.result ≡ false = c.if-not-is_not_costlier.true in absurd (cc))
    (recorded_kept ends rank c.args.ranks.now.items ranks c.in_ok-ensure_slot.ensures.unchanged c.requires.before)

pub returns-else-not-is_not_costlier : goal.returns-else-not-is_not_costlier
returns-else-not-is_not_costlier c =
    let ends = c.args.ends.now in
    let rank = c.args.rank in
    let ranks = c.ensure_slot.new.slots.items in
    let x = get_or ends rank no_end in
    let at = slice_get-get_or ends rank no_end c.requires.rank in
    let recorded = c.index-recorded.result.now in
    let slot = slice_get_read ranks (length ranks) x.right recorded refl c.in_ok-ensure_slot.ensures.there c.index-recorded.ensures in
    record_stays ends rank ranks x recorded at slot (c.is_not_costlier.ensures.0 c.if-not-is_not_costlier.false) (recorded_kept ends rank c.args.ranks.now.items ranks c.in_ok-ensure_slot.ensures.unchanged c.requires.before)
