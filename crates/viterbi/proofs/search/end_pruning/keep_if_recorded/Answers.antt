use Rattle.std.proofs.Common.{◌≡◌, get_or, true, false}
use Rattle.std.proofs.lemmas.Option.{slice_get-get_or, slice_get_within}
use Rattle.viterbi.proofs.RecordedRanks.{kept_more, kept_past}
use Rattle.viterbi.proofs.PruningLemmas.{no_end}
use Rattle.viterbi.proofs.search.end_pruning.keep_if_recorded.Goals as goal

pub is_recorded-requires : goal.is_recorded-requires
is_recorded-requires c =
    let ends = c.args.ends.now in
    let x = get_or ends c.args.rank no_end in
    let at = slice_get-get_or ends c.args.rank no_end c.requires.rank in
    let served = c.requires.recorded c.args.rank x c.requires.rank at in
    slice_get_within c.args.ranks.now x.right served.rank served.recorded

pub returns-in_ok-push : goal.returns-in_ok-push
returns-in_ok-push c =
    let ends = c.args.ends.now in
    let x = get_or ends c.args.rank no_end in
    let at = slice_get-get_or ends c.args.rank no_end c.requires.rank in
    kept_more ends c.args.ranks.now c.args.rank c.args.left.now.items c.push.new.self.items x at (c.is_recorded.ensures.0 c.if-is_recorded.true) c.in_ok-push.ensures.items c.requires.before

pub returns-else-is_recorded : goal.returns-else-is_recorded
returns-else-is_recorded c =
    let ends = c.args.ends.now in
    let x = get_or ends c.args.rank no_end in
    let at = slice_get-get_or ends c.args.rank no_end c.requires.rank in
    kept_past ends c.args.ranks.now c.args.rank c.args.left.now.items x at
    (λ slot. let t : c.is_recorded.result ≡ true = c.is_recorded.ensures.1 slot in let f : c.is_recorded.result ≡ false = c.if-is_recorded.false in absurd (cc)) c.requires.before
