use Rattle.std.proofs.Common.{rules}
use Rattle.dict_image.specs.Views.{token_view}
use Rattle.std.proofs.Common.{map}
use Rattle.dictc_lib.proofs.ListingLemmas.{listed_more}
use Rattle.dictc_lib.proofs.ids.listing.append_entries.Goals as goal

pub loop-i-preserved : goal.loop-i-preserved
loop-i-preserved c =
    listed_more c.args.dict.now c.loop-i.entries.items c.push.new.self.items (map token_view c.args.entries.now.items) c.loop-i.i c.token.result
    c.loop-i.invariant c.token.ensures (search rules)
