use Rattle.std.proofs.Common.{◌≡◌, ◌++◌, map}
use Rattle.std.specs.List.{range_with_len}
use Rattle.image_format.specs.ImageMeaning.{image_token}
use Rattle.dict_image.specs.Views.{token_view}
use Rattle.dictc_lib.proofs.ids.listing.append_entries.Given as goal

abbrev pub invariant-loop-i : goal.invariant-loop-i
invariant-loop-i l =
    map token_view l.entries.items ≡ map token_view l.initial.entries.items ++ map (image_token l.dict) (range_with_len 0 l.i)
