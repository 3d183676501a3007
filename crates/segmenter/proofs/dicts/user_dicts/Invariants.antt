use Rattle.std.proofs.Common.{take}
use Rattle.std.specs.List.{AllZip}
use Rattle.image_format.specs.ImageMeaning.{image_tables}
use Rattle.segmenter.specs.SourceDicts.{IsUserDictOf, users_of}
use Rattle.segmenter.proofs.dicts.user_dicts.Given as goal

-- the user dictionaries so far are compiled
abbrev pub invariant-loop-i : goal.invariant-loop-i
invariant-loop-i l = AllZip (IsUserDictOf (image_tables l.system)) (users_of (take l.i l.users)) l.dicts.items
