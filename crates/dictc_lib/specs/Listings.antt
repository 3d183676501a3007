-- The entries of a dictionary by number.
use Rattle.std.specs.Prelude.{ℕ, List, map}
use Rattle.std.specs.List.{range_with_len}
use Rattle.image_format.specs.ImageBytes.{header_of}
use Rattle.image_format.specs.ImageMeaning.{image_token}
use Rattle.mj_model.specs.Tables.{Token}

-- the entries of an image's lexicon, whose numbers come before those of unknown words
abbrev pub listed_tokens : List ℕ → List Token
listed_tokens image = map (image_token image) (range_with_len 0 (header_of image).tokens)
