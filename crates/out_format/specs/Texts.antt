-- The texts of MeCab's named formats.
use Rattle.std.specs.Prelude.{ℕ, List, [], Option, None, option_map, codes}
use Rattle.std.specs.Borrow.{Bor}
use Rattle.out_format.specs.Formats.{FormatTexts, Format, Piece}

-- the four texts as the caller passes them
abbrev pub texts_of : List ℕ → Option (Bor (List ℕ)) → List ℕ → List ℕ → FormatTexts
texts_of node unk bos eos = record { node = node; unk = option_map (λ (text : Bor (List ℕ)). text.now) unk; bos = bos; eos = eos }

-- the default format: a line with the surface, a tab and the feature of each word, and a line EOS
abbrev pub default_texts : FormatTexts
default_texts = record { node = codes "%m\\t%H\\n"; unk = None; bos = []; eos = codes "EOS\\n" }

-- the wakati format: the surface of each word and a blank, and a line feed
abbrev pub wakati_texts : FormatTexts
wakati_texts = record { node = codes "%m\\s"; unk = None; bos = []; eos = codes "\\n" }

-- a format for known and unknown words alike, with nothing before the first word
abbrev pub all_alike : List Piece → List Piece → Format
all_alike word end = record { node = word; unk = word; bos = []; eos = end }
