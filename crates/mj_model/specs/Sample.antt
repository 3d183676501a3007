-- The sources of the sample dictionary, line by line.
use Rattle.std.specs.Prelude.{ℕ, List, [], ◌∷◌, ◌++◌, codes, encode_utf8_all, flat_map}
use Rattle.mj_model.specs.Bytes.{line_feed}

-- the bytes of a file with these lines of characters, each ended by LF
abbrev pub file_of : List (List ℕ) → List ℕ
file_of lines = flat_map (λ line. encode_utf8_all line ++ line_feed ∷ []) lines

abbrev pub matrix_text : List ℕ
matrix_text = file_of (codes "2 2" ∷ codes "0 0 0" ∷ codes "0 1 10" ∷ codes "1 0 5" ∷ codes "1 1 7" ∷ [])

abbrev pub chars_text : List ℕ
chars_text = file_of (
    codes "DEFAULT 0 1 0" ∷ codes "SPACE 0 1 0" ∷ codes "ALPHA 1 1 0" ∷ codes "KATAKANA 1 1 2" ∷ codes "KANJI 0 0 2" ∷ codes "HIRAGANA 0 1 2"
    ∷ codes "0x0020 SPACE" ∷ codes "0x0041..0x005A ALPHA" ∷ codes "0x0061..0x007A ALPHA" ∷ codes "0x3041..0x309F HIRAGANA"
    ∷ codes "0x30A1..0x30FF KATAKANA" ∷ codes "0x4E00..0x9FFF KANJI" ∷ [])

abbrev pub unk_text : List ℕ
unk_text = file_of (
    codes "DEFAULT,1,1,1000,未知" ∷ codes "SPACE,1,1,1000,未知" ∷ codes "ALPHA,1,1,1000,未知" ∷ codes "KATAKANA,1,1,1000,未知"
    ∷ codes "KANJI,1,1,1000,未知" ∷ codes "HIRAGANA,1,1,1000,未知" ∷ [])

abbrev pub lexicon_text : List ℕ
lexicon_text = file_of (codes "すもも,1,1,100,名詞,すもも" ∷ codes "も,1,1,20,助詞,も" ∷ codes "もも,1,1,30,名詞,もも" ∷ [])
