-- The words of entries.
use Rattle.std.specs.Prelude.{ℕ, List, [], Option, Some, None}
use Rattle.dict_image.specs.declared.entry_ref.EntryRef.{EntryRef}
use Rattle.mj_model.specs.declared.word.Word.{Word}
use Rattle.mj_model.specs.KnownWords.{word_of}
use Rattle.mj_model.specs.Tables.{Token}
use Rattle.mj_model.specs.declared.paths.entry_list.EntryList.{EntryList}
use Rattle.mj_model.specs.Surfaces.{origin_in}

-- the word of an entry, with its surface from `start` to `end`
abbrev pub entry_word : EntryList → ℕ → ℕ → ℕ → Token → Word
entry_word list place start end t = word_of place start end (origin_in list t.number) t

-- the feature of an entry, or an empty one if there is no entry
abbrev pub feature_in_entry : Option EntryRef → List ℕ
feature_in_entry None = []
feature_in_entry (Some e) = e.feature.now
