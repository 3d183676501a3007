-- The lines of a file by number, counted from 1.
use Rattle.std.specs.Prelude.{◌≡◌, ◌⊎◌, ℕ, zero, suc, ◌-◌, ◌<◌, List, [], ◌∷◌, ◌++◌}
use Rattle.matrix_def.specs.Reading.{HasNoFeed}
use Rattle.mj_model.specs.Bytes.{line_feed}
use Rattle.dictc_lib.specs.declared.file_line.FileLine.{FileLine}

-- the bytes are `n` lines, each with its line feed
abbrev pub AreWholeLines : ℕ → List ℕ → Type 0
AreWholeLines zero bytes = bytes ≡ []
AreWholeLines (suc n) bytes =
    (before : List ℕ) × (line : List ℕ) × AreWholeLines n before × HasNoFeed line × (bytes ≡ before ++ line ++ line_feed ∷ [])

-- `rest` is the suffix of a file after its first `n` lines
abbrev pub StartsAtLine : ℕ → List ℕ → List ℕ → Type 0
StartsAtLine n bytes rest = (before : List ℕ) × (bytes ≡ before ++ rest) × AreWholeLines n before

-- the file has fewer lines than `number`
abbrev pub EndsBefore : ℕ → List ℕ → Type 0
EndsBefore number bytes = (n : ℕ) × (last : List ℕ) × (n < number - 1) × StartsAtLine n bytes last × HasNoFeed last

-- the bytes before the first line feed, or all bytes if there is none
abbrev pub IsUpToFeed : List ℕ → List ℕ → Type 0
IsUpToFeed rest line = HasNoFeed line × ((rest ≡ line) ⊎ ((more : List ℕ) × (rest ≡ line ++ line_feed ∷ more)))

-- the three parts of a file around line `number`
pub record IsLineOf (number : ℕ) (bytes : List ℕ) (cut : FileLine) : Type 0 where
  pub whole : bytes ≡ cut.before.now ++ cut.line.now ++ cut.following.now
  pub lines_before : AreWholeLines (number - 1) cut.before.now
  pub no_feed : HasNoFeed cut.line.now
  pub its_feed : (cut.following.now ≡ []) ⊎ ((more : List ℕ) × (cut.following.now ≡ line_feed ∷ more))
