-- Runs of characters of a text, as they are cached.
use Rattle.std.specs.Prelude.{◌≡◌, ℕ, ◌+◌, ◌-◌, ◌≤◌, false, List, [], ◌∷◌, IfSome, IsTrue, chars, drop, length, take}
use Rattle.std.specs.Char.{len_utf8}
use Rattle.mj_model.specs.declared.category.CharInfo.{CharInfo}
use Rattle.mj_model.specs.Blanks.{chars_from}
use Rattle.mj_model.specs.Run.{bytes_of, run}
use Rattle.mj_model.specs.Words.{is_place}
use Rattle.word_lookup.specs.declared.category_scan.CategoryScan.{CategoryScan}
use Rattle.word_lookup.specs.declared.scan_cache.ScanCache.{ScanCache}

-- the number of characters that follow the first one in its run
abbrev pub following_in_run : (ℕ → CharInfo) → List ℕ → ℕ
following_in_run info [] = 0
following_in_run info (c ∷ cs) = run info (info c) cs

-- a scanned part of the run at a position: `following` characters after the first one, with the
-- categories of the last one, from which the run continues. If it is whole, the run ends there
pub record IsCategoryScan (info : ℕ → CharInfo) (text : List ℕ) (r : CategoryScan) : Type 0 where
  pub begins : IsTrue (is_place text r.from)
  pub ends : r.to ≡ r.from + bytes_of (1 + r.following) (chars_from text r.from)
  pub goes_on : following_in_run info (chars_from text r.from) ≡ r.following + run info r.last (chars_from text r.to)
  pub whole : IsTrue r.is_whole → run info r.last (chars_from text r.to) ≡ 0

-- the part was scanned far enough to know whether `limit` characters follow the first one
abbrev pub CoversUpTo : ℕ → CategoryScan → Type 0
CoversUpTo limit r = r.is_whole ≡ false → limit ≤ r.following

-- the text starts with the character c, of n bytes
pub record IsFirst (text : List ℕ) (c n : ℕ) : Type 0 where
  pub place : IsTrue (is_place text n)
  pub split : chars text ≡ c ∷ chars (drop n text)
  pub long : n + length (drop n text) ≡ length text
  pub bytes : n ≡ len_utf8 c

-- the number of characters between two positions
abbrev pub count_between : List ℕ → ℕ → ℕ → ℕ
count_between text from to = length (chars (take (to - from) (drop from text)))

-- the cached runs of characters are runs of the text
pub record AreCategoryScans (info : ℕ → CharInfo) (text : List ℕ) (last : ScanCache) : Type 0 where
  pub here : IfSome last.here (IsCategoryScan info text)
  pub after_blanks : IfSome last.after_blanks (IsCategoryScan info text)
