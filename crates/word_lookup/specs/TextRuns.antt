-- Runs of a text whose characters have categories in a system dictionary.
use Rattle.std.specs.Prelude.{◌≡◌, ℕ, ◌-◌, false}
use Rattle.image_format.specs.ImageMeaning.{image_tables}
use Rattle.mj_model.specs.declared.category.CharInfo.{CharInfo}
use Rattle.word_lookup.specs.declared.category_scan.CategoryScan.{CategoryScan}
use Rattle.word_lookup.specs.declared.scan_cache.ScanCache.{ScanCache}
use Rattle.word_lookup.specs.declared.run.Run.{Run}
use Rattle.word_lookup.specs.declared.cached_runs.CategorizedText.{CategorizedText}
use Rattle.word_lookup.specs.CategoryScans.{AreCategoryScans, IsCategoryScan, CoversUpTo}

-- a scanned run of this text
abbrev pub IsRunOf : CategorizedText → CategoryScan → Type 0
IsRunOf t r = IsCategoryScan (image_tables t.system.now).info t.text.now r

-- the cached runs of characters are runs of this text
abbrev pub AreScansOf : CategorizedText → ScanCache → Type 0
AreScansOf t last = AreCategoryScans (image_tables t.system.now).info t.text.now last

-- a run of which only the first character was scanned
abbrev pub started_scan : ℕ → ℕ → CharInfo → CategoryScan
started_scan from to first = record { from = from; to = to; following = 0; last = first; is_whole = false }

-- the scanned run has these characters and bytes after its first character, which ends at `to`
pub record IsScannedRun (from to : ℕ) (suffix : Run) (r : CategoryScan) : Type 0 where
  pub begins : r.from ≡ from
  pub characters : suffix.characters ≡ r.following
  pub bytes : suffix.bytes ≡ r.to - to

-- a run that was scanned far enough for `limit` has these characters and bytes after its first
-- character
pub record CoversRun (t : CategorizedText) (from to limit : ℕ) (suffix : Run) : Type 0 where
  pub run : CategoryScan
  pub is : IsRunOf t run
  pub scanned : IsScannedRun from to suffix run
  pub covered : CoversUpTo limit run
