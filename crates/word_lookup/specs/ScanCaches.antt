-- The cache of the last scans of a text.
use Rattle.std.specs.Prelude.{ℕ, List, None, IfSome}
use Rattle.mj_model.specs.Blanks.{skip}
use Rattle.mj_model.specs.Tables.{Overlay}
use Rattle.word_lookup.specs.BlankScans.{IsBlankScan, IsCached}
use Rattle.word_lookup.specs.CategoryScans.{IsCategoryScan}
use Rattle.word_lookup.specs.declared.scan_cache.ScanCache.{ScanCache}

-- the empty cache
abbrev pub empty_scans : ScanCache
empty_scans = record { blanks = None; here = None; after_blanks = None; range = 0 }

-- all cached runs, of blanks and of characters, are runs of the text
pub record AreScansOver (o : Overlay) (text : List ℕ) (last : ScanCache) : Type 0 where
  pub blanks : IfSome last.blanks (IsBlankScan o text)
  pub here : IfSome last.here (IsCategoryScan o.system.info text)
  pub after_blanks : IfSome last.after_blanks (IsCategoryScan o.system.info text)

-- the blanks at the position are cached: a lookup at any position among them does not scan them
-- again
abbrev pub IsScannedAt : Overlay → List ℕ → ℕ → ScanCache → Type 0
IsScannedAt o text place last = IsCached place (skip o text place) last.blanks
