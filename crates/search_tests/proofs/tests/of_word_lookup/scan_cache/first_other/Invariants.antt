use Rattle.word_lookup.specs.Overlays.{overlay_of}
use Rattle.word_lookup.specs.ScanCaches.{AreScansOver}
use Rattle.search_tests.proofs.tests.of_word_lookup.scan_cache.first_other.Given as goal

-- The cached runs are runs of the text.
abbrev pub invariant-loop-row : goal.invariant-loop-row
invariant-loop-row l = AreScansOver (overlay_of l.dictionaries) l.text l.last
