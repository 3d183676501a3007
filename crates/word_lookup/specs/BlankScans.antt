-- Runs of blanks of a text, as they are cached.
use Rattle.std.specs.Prelude.{◌≡◌, ◌≤◌, ℕ, Bool, nat_lt, List, Option, Some, None, IsTrue, chars}
use Rattle.mj_model.specs.Tables.{Overlay}
use Rattle.mj_model.specs.Blanks.{skip, space}
use Rattle.mj_model.specs.Run.{run}
use Rattle.mj_model.specs.Words.{is_place}
use Rattle.word_lookup.specs.declared.blank_scan.BlankScan.{BlankScan}

-- the text starts with a blank
abbrev pub starts_with_blank : Overlay → List ℕ → Bool
starts_with_blank o text = nat_lt 0 (run o.system.info (o.system.info space) (chars text))

-- the run starts at a valid position and ends after the blanks there
pub record IsBlankScan (o : Overlay) (text : List ℕ) (run : BlankScan) : Type 0 where
  pub begins : IsTrue (is_place text run.from)
  pub ends : run.to ≡ skip o text run.from

-- a run is cached that contains the blanks from `place` to `end`. For positions inside it, the
-- first character alone decides where blanks end
abbrev pub IsCached : ℕ → ℕ → Option BlankScan → Type 0
IsCached place end None = ⊥
IsCached place end (Some run) = (run.from ≤ place) × (end ≤ run.to)
