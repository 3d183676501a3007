-- The sources of a system dictionary whose `matrix.def` was read before.
use Rattle.std.specs.Prelude.{ℕ, List}
use Rattle.std.specs.Borrow.{Bor}
use Rattle.mj_model.specs.declared.sources.Sources.{Sources}
use Rattle.dict_compile.specs.declared.other_sources.OtherSources.{OtherSources}

-- all sources: `matrix.def`, and the others
abbrev pub sources_with : Bor (List ℕ) → OtherSources → Sources
sources_with matrix others = record { matrix = matrix; chars = others.chars; unk = others.unk; lexicons = others.lexicons }
