-- The keys that are prefixes of a text, for each layout.
use Rattle.std.specs.Prelude.{ℕ, List, []}
use Rattle.mj_model.specs.CellMap.{Cell}
use Rattle.mj_model.specs.HitsView.{HitsView}
use Rattle.image_format.specs.declared.layout.KeyForm.{KeyForm}
use Rattle.image_format.specs.declared.layout.KeyForm.TheVariants as key
use Rattle.image_format.specs.ImageSections.{stored_cells}
use Rattle.dict_image.specs.declared.key_hits.KeyHits.{KeyHits}
use Rattle.dict_image.specs.declared.key_hits.KeyHits.TheVariants as hits

-- the cells that a lookup reads: none if keys are listed
abbrev pub key_cells : KeyForm → List ℕ → List Cell
key_cells key.Listed keys = []
key_cells key.Cells keys = stored_cells keys

-- the iterator as contracts describe it
abbrev pub hits_view : KeyHits → HitsView
hits_view (hits.Listed it) = record { hits = it.hits; cells = []; text = it.text; walked = it.walked }
hits_view (hits.Cells it) = it
