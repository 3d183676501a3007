-- A text over dictionaries as the search sees it, and its lattice.
use Rattle.std.specs.Prelude.{ℕ, ◌≤◌, List, All, IsTrue, length}
use Rattle.mj_model.specs.declared.word.Word.{Word}
use Rattle.mj_model.specs.Connection.{is_pair}
use Rattle.mj_model.specs.Tables.{Overlay}
use Rattle.mj_model.specs.Words.{is_place, words}
use Rattle.viterbi.specs.Search.SearchedText.{SearchedText}
use Rattle.word_lookup.specs.Surfaces.{surface_words}
use Rattle.viterbi.specs.declared.nodes.lattice_node.LatticeNode.{LatticeNode}
use Rattle.viterbi.specs.Nodes.LatticeNodes.{AreWordsOfLattice, HasLeastThrough, HasLeastForwardCost}
use Rattle.viterbi.specs.Nodes.OnPath.{AreOnPath}
use Rattle.lattice.specs.declared.marking.MarkedLattice.{MarkedLattice}

-- a text over dictionaries, as the search sees it
abbrev pub text_over : Overlay → List ℕ → SearchedText
text_over o text = record {
  text_length = length text;
  words = words o text;
  surface_words = surface_words o;
  connection = o.system.connection;
  is_place = λ p. IsTrue (is_place text p);
  is_pair = λ right left. IsTrue (is_pair o.system.sizes right left);
}

-- the nodes of the lattice of a text: the reachable words, each with its forward cost and the least
-- cost of the paths that contain it
pub record AreNodesOver (o : Overlay) (text : List ℕ) (nodes : List LatticeNode) : Type 0 where
  pub words : AreWordsOfLattice (text_over o text) nodes
  pub forward_costs : All (HasLeastForwardCost (text_over o text)) nodes
  pub through : All (HasLeastThrough (text_over o text)) nodes

-- the surface of a word lies in the text, and starts and ends at character boundaries
pub record SurfaceLiesIn (text : List ℕ) (w : Word) : Type 0 where
  pub forward : w.start ≤ w.end
  pub within : w.end ≤ length text
  pub begins : IsTrue (is_place text w.start)
  pub ends : IsTrue (is_place text w.end)

-- the nodes of the lattice of a text, and whether each is on `best`, the best path of the text
pub record IsMarkedOver (o : Overlay) (text : List ℕ) (best : List Word) (lattice : MarkedLattice) : Type 0 where
  pub nodes : AreNodesOver o text lattice.nodes.items
  pub on_best : AreOnPath lattice.nodes.items best lattice.on_best.items
