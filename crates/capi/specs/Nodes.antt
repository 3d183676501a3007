-- Nodes of a lattice in the layout of the C header.
use Rattle.std.specs.Prelude.{◌≡◌, ℕ, pos, List, Bool, IsTrue, length, map, drop, is_some, unwrap_or, zip}
use Rattle.std.specs.Int.{from_bool}
use Rattle.mj_model.specs.Tables.{Overlay}
use Rattle.mj_model.specs.Words.{is_place}
use Rattle.lattice.specs.declared.marking.MarkedLattice.{MarkedLattice}
use Rattle.viterbi.specs.declared.nodes.lattice_node.LatticeNode.{LatticeNode}
use Rattle.line_segmenter.specs.Segmenters.{SegmentedLine, SegmenterState, IsLatticeOfLastLine, overlay_of_state}
use Rattle.capi.specs.Outputs.{with_front}
use Rattle.capi.specs.Words.{c_word_in}
use Rattle.capi.specs.declared.nodes.CNode.{CNode}

-- a node of a text and whether it is on the best path: its word with the least cost up to and
-- including it, and the least cost of the complete paths through it, if there is one
abbrev pub c_node : Overlay → List ℕ → LatticeNode → Bool → CNode
c_node o text n on_best = record {
  word = c_word_in o text n.total n.word;
  through = unwrap_or n.through (pos 0);
  reaches_end = from_bool (is_some n.through);
  on_best = from_bool on_best;
}

-- the surface of the node starts at the start of a character
abbrev pub StartsIn : List ℕ → LatticeNode → Type 0
StartsIn text n = IsTrue (is_place text n.word.start)

-- the nodes of a text, each with whether it is on the best path
abbrev pub c_nodes : Overlay → List ℕ → List LatticeNode → List Bool → List CNode
c_nodes o text nodes on_best = map (λ n. c_node o text n.0 n.1) (zip nodes on_best)

-- the nodes of the last line's lattice were written from index `first`, and `count` is their number
pub record AreNodesWritten (h : SegmenterState) (first count : ℕ) (old new : List CNode) (c : SegmentedLine) : Type 0 where
  pub lattice : MarkedLattice
  pub is : IsLatticeOfLastLine h lattice c
  pub written : new ≡ with_front (drop first (c_nodes (overlay_of_state h) c.text lattice.nodes.items lattice.on_best.items)) old
  pub all : count ≡ length lattice.nodes.items
