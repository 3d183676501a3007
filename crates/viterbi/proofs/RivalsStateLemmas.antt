-- The state of a text's rivals is consistent: each neighbor and each best rival has the number of a
-- node.
use Rattle.std.proofs.Common.{◌≡◌, ℕ, ◌<◌, List, length, Option, None, Some, sym, ◌∙◌, subst, arith, get_or, slice_get}
use Rattle.std.specs.Prelude.{ℤ, pos}
use Rattle.std.proofs.lemmas.Option.{none-some, slice_get-get_or, slice_get_within}
use Rattle.mj_model.specs.declared.word.Word.{Word}
use Rattle.viterbi.specs.Search.SearchedText.{CanBeSearched, IsBestIn, SearchedText}
use Rattle.viterbi.proofs.WordNumbers.{no_word}
use Rattle.viterbi.specs.declared.nodes.lattice_node.LatticeNode.{LatticeNode}
use Rattle.viterbi.specs.Nodes.OnPath.{AreOnPath}
use Rattle.viterbi.specs.Rivals.AllRivals.{AreBestRivals}
use Rattle.viterbi.specs.Rivals.NodesWithNeighbors.{IsNodeNumber}
use Rattle.viterbi.specs.Rivals.RivalsState.{AreRivalsIn, IsRivalsState}
use Rattle.viterbi.specs.Rivals.Neighbors.{AreAfter, AreBefore, IsAfter, IsAfterIfSome, IsBefore, LeadWithin}
use Rattle.viterbi.specs.Rivals.PathSteps.{steps_of}
use Rattle.viterbi.specs.Rivals.Places.{AreNodesOf}
use Rattle.viterbi.specs.Rivals.Rivals.{AreOfLattice}
use Rattle.viterbi.specs.declared.rivals.neighbor.Neighbor.{Neighbor}
use Rattle.viterbi.specs.declared.rivals.nodes_with_neighbors.NodesWithNeighbors.{NodesWithNeighbors}
use Rattle.viterbi.specs.declared.rivals.rival.Rival.{Rival}
use Rattle.viterbi.specs.declared.rivals.step.PathStep.{PathStep}
use Rattle.viterbi.proofs.PlaceLemmas.{small_of, total_of}

abbrev pub no_node : LatticeNode
no_node = record { word = no_word; total = pos 0; through = None }

abbrev pub no_link : Neighbor
no_link = record { node = None; connection = pos 0 }

module _ (words : ℕ → List Word) (conn : ℕ → ℕ → ℤ) (nodes : List LatticeNode) where
  pub before_within : (links : List Neighbor) → AreBefore conn nodes links → LeadWithin (length nodes) links
  before_within links are i k link at some =
      let low = slice_get_within links i link at in
      let long = are.long in
      let here = slice_get-get_or nodes i no_node (omega (arith, low, long)) in
      let n = get_or nodes i no_node in
      let m = subst (IsBefore conn nodes n link.connection) some (are.each i n link here at) in
      slice_get_within nodes k m.0 m.1

  after_leads : (n : LatticeNode) (o : Option ℤ) (link : Neighbor) (k : ℕ) → IsAfterIfSome words conn nodes n o link → link.node ≡ Some k → k < length nodes
  after_leads n None link k none some = absurd (none-some k (sym none ∙ some))
  after_leads n (Some cost) link k is some = let m = subst (IsAfter words conn nodes n cost link.connection) some is in slice_get_within nodes k m.0 m.1

  pub after_within : (links : List Neighbor) → AreAfter words conn nodes links → LeadWithin (length nodes) links
  after_within links are i k link at some =
      let low = slice_get_within links i link at in
      let long = are.long in
      let here = slice_get-get_or nodes i no_node (omega (arith, low, long)) in
      let n = get_or nodes i no_node in after_leads n n.through link k (are.each i n link here at) some

  pub rivals_within : (path : List Word) (bests : List (Option Rival)) → AreBestRivals words conn nodes path bests → (i : ℕ) (r : Rival) → slice_get bests i ≡ Some (Some r) → r.number < length nodes
  rivals_within path bests are i r at =
      let low = slice_get_within bests i (Some r) at in
      let long = are.long in
      let here = slice_get-get_or path i no_word (omega (arith, low, long)) in
      let is = are.each i (get_or path i no_word) (Some r) here at in
      slice_get_within nodes r.number is.node is.here

pub of_lattice : (t : SearchedText) (nodes : List LatticeNode) → CanBeSearched t → AreNodesOf t nodes → AreOfLattice t.words t.connection t.text_length nodes
of_lattice t nodes source are = record { source = source.source.are; reached = are.words; through = are.through }

-- a stored neighbor has the number of a node, if it is one
pub node_number : (count : ℕ) (links : List Neighbor) (i : ℕ) (link : Neighbor) → LeadWithin count links → slice_get links i ≡ Some link → (o : Option ℕ) → link.node ≡ o → IsNodeNumber count o
node_number count links i link lead at None none = tt
node_number count links i link lead at (Some k) some = lead i k link at some

-- ---- the state of a text

module _ (t : SearchedText) (source : CanBeSearched t) (path : List Word) (best : IsBestIn t path) (l : NodesWithNeighbors) (are : AreNodesOf t l.nodes.items) (on : AreOnPath l.nodes.items path l.on_best.items) (before : AreBefore t.connection l.nodes.items l.before.items) (after : AreAfter t.words t.connection l.nodes.items l.after.items) (bests : List (Option Rival)) (rivals : AreBestRivals t.words t.connection l.nodes.items path bests) where
  pub kept : IsRivalsState l bests
  kept = record {
    held = record {
      on_best_long = on.long;
      before_long = before.long;
      after_long = after.long;
      before_within = before_within t.words t.connection l.nodes.items l.before.items before;
      after_within = after_within t.words t.connection l.nodes.items l.after.items after;
      small = λ i n at. (small_of t source l.nodes.items are i n at).total;
    };
    nodes = rivals_within t.words t.connection l.nodes.items path bests rivals;
  }

  pub kept_rivals : (steps : List PathStep) → steps ≡ steps_of t.connection path → AreRivalsIn t path (record { linked = l; bests = bests; steps = steps })
  kept_rivals steps steps_are = record {
    linked = record {
      best_is = best;
      lattice = of_lattice t l.nodes.items source are;
      forward_costs = λ i n at. total_of t source l.nodes.items are i n at;
      on_best = on;
      before = before;
      after = after;
    };
    bests = rivals;
    steps = steps_are;
  }
