-- Nodes of the words of a text that are kept after pruning: what was proved of all words of the
-- text holds of the text with its kept words.
use Rattle.std.proofs.Common.{◌≡◌, ℕ, ◌+◌, ◌-◌, ◌^◌, ◌<◌, ◌≤◌, List, [], ◌∷◌, ◌++◌, All, length, get_or, take, drop, Some, arith, slice_get}
use Rattle.mj_model.specs.declared.word.Word.{Word}
use Rattle.mj_model.specs.Bounds.{IsWithin}
use Rattle.mj_model.specs.declared.paths.surface.Surface.{Surface}
use Rattle.viterbi.specs.declared.search.node.Backpointer.{Backpointer}
use Rattle.viterbi.specs.declared.search.node.SurfaceNodes.{SurfaceNodes}
use Rattle.viterbi.specs.declared.search.node.Predecessor.{Predecessor}
use Rattle.viterbi.specs.declared.search.start_position.StartPosition.{StartPosition}
use Rattle.viterbi.specs.Search.Interchangeable.{EndsWith, FollowsNext, MatchesNext}
use Rattle.viterbi.specs.Search.EndNodes.{HasSmallTotal, IsFollowedBy, IsLeast}
use Rattle.viterbi.specs.Search.Lattice.{node_of}
use Rattle.viterbi.specs.Search.Nodes.{stored_node}
use Rattle.viterbi.specs.Search.StartPositions.{AreKeptFrom}
use Rattle.viterbi.specs.Search.SearchedText.{IsLatticeTo, IsPrunedTo, SearchedText, nodes_in, with_words, word_count}
use Rattle.viterbi.proofs.AddedWords.{all_copied, predecessors, many, next_surface_added, one_more, pairs, small, small_end_costs}
use Rattle.viterbi.proofs.Growth.{at_next_position}
use Rattle.viterbi.proofs.WordNumbers.{no_surface}

-- the last nodes are those of a surface, whatever words are kept
ends_with : (t : SearchedText) (kept : ℕ → List Word) (ss : List Surface) (number : ℕ) (by_surface : List SurfaceNodes) → EndsWith t ss number by_surface → EndsWith (with_words t kept) ss number by_surface
ends_with t kept ss number by_surface h = record { surface = h.surface; here = h.here; before = h.before; words = h.words }

alike_to_next : (t : SearchedText) (kept : ℕ → List Word) (ss : List Surface) (number : ℕ) → MatchesNext t ss number → MatchesNext (with_words t kept) ss number
alike_to_next t kept ss number h = record { next = h.next; surface = h.surface; there = h.there; here = h.here; count = h.count; words = h.words }

-- words that were kept up to a position are kept up to a later one
pub kept_on : (t : SearchedText) (p q : ℕ) (kept : ℕ → List Word) → p ≤ q → IsPrunedTo t p kept → IsPrunedTo t q kept
kept_on t p q kept low h = record { searched = h.searched; pruned = h.pruned; later = λ r more. h.later r (omega (arith, low, more)) }

module _ (t : SearchedText) (p : StartPosition) (number : ℕ) (within : number < length p.surfaces.now) where
  abbrev its : Surface
  its = get_or p.surfaces.now number no_surface

  module _ (by_surface : List SurfaceNodes) (backpointers : List Backpointer) (i : ℕ) (w : Word) (at : slice_get (t.surface_words its) i ≡ Some w) (h : AreKeptFrom t p number (i + 1) by_surface backpointers) where
    pub kept_forward_costs : All HasSmallTotal p.ends.now
    kept_forward_costs = small_end_costs (with_words t h.kept) p h.place number within by_surface backpointers i w at h.added

    pub kept_pairs : All (IsFollowedBy t.is_pair w.left) p.ends.now
    kept_pairs = pairs (with_words t h.kept) p h.place number within by_surface backpointers i w at h.added

    pub kept_small : (j : Predecessor) → IsLeast t.connection p.ends.now w.left j → IsWithin (2 ^ 40) j.cost
    kept_small j best_predecessor = small (with_words t h.kept) p h.place number within by_surface backpointers i w at h.added j best_predecessor

    pub one_more_kept : EndsWith t p.surfaces.now number by_surface → (b : Backpointer) (j : Predecessor) → stored_node w b ≡ node_of w j → b.right ≡ w.right → IsLeast t.connection p.ends.now w.left j → AreKeptFrom t p number i by_surface (backpointers ++ b ∷ [])
    one_more_kept last b j is_node right best_predecessor =
        let u = with_words t h.kept in
        record {
          kept = h.kept;
          pruned = h.pruned;
          place = h.place;
          added = one_more u p h.place number within by_surface backpointers i w at h.added (ends_with t h.kept p.surfaces.now number by_surface last) b j is_node right
              (predecessors u p h.place number within by_surface backpointers i w at h.added j best_predecessor);
        }

  pub next_surface_kept : (by_surface : List SurfaceNodes) (r : SurfaceNodes) → r.surface ≡ its → (backpointers : List Backpointer) → AreKeptFrom t p (number + 1) 0 by_surface backpointers → AreKeptFrom t p number (word_count p.surfaces.now number) (by_surface ++ r ∷ []) backpointers
  next_surface_kept by_surface r own backpointers h = record {
    kept = h.kept;
    pruned = h.pruned;
    place = h.place;
    added = next_surface_added (with_words t h.kept) p h.place number within by_surface r own backpointers h.added;
  }

  module _ (by_surface : List SurfaceNodes) (last : EndsWith t p.surfaces.now number by_surface) (follows : FollowsNext t p.surfaces.now number by_surface) (alike : MatchesNext t p.surfaces.now number)
      (backpointers : List Backpointer) (h : AreKeptFrom t p number its.count by_surface backpointers) where
    pub many_kept : its.count ≤ length backpointers
    many_kept = many (with_words t h.kept) p h.place number within by_surface (ends_with t h.kept p.surfaces.now number by_surface last) follows (alike_to_next t h.kept p.surfaces.now number alike) backpointers h.added

    pub copied_kept : AreKeptFrom t p number 0 by_surface (backpointers ++ take its.count (drop (length backpointers - its.count) backpointers))
    copied_kept = record {
      kept = h.kept;
      pruned = h.pruned;
      place = h.place;
      added = all_copied (with_words t h.kept) p h.place number within by_surface (ends_with t h.kept p.surfaces.now number by_surface last) follows (alike_to_next t h.kept p.surfaces.now number alike) backpointers h.added;
    }

-- after the first word of the position comes the next position
pub lattice_goes_on : (t : SearchedText) (p : StartPosition) (by_surface : List SurfaceNodes) (backpointers : List Backpointer) → AreKeptFrom t p 0 0 by_surface backpointers → IsLatticeTo t (nodes_in t by_surface backpointers) (p.start + 1)
lattice_goes_on t p by_surface backpointers h = record {
  kept = h.kept;
  pruned = h.pruned;
  lattice = at_next_position h.kept t.connection t.text_length h.place.source.source (nodes_in t by_surface backpointers) p.start h.added.lattice;
}
