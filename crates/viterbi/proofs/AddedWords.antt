-- One more word of a position: the chain that is found for it is the best one to it, and with its
-- node the words from it on are added.
use Rattle.std.proofs.Common.{◌≡◌, ℕ, zero, suc, ◌+◌, ◌-◌, ◌^◌, ◌<◌, ◌≤◌, List, [], ◌∷◌, ◌++◌, All, length, get_or, take, drop, Some, sym, ap, ◌∙◌, subst, arith, slice_get}
use Rattle.std.proofs.lemmas.List.{append-nil, append_assoc, get_or-drop, length-append, length-drop, length-reverse, length_push, take_more}
use Rattle.std.proofs.lemmas.Option.{same_Some, slice_get-get_or}
use Rattle.mj_model.specs.declared.word.Word.{Word}
use Rattle.mj_model.specs.Bounds.{IsWithin}
use Rattle.mj_model.specs.declared.paths.surface.Surface.{Surface}
use Rattle.viterbi.specs.declared.search.node.Backpointer.{Backpointer}
use Rattle.viterbi.specs.declared.search.node.SurfaceNodes.{SurfaceNodes}
use Rattle.viterbi.specs.declared.search.node.Predecessor.{Predecessor}
use Rattle.viterbi.specs.declared.search.start_position.StartPosition.{StartPosition}
use Rattle.viterbi.specs.Search.Interchangeable.{EndsWith, FollowsNext, MatchesNext}
use Rattle.viterbi.specs.Search.EndNodes.{HasSmallTotal, IsFollowedBy, IsLeast}
use Rattle.viterbi.specs.Search.Lattice.{IsPredecessor, node_of}
use Rattle.viterbi.specs.Search.Nodes.{Node, words_of_surface_nodes, stored_node, node_words, nodes_of}
use Rattle.viterbi.specs.Search.StartPositions.{AreAddedFrom, IsPlaceOf}
use Rattle.viterbi.specs.Search.SearchedText.{IsLatticeOf, SearchedText, nodes_in, word_count, words_before}
use Rattle.viterbi.specs.Search.PrunedEndNodes.{AreBestEndNodes}
use Rattle.viterbi.proofs.InterchangeableLemmas.{predecessors_alike, like_node, twice_as_many}
use Rattle.viterbi.proofs.SurfaceNodeLemmas.{next_word, no_back, node_here, nodes_push, nodes_stay, rights_push, rights_stay, words_push}
use Rattle.viterbi.proofs.Choice.{all_followed, least_is_predecessor, small_predecessor, small_forward_costs}
use Rattle.viterbi.proofs.Growth.{grows, word_goes_on, word_there}
use Rattle.viterbi.proofs.Pushed.{get_prefix}
use Rattle.viterbi.proofs.PruningLemmas.{best_ends_past, holds_left, least_left}
use Rattle.viterbi.proofs.WordNumbers.{count_at, next_surface, no_surface, no_word, whole_at, word_at}

module _ (t : SearchedText) (p : StartPosition) (is : IsPlaceOf t p) (number : ℕ) (within : number < length p.surfaces.now) where
  abbrev its : Surface
  its = get_or p.surfaces.now number no_surface

  module _ (by_surface : List SurfaceNodes) (backpointers : List Backpointer) (i : ℕ) (w : Word) (at : slice_get (t.surface_words its) i ≡ Some w) (added : AreAddedFrom t p number (i + 1) by_surface backpointers) where
    abbrev nodes : List Node
    nodes = nodes_in t by_surface backpointers

    abbrev k : ℕ
    k = words_before t p.surfaces.now number i

    among : slice_get (t.words p.start) k ≡ Some w
    among = word_at t p.start p.surfaces.now is.surfaces number i no_surface w within at

    lattice : IsLatticeOf t nodes p.start (k + 1)
    lattice =
        let same : words_before t p.surfaces.now number (i + 1) ≡ k + 1 = omega arith in
        subst (IsLatticeOf t nodes p.start) same added.lattice

    pub small_end_costs : All HasSmallTotal p.ends.now
    small_end_costs =
        let best = added.ends in
        holds_left best.all p.ends.now best.left HasSmallTotal
        (small_forward_costs t.words t.connection t.text_length is.source.source nodes p.start (k + 1) p.start best.all is.source.short lattice best.are)

    pub pairs : All (IsFollowedBy t.is_pair w.left) p.ends.now
    pairs =
        let best = added.ends in
        let there = word_there t.words t.connection t.text_length is.source.source p.start k w among in
        holds_left best.all p.ends.now best.left (IsFollowedBy t.is_pair w.left)
        (all_followed t.words t.connection t.text_length is.source.source t.is_pair nodes p.start (k + 1) p.start w.left best.all (is.source.word_follows p.start w there) lattice best.are)

    pub predecessors : (j : Predecessor) → IsLeast t.connection p.ends.now w.left j → IsPredecessor t.words t.connection nodes p.start w.left j
    predecessors j best_predecessor =
        let best = added.ends in
        least_is_predecessor t.words t.connection t.text_length is.source.source nodes p.start (k + 1) p.start w.left best.all j lattice (omega arith) best.are (least_left best.all p.ends.now best.left t.connection w.left j best_predecessor)

    pub small : (j : Predecessor) → IsLeast t.connection p.ends.now w.left j → IsWithin (2 ^ 40) j.cost
    small j best_predecessor = small_predecessor t.words t.connection t.text_length is.source.source nodes p.start w.left j is.source.short is.within (predecessors j best_predecessor)

    module _ (last : EndsWith t p.surfaces.now number by_surface) where
      -- the next node of the groups is the word's
      next : slice_get (node_words t.surface_words by_surface) (length backpointers) ≡ Some w
      next =
          let same : its ≡ last.surface = same_Some its last.surface (sym (slice_get-get_or p.surfaces.now number no_surface within) ∙ last.here) in
          let left = added.left in
          next_word (node_words t.surface_words by_surface) last.before (t.surface_words last.surface) (length backpointers) i w last.words (subst (λ (s : Surface). slice_get (t.surface_words s) i ≡ Some w) same at) (omega (arith, left))

      pub one_more : (b : Backpointer) (j : Predecessor) → stored_node w b ≡ node_of w j → b.right ≡ w.right → IsPredecessor t.words t.connection nodes p.start w.left j → AreAddedFrom t p number i by_surface (backpointers ++ b ∷ [])
      one_more b j is_node right predecessor =
          let words = node_words t.surface_words by_surface in
          let pushed : nodes_of words (backpointers ++ b ∷ []) ≡ nodes ++ node_of w j ∷ [] = nodes_push words backpointers w b next ∙ ap (λ (n : Node). nodes ++ n ∷ []) is_node in
          let on = word_goes_on t.words t.connection t.text_length is.source.source p.start k w among in
          let left = added.left in
          let long = length_push backpointers b in
          record {
            left = omega (arith, left, long);
            rights = rights_push words backpointers w b next right added.rights;
            lattice = subst (λ (ns : List Node). IsLatticeOf t ns p.start k) (sym pushed) (grows t.words t.connection t.text_length is.source.source nodes p.start k w j among predecessor lattice);
            ends = subst (λ (ns : List Node). AreBestEndNodes ns p.start p.ends.now) (sym pushed) (best_ends_past nodes p.start p.ends.now (node_of w j) on added.ends);
          }

  -- with the group of a surface, its words are to be added
  pub next_surface_added : (by_surface : List SurfaceNodes) (r : SurfaceNodes) → r.surface ≡ its → (backpointers : List Backpointer) → AreAddedFrom t p (number + 1) 0 by_surface backpointers → AreAddedFrom t p number (word_count p.surfaces.now number) (by_surface ++ r ∷ []) backpointers
  next_surface_added by_surface r own backpointers added =
      let none_left = added.left in
      let all : length backpointers ≡ length (node_words t.surface_words by_surface) = omega (arith, none_left) in
      let same = nodes_stay t.surface_words by_surface r backpointers all in
      let counted = count_at p.surfaces.now number no_surface within in
      let count = (whole_at t p.start p.surfaces.now is.surfaces number no_surface within).count_is in
      let long = ap length (words_push t.surface_words by_surface r) ∙ length-append (node_words t.surface_words by_surface) (words_of_surface_nodes t.surface_words r) in
      let turned = length-reverse (t.surface_words r.surface) ∙ ap (λ (s : Surface). length (t.surface_words s)) own in
      record {
        left = omega (arith, all, counted, count, long, turned);
        rights = rights_stay t.surface_words by_surface r backpointers all added.rights;
        lattice = subst (λ (ns : List Node). IsLatticeOf t ns p.start (words_before t p.surfaces.now number (word_count p.surfaces.now number))) (sym same)
            (subst (IsLatticeOf t (nodes_in t by_surface backpointers) p.start) (next_surface t p.start p.surfaces.now is.surfaces number within) added.lattice);
        ends = subst (λ (ns : List Node). AreBestEndNodes ns p.start p.ends.now) (sym same) added.ends;
      }

  -- the words are interchangeable with those of the next surface: their backpointers are the same
  module _ (by_surface : List SurfaceNodes) (last : EndsWith t p.surfaces.now number by_surface) (follows : FollowsNext t p.surfaces.now number by_surface) (alike : MatchesNext t p.surfaces.now number)
      (backpointers : List Backpointer) (added : AreAddedFrom t p number its.count by_surface backpointers) where
    abbrev from : ℕ
    from = length backpointers - its.count

    pub many : its.count ≤ length backpointers
    many =
        let twice = twice_as_many t p.start p.surfaces.now is.surfaces number within alike by_surface follows in
        let left = added.left in
        omega (arith, twice, left)

    abbrev copies : List Backpointer
    copies = drop from backpointers

    abbrev with_copies : ℕ → List Backpointer
    with_copies n = backpointers ++ take n copies

    abbrev copy : ℕ → Backpointer
    copy n = get_or copies n no_back

    -- one more copy
    more_copies : (n : ℕ) → n < its.count → with_copies (n + 1) ≡ with_copies n ++ copy n ∷ []
    more_copies n less =
        let long = length-drop from backpointers in
        let enough = many in
        ap (λ (bs : List Backpointer). backpointers ++ bs) (take_more copies n no_back (omega (arith, long, enough, less))) ∙ sym (append_assoc backpointers (take n copies) (copy n ∷ []))

    copy_here : (n : ℕ) → n < its.count → slice_get (with_copies n) (from + n) ≡ Some (copy n)
    copy_here n less =
        let enough = many in
        let low : from + n < length backpointers = omega (arith, enough, less) in
        get_prefix backpointers (take n copies) (from + n) low ∙ slice_get-get_or backpointers (from + n) no_back low ∙ ap Some (sym (get_or-drop from backpointers n no_back))

    added_copy : (n i : ℕ) → n + i + 1 ≡ its.count → AreAddedFrom t p number (i + 1) by_surface (with_copies n) → AreAddedFrom t p number i by_surface (with_copies (n + 1))
    added_copy n i sum so_far =
        let less : n < its.count = omega (arith, sum) in
        let whole = whole_at t p.start p.surfaces.now is.surfaces number no_surface within in
        let count = whole.count_is in
        let w = get_or (t.surface_words its) i no_word in
        let at = slice_get-get_or (t.surface_words its) i no_word (omega (arith, sum, count)) in
        let words = node_words t.surface_words by_surface in
        let enough = many in
        let left = added.left in
        let front = so_far.left in
        let like = like_node t p.start p.surfaces.now is.surfaces number within alike by_surface follows is.source.source (with_copies n) i (from + n) w (omega (arith, sum)) at (omega (arith, sum, left, enough)) (omega (arith, sum, left, enough, front)) in
        let here = copy_here n less in
        let node = node_here words (with_copies n) (from + n) like.word (copy n) like.here here in
        let k = words_before t p.surfaces.now number (i + 1) in
        let found = predecessors_alike t.words t.connection (nodes_in t by_surface (with_copies n)) p.start k (from + n) like.word w (copy n) so_far.lattice node like.there like.alike in
        let right = so_far.rights (from + n) like.word (copy n) like.here here ∙ like.alike.right in
        subst (AreAddedFrom t p number i by_surface) (sym (more_copies n less)) (one_more by_surface (with_copies n) i w at so_far last (copy n) found.predecessor found.is right found.predecessors)

    added_copies : (n i : ℕ) → n + i ≡ its.count → AreAddedFrom t p number i by_surface (with_copies n)
    added_copies zero i sum =
        let same : its.count ≡ i = omega (arith, sum) in
        subst (AreAddedFrom t p number i by_surface) (sym (append-nil backpointers)) (subst (λ (c : ℕ). AreAddedFrom t p number c by_surface backpointers) same added)
    added_copies (suc n) i sum =
        let on : n + 1 ≡ suc n = omega arith in
        subst (λ (c : ℕ). AreAddedFrom t p number i by_surface (with_copies c)) on
        (added_copy n i (omega (arith, sum)) (added_copies n (i + 1) (omega (arith, sum))))

    pub all_copied : AreAddedFrom t p number 0 by_surface (with_copies its.count)
    all_copied = added_copies its.count 0 (omega arith)
