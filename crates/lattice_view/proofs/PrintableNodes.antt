-- The nodes of a line's lattice can be printed: their words lie in the line, and no cost is close
-- to overflow.
use Rattle.std.proofs.Common.{◌≡◌, ℕ, ◌^◌, ◌≤◌, List, [], ◌∷◌, Bool, Option, None, Some, Result, Ok, Err, length, reverse, rules, ap, ◌∙◌, sym, subst, arith, slice_get}
use Rattle.std.specs.Prelude.{ℤ, ◌-ℤ◌, FitsSigned, IsUtf8, OnOk}
use Rattle.std.specs.Option.{option_map}
use mir.Val.{to_z, of_z, SFits}
use mir.Syntax.{w64}
use Rattle.std.proofs.lemmas.Int.{ints, to_z-of_z}
use Rattle.std.proofs.lemmas.Option.{get_or_from_slice_get, slice_get_within}
use Rattle.mj_model.specs.declared.limits.TheConstants.{SENTENCE_MAX}
use Rattle.mj_model.specs.declared.word.Word.{Word}
use Rattle.mj_model.specs.Lists.{GrowsBy}
use Rattle.mj_model.specs.Tables.{Overlay}
use Rattle.mj_model.specs.Best.{IsSource}
use Rattle.mj_model.specs.BestOver.{IsBestPathOver, cost_over}
use Rattle.mj_model.specs.ReversedChains.{IsChainTo}
use Rattle.mj_model.specs.Cost.{path_cost}
use Rattle.mj_model.specs.Paths.{IsChain}
use Rattle.mj_model.specs.Words.{words}
use Rattle.mj_model.proofs.ReversedChainLemmas.{chain_reversed, cost_reversed}
use Rattle.viterbi.proofs.Choice.{small_joined}
use Rattle.word_lookup.specs.declared.dictionaries.Dictionaries.{Dictionaries}
use Rattle.word_lookup.specs.Overlays.{overlay_of}
use Rattle.word_lookup.proofs.DictionaryLaws.{searchable}
use Rattle.viterbi.specs.declared.nodes.lattice_node.LatticeNode.{LatticeNode}
use Rattle.viterbi.specs.Nodes.LatticeNodes.{CostsThrough, HasLeastThrough}
use Rattle.viterbi.specs.Nodes.Least.{IsLeastOf}
use Rattle.lattice.specs.TextOver.{AreNodesOver, IsMarkedOver, text_over}
use Rattle.lattice.specs.declared.marking.MarkedLattice.{MarkedLattice}
use Rattle.lattice.proofs.NodeWords.{node_appears}
use Rattle.lattice_view.specs.LatticePrinter.LatticesOfLines.{ArePrintable, overlay_of_lattice}
use Rattle.lattice_view.specs.LatticePrinter.MarkedNodes.{lost}
use Rattle.lattice_view.specs.LatticePrinter.NodesInLine.{IsLow, IsLowIfSome, LiesInLine}
use Rattle.lattice_view.specs.LatticePrinter.PrintedLattices.{PrintsLattice}
use Rattle.lattice_view.specs.LatticePrinter.FormattedLattices.{IsFormattedLattice}
use Rattle.lattice_view.specs.declared.lattice_printer.format.LatticeFormat.{LatticeFormat}
use Rattle.lattice_view.specs.declared.lattice_printer.formatted_lattice.LineLattice.{LineLattice}

-- ---- by how much a node lost

pub low_if_some : (o : Option ℤ) (c : ℤ) → o ≡ Some c → IsLowIfSome o → IsLow c
low_if_some o c is low = subst IsLowIfSome is low

pub difference_fits : (a b through best : ℤ) → a ≡ through → b ≡ best → IsLow through → IsLow best → FitsSigned w64 (a -ℤ b)
difference_fits a b through best e f (c, d) (g, h) = search rules

pub lost_is : (a b through best : ℤ) (n : LatticeNode) → a ≡ through → b ≡ best → n.through ≡ Some through → IsLow through → IsLow best → Some (to_z w64 (of_z w64 (a -ℤ b))) ≡ lost best n
lost_is a b through best n e f is low best_low =
    let fits : SFits w64 (a -ℤ b) = difference_fits a b through best e f low best_low in
    let difference : a -ℤ b ≡ through -ℤ best = ap (λ (x : ℤ). x -ℤ b) e ∙ ap (λ (y : ℤ). through -ℤ y) f in
    ap Some (to_z-of_z w64 (a -ℤ b) fits ∙ difference) ∙ sym (ap (option_map (λ (x : ℤ). x -ℤ best)) is)

-- ---- costs

module _ (ws_at : ℕ → List Word) (conn : ℕ → ℕ → ℤ) (len : ℕ) (source : IsSource ws_at conn len) where
  ends_within : (ws : List Word) (to : ℕ) → IsChainTo ws_at ws to → to ≤ len
  ends_within [] to h = omega (arith, h)
  ends_within (w ∷ ws) to h = let in' = source.are.within w.place w h.1 in let e = h.0 in omega (arith, in', e)

  pub low_path : (ws : List Word) (to : ℕ) → len ≤ 2 ^ 20 → IsChain ws_at 0 ws to → IsLow (path_cost conn ws)
  low_path ws to short h =
      let back = chain_reversed ws_at conn len source.are ws to h in
      let s = small_joined ws_at conn len source (reverse ws) to 0 back in
      let e = cost_reversed ws_at conn len source.are ws in
      let end = ends_within (reverse ws) to back in
      (omega (arith, ints, s.0, e, end, short), omega (arith, ints, s.1, e, end, short))

  low_through : (w : Word) (through : Option ℤ) → len ≤ 2 ^ 20 → IsLeastOf (CostsThrough ws_at conn w) through → IsLowIfSome through
  low_through w None short h = tt
  low_through w (Some c) short h = subst IsLow (sym h.0.4) (low_path h.0.0 h.0.1 short h.0.2.chain)

pub best_is_low : (d : Dictionaries) (text : List ℕ) (best : List Word) (total : ℤ) → IsUtf8 text → length text ≤ SENTENCE_MAX → IsBestPathOver (overlay_of d) text best → total ≡ cost_over (overlay_of d) best → IsLow total
best_is_low d text best total utf8 short is e =
    let s = searchable d text utf8 short in
    subst IsLow (sym e) (low_path (words (overlay_of d) text) (overlay_of d).system.connection (length text) s.source best is.to s.short is.path.chain)

nodes_appear : (d : Dictionaries) (text : List ℕ) (nodes : List LatticeNode) → IsUtf8 text → length text ≤ SENTENCE_MAX → AreNodesOver (overlay_of d) text nodes → (i : ℕ) (n : LatticeNode) → slice_get nodes i ≡ Some n → LiesInLine text n
nodes_appear d text nodes utf8 short are i n at =
    let s = searchable d text utf8 short in
    let t = text_over (overlay_of d) text in
    let least : HasLeastThrough t n = subst (HasLeastThrough t) (get_or_from_slice_get nodes i n n at) (are.through i n (slice_get_within nodes i n at)) in
    record {
      word = node_appears d text nodes utf8 short are.words i n at;
      through_low = low_through (words (overlay_of d) text) (overlay_of d).system.connection (length text) s.source n.word n.through s.short least;
    }

-- the lattice of a line, with the cost of its best path
pub are_printable : (l : LineLattice) (best given : List Word) (lattice : MarkedLattice) (total : ℤ) → IsUtf8 l.text.now → length l.text.now ≤ SENTENCE_MAX
    → IsBestPathOver (overlay_of_lattice l) l.text.now best → total ≡ cost_over (overlay_of_lattice l) best → l.best ≡ total
    → IsMarkedOver (overlay_of_lattice l) l.text.now given lattice → l.nodes.now ≡ lattice.nodes.items → l.on_best.now ≡ lattice.on_best.items → ArePrintable l
are_printable l best given lattice total utf8 short is total_is best_is marked nodes_are marks_are = record {
  each = λ i n at. nodes_appear l.dictionaries.now l.text.now lattice.nodes.items utf8 short marked.nodes i n (ap (λ (ns : List LatticeNode). slice_get ns i) (sym nodes_are) ∙ at);
  best_low = best_is_low l.dictionaries.now l.text.now best l.best utf8 short is (best_is ∙ total_is);
  marks = ap length marks_are ∙ marked.on_best.long ∙ ap length (sym nodes_are);
}

pub lattice_printed : {E : Type 0} (r : Result (Unit {0}) E) (f : LatticeFormat) (o : Overlay) (line : List ℕ) (best given : List Word) (lattice : MarkedLattice) (nodes : List LatticeNode) (on_best : List Bool) (at total : ℤ) (old new : List ℕ)
    → IsBestPathOver o line best → total ≡ cost_over o best → at ≡ total → given ≡ best → IsMarkedOver o line given lattice → nodes ≡ lattice.nodes.items → on_best ≡ lattice.on_best.items
    → OnOk r (GrowsBy (IsFormattedLattice f o line at nodes on_best) old new) → OnOk r (GrowsBy (PrintsLattice f o line) old new)
lattice_printed (Err e) f o line best given lattice nodes on_best at total old new is total_is at_is given_is marked nodes_are marks_are h = tt
lattice_printed (Ok x) f o line best given lattice nodes on_best at total old new is total_is at_is given_is marked nodes_are marks_are (text, sheet, grown) =
    let a = subst (λ (z : ℤ). IsFormattedLattice f o line z nodes on_best text) (at_is ∙ total_is) sheet in
    let b = subst (λ (ns : List LatticeNode). IsFormattedLattice f o line (cost_over o best) ns on_best text) nodes_are a in
    let c = subst (λ (bs : List Bool). IsFormattedLattice f o line (cost_over o best) lattice.nodes.items bs text) marks_are b in
    (text, record { best = best; lattice = lattice; is_best = is; is_lattice = subst (λ (ws : List Word). IsMarkedOver o line ws lattice) given_is marked; is_sheet = c }, grown)
