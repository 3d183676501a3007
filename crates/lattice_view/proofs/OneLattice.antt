-- A line prints one text as its lattice: it has one best path and one list of nodes, and each node
-- prints one text.
use Rattle.std.proofs.Common.{◌≡◌, ℕ, ◌+◌, List, [], ◌∷◌, ◌++◌, Bool, true, false, length, refl, sym, ap, ◌∙◌, subst, arith, slice_get}
use Rattle.std.specs.Prelude.{ℤ, Ok, Err, unwrap_or}
use Rattle.mj_model.specs.declared.word.Word.{Word}
use Rattle.mj_model.specs.Printed.{feature_of}
use Rattle.mj_model.specs.Tables.{Overlay}
use Rattle.mj_model.proofs.ReadingLemmas.{fields_are_one}
use Rattle.mj_model.specs.BestOver.{cost_over}
use Rattle.mj_model.specs.Laws.{HasWords}
use Rattle.mj_model.specs.Words.{words}
use Rattle.mj_model.proofs.ReversedChainLemmas.{best_is_one}
use Rattle.mj_model.proofs.PlaceWords.{words_keep_places}
use Rattle.line_stream.specs.declared.line_fault.LineFault.TheVariants.{TooLong, NotUtf8}
use Rattle.lattice.specs.TextOver.{text_over}
use Rattle.viterbi.specs.declared.nodes.lattice_node.LatticeNode.{LatticeNode}
use Rattle.viterbi.specs.Nodes.OnPath.{AreOnPath}
use Rattle.lattice_view.specs.declared.lattice_printer.format.LatticeForm.{LatticeForm}
use Rattle.lattice_view.specs.declared.lattice_printer.format.LatticeForm.TheVariants.{Tsv, Dot}
use Rattle.lattice_view.specs.declared.lattice_printer.format.LatticeFormat.{LatticeFormat}
use Rattle.lattice_view.specs.LatticePrinter.Dot.{dot_word}
use Rattle.lattice_view.specs.LatticePrinter.MarkedNodes.{Marked, is_within, lost}
use Rattle.lattice_view.specs.LatticePrinter.OneLattice.{HasOneLattice}
use Rattle.lattice_view.specs.LatticePrinter.PrintedLattices.{PrintsLattice}
use Rattle.lattice_view.specs.LatticePrinter.FormattedLattices.{IsFormattedLattice, PrintsIf, PrintsIn, PrintsWithin, PrintsNodes, head, tail}
use Rattle.lattice_view.proofs.OneNodes.{one_marks, one_nodes}

-- ---- the text of nodes

one_shown : (form : LatticeForm) (o : Overlay) (line : List ℕ) (best : ℤ) (m : Marked) (x y : List ℕ) → PrintsIn form o line best m x → PrintsIn form o line best m y → y ≡ x
one_shown Tsv o line best m x y h k = k ∙ sym h
one_shown Dot o line best m x y h k =
    k.2 ∙ ap (λ (fields : List (List ℕ)). dot_word line best m (unwrap_or (slice_get fields 0) [])) (fields_are_one (feature_of o m.node.word.origin) h.0 k.0 h.1 k.1) ∙ sym h.2

one_if : (b : Bool) (Shows : List ℕ → Type 0) (x y : List ℕ) → (Shows x → Shows y → y ≡ x) → PrintsIf b Shows x → PrintsIf b Shows y → y ≡ x
one_if true Shows x y one h k = one h k
one_if false Shows x y one h k = k ∙ sym h

one_near : (f : LatticeFormat) (o : Overlay) (line : List ℕ) (best : ℤ) (m : Marked) (x y : List ℕ) → PrintsWithin f o line best m x → PrintsWithin f o line best m y → y ≡ x
one_near f o line best m x y h k = one_if (is_within f.within (lost best m.node)) (PrintsIn f.form o line best m) x y (one_shown f.form o line best m x y) h k

module _ (Shows : Marked → List ℕ → Type 0) (one : (m : Marked) (x y : List ℕ) → Shows m x → Shows m y → y ≡ x) where
  one_of_nodes : (number : ℕ) (nodes : List LatticeNode) (on_best : List Bool) (x y : List ℕ) → PrintsNodes Shows number nodes on_best x → PrintsNodes Shows number nodes on_best y → y ≡ x
  one_of_nodes number [] on_best x y h k = k ∙ sym h
  one_of_nodes number (n ∷ ns) [] x y h k = absurd h
  one_of_nodes number (n ∷ ns) (b ∷ bs) x y h k =
      let first = one (record { number = number; node = n; is_best = b }) h.0 k.0 h.2 k.2 in
      let more = one_of_nodes (number + 1) ns bs h.1 k.1 h.3 k.3 in
      k.4 ∙ (λ i. first i ++ more i) ∙ sym h.4

one_sheet : (f : LatticeFormat) (o : Overlay) (line : List ℕ) (best : ℤ) (nodes : List LatticeNode) (on_best : List Bool) (x y : List ℕ)
    → IsFormattedLattice f o line best nodes on_best x → IsFormattedLattice f o line best nodes on_best y → y ≡ x
one_sheet f o line best nodes on_best x y h k =
    let words = one_of_nodes (PrintsWithin f o line best) (one_near f o line best) 0 nodes on_best h.words k.words h.of_words k.of_words in
    k.is ∙ ap (λ (text : List ℕ). head f.form line ++ (text ++ tail f.form)) words ∙ sym h.is

-- ---- the text of a line

one_print : (f : LatticeFormat) (o : Overlay) (line x y : List ℕ) → HasWords o → PrintsLattice f o line x → PrintsLattice f o line y → y ≡ x
one_print f o line x y has h k =
    let are = (words_keep_places o line has).are in
    let t = text_over o line in
    let best : k.best ≡ h.best = best_is_one (words o line) o.system.connection (length line) are k.best h.best k.is_best h.is_best in
    let a = h.is_lattice.nodes in
    let b = k.is_lattice.nodes in
    let nodes : k.lattice.nodes.items ≡ h.lattice.nodes.items =
    one_nodes t are k.lattice.nodes.items h.lattice.nodes.items b.words a.words b.forward_costs a.forward_costs b.through a.through in
    let on : AreOnPath h.lattice.nodes.items h.best k.lattice.on_best.items =
    subst (λ (ns : List LatticeNode). AreOnPath ns h.best k.lattice.on_best.items) nodes
    (subst (λ (ws : List Word). AreOnPath k.lattice.nodes.items ws k.lattice.on_best.items) best k.is_lattice.on_best) in
    let marks : k.lattice.on_best.items ≡ h.lattice.on_best.items = one_marks h.lattice.nodes.items h.best k.lattice.on_best.items h.lattice.on_best.items on h.is_lattice.on_best in
    let over = subst (λ (ws : List Word). IsFormattedLattice f o line (cost_over o ws) k.lattice.nodes.items k.lattice.on_best.items y) best k.is_sheet in
    let of_nodes = subst (λ (ns : List LatticeNode). IsFormattedLattice f o line (cost_over o h.best) ns k.lattice.on_best.items y) nodes over in
    let sheet = subst (λ (bs : List Bool). IsFormattedLattice f o line (cost_over o h.best) h.lattice.nodes.items bs y) marks of_nodes in one_sheet f o line (cost_over o h.best) h.lattice.nodes.items h.lattice.on_best.items x y h.is_sheet sheet

pub one_lattice : HasOneLattice
one_lattice f o line has (Ok x) (Ok y) h k = ap Ok (one_print f o line x y has h.1 k.1)
one_lattice f o line has (Ok x) (Err TooLong) h k = absurd (omega (arith, h.0.0, k))
one_lattice f o line has (Ok x) (Err NotUtf8) h k = absurd (k.1 h.0.1)
one_lattice f o line has (Err TooLong) (Ok y) h k = absurd (omega (arith, h, k.0.0))
one_lattice f o line has (Err TooLong) (Err TooLong) h k = refl
one_lattice f o line has (Err TooLong) (Err NotUtf8) h k = absurd (omega (arith, h, k.0))
one_lattice f o line has (Err NotUtf8) (Ok y) h k = absurd (h.1 k.0.1)
one_lattice f o line has (Err NotUtf8) (Err TooLong) h k = absurd (omega (arith, h.0, k))
one_lattice f o line has (Err NotUtf8) (Err NotUtf8) h k = refl
