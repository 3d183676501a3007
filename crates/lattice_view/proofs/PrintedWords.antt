-- The text appended for one node, and for a lattice as a whole.
use Rattle.std.proofs.Common.{◌≡◌, ℕ, List, [], ◌++◌, Bool, Result, Ok, Err, ap, ◌∙◌, refl, subst, append_assoc, slice_get}
use Rattle.std.specs.Prelude.{ℤ, OnOk, unwrap_or}
use Rattle.mj_model.specs.Fields.{AreFields}
use Rattle.mj_model.specs.Lists.{GrowsBy}
use Rattle.mj_model.specs.Printed.{feature_of}
use Rattle.mj_model.specs.Tables.{Overlay}
use Rattle.lex_source.specs.Results.{GrowsByField}
use Rattle.viterbi.specs.declared.nodes.lattice_node.LatticeNode.{LatticeNode}
use Rattle.lattice_view.specs.LatticePrinter.Dot.{PrintsWord, box_costs, box_start, dot_word}
use Rattle.lattice_view.specs.LatticePrinter.Escapes.{label_text}
use Rattle.lattice_view.specs.LatticePrinter.LatticesOfLines.{IsMarkedAt, overlay_of_lattice}
use Rattle.lattice_view.specs.LatticePrinter.MarkedNodes.{Marked}
use Rattle.lattice_view.specs.LatticePrinter.NodesInLine.{marked_of, overlay_in}
use Rattle.lattice_view.specs.LatticePrinter.FormattedLattices.{IsFormattedLattice, PrintsWithin, PrintsNodes, head, tail}
use Rattle.lattice_view.specs.declared.lattice_printer.format.LatticeFormat.{LatticeFormat}
use Rattle.lattice_view.specs.declared.lattice_printer.marked_node.MarkedNode.{MarkedNode}
use Rattle.lattice_view.specs.declared.lattice_printer.formatted_lattice.LineLattice.{LineLattice}

pub three : (old first second new a b c : List ℕ) → first ≡ old ++ a → second ≡ first ++ b → new ≡ second ++ c → new ≡ old ++ (a ++ (b ++ c))
three old first second new a b c one two more =
    more ∙ ap (λ (text : List ℕ). text ++ c) (two ∙ ap (λ (text : List ℕ). text ++ b) one ∙ append_assoc old a b) ∙ append_assoc old (a ++ b) c ∙ ap (λ (text : List ℕ). old ++ text) (append_assoc a b c)

pub word_shown : {E : Type 0} (r : Result (Unit {0}) E) (o : Overlay) (line : List ℕ) (best : ℤ) (m : Marked) (feature none field held old first second new : List ℕ) (found : Bool)
    → none ≡ [] → feature ≡ feature_of o m.node.word.origin → GrowsByField feature 0 found none field → held ≡ field
    → first ≡ old ++ box_start line m → second ≡ first ++ label_text held → OnOk r (new ≡ second ++ box_costs best m) → OnOk r (GrowsBy (PrintsWord o line best m) old new)
word_shown (Err e) o line best m feature none field held old first second new found none_is feature_is grown held_is a b c = tt
word_shown (Ok x) o line best m feature none field held old first second new found none_is feature_is (fields, are, there, grown) held_is a b c =
    let f = unwrap_or (slice_get fields 0) [] in
    let is : held ≡ f = held_is ∙ grown ∙ ap (λ (text : List ℕ). text ++ f) none_is in (
      dot_word line best m f,
      (fields, subst (λ (text : List ℕ). AreFields text fields) feature_is are, refl),
      three old first second new (box_start line m) (label_text held) (box_costs best m) a b c ∙ ap (λ (text : List ℕ). old ++ dot_word line best m text) is,
    )

pub shown_there : (f : LatticeFormat) (l : LineLattice) (number : ℕ) (m : MarkedNode) (old new : List ℕ) → IsMarkedAt l number m → GrowsBy (PrintsWithin f (overlay_in m) m.text.now m.best (marked_of m)) old new
    → GrowsBy (PrintsWithin f (overlay_of_lattice l) l.text.now l.best (record { number = number; node = m.node.now; is_best = m.is_best })) old new
shown_there f l number m old new at h =
    let a = subst (λ (o : Overlay). GrowsBy (PrintsWithin f o m.text.now m.best (marked_of m)) old new) at.overlay_is h in
    let b = subst (λ (line : List ℕ). GrowsBy (PrintsWithin f (overlay_of_lattice l) line m.best (marked_of m)) old new) at.text_is a in
    let c = subst (λ (best : ℤ). GrowsBy (PrintsWithin f (overlay_of_lattice l) l.text.now best (marked_of m)) old new) at.best_is b in
    subst (λ (i : ℕ). GrowsBy (PrintsWithin f (overlay_of_lattice l) l.text.now l.best (record { number = i; node = m.node.now; is_best = m.is_best })) old new) at.number_is c

pub sheet_shown : {E : Type 0} (r : Result (Unit {0}) E) (f : LatticeFormat) (o : Overlay) (line : List ℕ) (best : ℤ) (nodes : List LatticeNode) (on_best : List Bool) (old first second new : List ℕ)
    → first ≡ old ++ head f.form line → GrowsBy (PrintsNodes (PrintsWithin f o line best) 0 nodes on_best) first second → OnOk r (new ≡ second ++ tail f.form) → OnOk r (GrowsBy (IsFormattedLattice f o line best nodes on_best) old new)
sheet_shown (Err e) f o line best nodes on_best old first second new a b c = tt
sheet_shown (Ok x) f o line best nodes on_best old first second new a (words, shown, b) c =
    (head f.form line ++ (words ++ tail f.form), record { words = words; of_words = shown; is = refl }, three old first second new (head f.form line) words (tail f.form) a b c)
