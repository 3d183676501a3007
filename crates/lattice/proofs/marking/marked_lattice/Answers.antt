use Rattle.std.proofs.Common.{sym, subst}
use Rattle.viterbi.proofs.OnPathLemmas.{lattice_by_place, path_rises}
use Rattle.viterbi.specs.Nodes.OnPath.{AreByPlace}
use Rattle.mj_model.specs.Words.{words}
use Rattle.std.specs.Prelude.{length}
use Rattle.word_lookup.proofs.DictionaryLaws.{searchable}
use Rattle.word_lookup.specs.Overlays.{overlay_of}
use Rattle.lattice.proofs.marking.marked_lattice.Goals as goal

pub mark_nodes_on_path-requires : goal.mark_nodes_on_path-requires
mark_nodes_on_path-requires c =
    let d = c.args.dictionaries.now in
    let text = c.args.text.now in
    let best = c.requires.best in
    record {
      nodes = subst AreByPlace (sym c.deref.ensures.value) (lattice_by_place (words (overlay_of d) text) (length text) c.in_ok-nodes.nodes.items c.in_ok-nodes.ensures.words);
      path = path_rises (words (overlay_of d) text) (length text) (searchable d text c.utf8.text c.requires.short).source.are c.args.best.now 0 best.to best.path.chain;
    }
