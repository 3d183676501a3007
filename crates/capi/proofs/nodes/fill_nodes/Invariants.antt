use Rattle.std.specs.Prelude.{drop}
use Rattle.capi.specs.Nodes.{c_nodes}
use Rattle.capi.proofs.FillLemmas.{IsFilling}
use Rattle.word_lookup.specs.Overlays.{overlay_of}
use Rattle.capi.proofs.nodes.fill_nodes.Given as goal

abbrev pub invariant-loop-i : goal.invariant-loop-i
invariant-loop-i l = IsFilling (drop l.fn.from (c_nodes (overlay_of l.last.dictionaries) l.last.text.now l.nodes l.on_best)) l.i l.initial.out l.out
