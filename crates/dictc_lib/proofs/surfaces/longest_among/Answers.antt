use Rattle.std.proofs.Common.{◌≡◌, ℕ, List, [], ◌∷◌, take, Some, sym, ap, subst}
use Rattle.mj_model.specs.Lexicon.{row_of, rows_of}
use Rattle.dictc_lib.specs.declared.surfaces.Surface.{Surface}
use Rattle.dictc_lib.specs.Surfaces.{IsLongerOf, IsLongestIn, surface_of, surfaces_of}
use Rattle.dictc_lib.proofs.SurfaceLemmas.{longest_of_both, longest_of_one, surfaces_with}
use Rattle.dictc_lib.proofs.surfaces.longest_among.Goals as goal

pub loop-record-preserved : goal.loop-record-preserved
loop-record-preserved c =
    let number = c.args.number in
    let records = c.args.records.now in
    let i = c.loop-record.record-index in
    let next = c.record-item.result in
    let longer = c.longer_of-longest.result in
    let its : Surface = surface_of number (row_of next) in
    let reported : Surface = record { bytes = c.len.result; lexicon = number; line = next.line } in
    let same : reported ≡ its = ap (λ (bytes : ℕ). record { bytes = bytes; lexicon = number; line = next.line }) c.len.ensures in
    let is = subst (λ (surface : Surface). IsLongerOf c.loop-record.longest (Some surface) longer) same c.longer_of-longest.ensures in
    subst (λ (all : List Surface). IsLongestIn all longer) (sym (surfaces_with number records i next c.loop-record-test.true c.record-item.is))
    (longest_of_both (surfaces_of number (rows_of (take i records))) (its ∷ []) c.loop-record.longest (Some its) longer c.loop-record.invariant (longest_of_one its) is)
