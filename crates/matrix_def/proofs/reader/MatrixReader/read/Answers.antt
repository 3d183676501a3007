use Rattle.std.proofs.Common.{ℕ, List, [], ◌∷◌, ◌++◌, sym, ap, subst, ◌∙◌, append_assoc}
use Rattle.std.specs.Prelude.{IfOk}
use Rattle.mj_model.specs.Bytes.{line_feed}
use Rattle.lex_source.proofs.SplitLemmas.{cut_parts}
use Rattle.matrix_def.specs.Reading.{HasRead}
use Rattle.matrix_def.proofs.ReadingLemmas.{parts_joined, piece_cut}
use Rattle.matrix_def.proofs.reader.MatrixReader.read.Goals as goal

pub read_to_end-requires : goal.read_to_end-requires
read_to_end-requires c = (cut_parts line_feed c.loop-part.rest.now c.in-Some.part.now c.in-Some.following.now c.in-Some.ensures).1

pub loop-part-preserved : goal.loop-part-preserved
loop-part-preserved c =
    let part : List ℕ = c.in-Some.part.now in
    let cut = cut_parts line_feed c.loop-part.rest.now part c.in-Some.following.now c.in-Some.ensures in
    let done : List ℕ = c.loop-part.invariant.0 in (
      (done ++ part) ++ line_feed ∷ [],
      piece_cut c.args.piece.now done c.loop-part.rest.now part c.in-Some.following.now c.loop-part.invariant.1 cut.0,
      λ bytes h. subst (λ (bs : List ℕ). HasRead bs c.in_ok-reader.reader) (parts_joined bytes done part) (c.in_ok-reader.ensures (bytes ++ done) (c.loop-part.invariant.2 bytes h)),
    )

pub returns : goal.returns
returns c = record {
  read = λ bytes h.
      let done : List ℕ = c.loop-part.invariant.0 in
      subst (λ (bs : List ℕ). IfOk c.read_unfinished.result (HasRead bs))
      (append_assoc bytes done c.loop-part.rest.now ∙ ap (λ (bs : List ℕ). bytes ++ bs) (sym c.loop-part.invariant.1))
      (c.read_unfinished.ensures (bytes ++ done) (c.loop-part.invariant.2 bytes h));
}
