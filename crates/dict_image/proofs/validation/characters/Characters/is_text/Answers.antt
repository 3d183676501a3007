use Rattle.std.proofs.Common.{sym, ◌∙◌, leb-true, arith}
use Rattle.dict_image.proofs.StretchLemmas.{text_iff_cut}
use Rattle.dict_image.proofs.validation.characters.Characters.is_text.Goals.{then-end-to, else-end-to}
use Rattle.dict_image.proofs.validation.characters.Characters.is_text.Goals as goal

pub returns-then-is_stretch_end : goal.returns-then-is_stretch_end
returns-then-is_stretch_end c =
    let e = c.run_end-to.ensures in
    let to = c.run_end-to.result in
    let apart = c.if-start-end.false in
    let forward = c.requires.forward in
    let iff = text_iff_cut c.args.self.now e.from to c.args.start c.args.end e.stretch e.following e.before (omega (arith, apart, forward)) c.requires.within in
    let holds = c.if-is_stretch_end.true in
    elim c.if-end-to.branch [
      | then-end-to w ↦
          let start = w.is_stretch_end.ensures.0 (sym w.value-is ∙ holds) in
          (λ t. iff.1 (w.if-end-to.true, start, c.is_stretch_end-then-is_stretch_end.ensures.0 t), λ text. c.is_stretch_end-then-is_stretch_end.ensures.1 (iff.0 text).2)
      | else-end-to w ↦ absurd (let fits = leb-true c.args.end to (sym w.value-is ∙ holds) in let past = w.if-end-to.false in omega (arith, fits, past))
    ]

pub returns-else-is_stretch_end : goal.returns-else-is_stretch_end
returns-else-is_stretch_end c =
    let e = c.run_end-to.ensures in
    let to = c.run_end-to.result in
    let apart = c.if-start-end.false in
    let forward = c.requires.forward in
    let iff = text_iff_cut c.args.self.now e.from to c.args.start c.args.end e.stretch e.following e.before (omega (arith, apart, forward)) c.requires.within in (
      λ t. absurd (cc),
      λ text. elim c.if-end-to.branch [
        | then-end-to w ↦ w.value-is ∙ w.is_stretch_end.ensures.1 (iff.0 text).1
        | else-end-to w ↦ absurd (let fits = (iff.0 text).0 in let past = w.if-end-to.false in omega (arith, fits, past))
      ],
    )
