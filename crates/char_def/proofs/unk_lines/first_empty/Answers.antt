use Rattle.std.proofs.Common.{◌≡◌, ◌∙◌, ℕ, sym, ap, arith, ◌==◌, length, vec_len}
use Rattle.std.specs.declared.alloc.Global.{Global}
use Rattle.std.specs.declared.vec.Vec.{Vec}
use Rattle.mj_model.specs.declared.entry.Record.{Record}
use Rattle.char_def.proofs.UnkLemmas.{first_is, no_list}
use Rattle.char_def.proofs.unk_lines.first_empty.Goals as goal

pub returns-then-is_empty-clause-first : goal.returns-then-is_empty-clause-first
returns-then-is_empty-clause-first c =
    first_is c.args.lists.now c.loop-category.category c.index-lists-category.result (omega arith) c.loop-category.invariant
    (λ h. ap (λ (list : Vec Record Global). length list.items == 0) (sym c.index-lists-category.is)
    ∙ (let e : length c.index-lists-category.result.items ≡ vec_len c.index-lists-category.result = omega (arith, c.index-lists-category.result.ok) in ap (λ (n : ℕ). n == 0) e)
    ∙ sym c.is_empty.ensures ∙ c.if-is_empty.true)

pub returns-clause-first : goal.returns-clause-first
returns-clause-first c = no_list c.args.lists.now c.loop-category.category (omega arith) c.loop-category.invariant
