-- `as_slice`: a `&` to the value shows its pointer and its count, and holds what a `&` to the bytes does.
use Rattle.std.proofs.Common.{ℕ, ◌+◌, ◌*◌, ◌^◌, ◌<◌, List, [], ◌∷◌, length, refl, ap, subst, arith}
use Rattle.std.proofs.raw_atomic.Walks.{proved}
use Rattle.std_alloc.proofs.Words.{pointer_in, pointer_out, word_in, word_out}
use Rattle.image_format.specs.contracts.borrowed.borrowed_bytes.BorrowedBytes as borrowed
use Rattle.image_format.specs.contracts.borrowed.borrowed_bytes.BorrowedBytes.as_slice as this
use Rattle.image_format.proofs.BorrowedShown.{Words, fields_of, shows_at, shows_len}
use Rattle.image_format.proofs.borrowed.borrowed_bytes.BorrowedBytes.as_slice.Statement.{statement}
use Rattle.image_format.proofs.borrowed.borrowed_bytes.BorrowedBytes.as_slice.Code as code
use mir.Syntax.{named}
use mir.Val.{Val, vptr}
use base.Fml.{fhide, flft, ftrue}
use contract.Monad.{fact}
use contract.Running.{tables}
use types.Kit.{raw, ‵, ◌⊛◌, at_ret, ◌$◌, ◌∵◌, !, qed, done, drop, feq_i, fjoin, flt_i, flt_l, fsplit, join, keep, move, split, suffices, use1}
use types.Run.{and_then, blocks, enter, exec, first, fld, load, look, no_more, of_opd, returns, stop}
use types.ByLocal.{alloc_all, env, free_all, get, look_at, pass_all, sets, sets_last, through}
use types.Part.{agg}
use denote.Builtin.{RefOf}
use denote.Exit.{yes}
use denote.Memory.{hidden_shr}
use denote.Opens.{hide, unhide}
use denote.RawPtr.{InBlock, block_of, block_ptr, count_of}
use denote.Ref.{ShrRef, shr_Tells, shr_vals}
use denote.Signature.{plain}
use denote.Slice.{slice_val}
use denote.Steps.{heard, nothing}
use denote.Struct.Lending.{in_block_says, lent_out}
use denote.Triple.Walked.{Goes-dropped, Stays, ends_at, says, stay_dropped, walk_of}

abbrev spent : Stays this.ended.signature.params this.ended.kept
spent = (stay_dropped (RefOf (0 ∷ []) tt (plain (λ _. borrowed.the_row)) (λ _. tt)) yes, tt)

pub as_slice_spec : {M : Type 1} → statement M
as_slice_spec 𝓤 𝓛 𝓜 𝓡 wired =
    let c = this.clauses 𝓛 𝓜.mem 𝓡.returns in let W = walk_of 𝓛 this.ended spent c in let 𝓣 = tables 𝓤 𝓛.H 𝓜 𝓡 𝓡.env in
    proved 𝓛 this.ended spent c 𝓜 𝓡 (Goes-dropped 𝓛 1 (RefOf (0 ∷ []) tt (plain (λ _. borrowed.the_row)) (λ _. tt)) yes (λ κs x w. refl), tt)
    this.Key.name code.function (code.unfolded 𝓤 𝓛.H 𝓜 𝓡 wired)
    (λ κs. (shr_vals, tt)) (λ κs. (shr_Tells (named 0) κs.0 borrowed.the_row, tt)) (λ κs qs bounds a g are.
    let κ = κs.0 in let b = a.0.ref_ptr.0 in let o = a.0.ref_ptr.1 in let d : borrowed.the_row.Denot = a.0.now in let n = d.len in let at : ℕ × ℕ = (block_of d.at, count_of d.at) in
    let y : W.Ghost = ((κs, qs, bounds, a, (shr_vals a.0, tt)), g) in
    qed 𝓛 (((‵ (flft κ qs.0) ⊛ ‵ ftrue) ⊛ ‵ ((ShrRef (named 0) κ borrowed.the_row).own_val a.0 (vptr b o ∷ [])) ⊛ ‵ ftrue) ∷ ‵ ftrue ∷ []) ∵
    split ! $ split ! $ move ! (2 ∷ []) $ split ! $ keep ! (0 ∷ 2 ∷ []) $
    enter ! _ _ _ _ _ $ alloc_all ! (λ l. pass_all ! refl ((tt, tt), tt) $
    fsplit ! $ drop ! $
    use1 𝓛 (‵ (hidden_shr Words κ (fields_of d) b o) ⊛ ‵ (fhide (borrowed.the_lent d (block_ptr b o) κ))) (lent_out 𝓛 borrowed.struct borrowed.the_codes borrowed.the_heap borrowed.the_lent κ d b o) $ split ! $ move ! (1 ∷ []) $
    unhide ! $ fsplit ! $ flt_l ! (λ small. fsplit ! $ use1 𝓛 (raw (fact 𝓤 (InBlock d.at))) (in_block_says 𝓛 d.at) $ heard ! (InBlock d.at) (λ inb. fsplit ! $ drop ! $ hide ! $
    -- [the bytes; the fields; the token; the locals]
    move ! (1 ∷ 2 ∷ []) $ first ! $ blocks ! $
    pointer_in ! tt d.at inb b (o + 0) (shows_at 𝓛 κ b o d) (λ q.
    sets ! (of_opd ! (load ! (through ! refl (fld ! refl (stop !))) (look ! 1 refl))) refl (tt, tt) $
    pointer_out ! tt d.at inb b (o + 0) $ move ! (1 ∷ 0 ∷ []) $
    word_in ! tt n b (o + 8) (shows_len 𝓛 κ b o d) (λ q' fits.
    sets ! (of_opd ! (load ! (through ! refl (fld ! refl (stop !))) (look ! 1 refl))) refl (tt, record { fits = fits }) $
    word_out ! tt n b (o + 8) fits $
    sets_last ! (agg ! (and_then ! (get ! refl) (and_then ! (get ! refl) (no_more !)))) refl (tt, (tt, (record { fits = fits }, tt))) $
    exec ! 𝓣.C 𝓣.Λ (env code.Mir.locals l) code.Mir.t-2 (at_ret _ (W.post y)) $
    sets ! (of_opd ! (get ! refl)) refl (tt, (tt, (record { fits = fits }, tt))) $ returns ! (look_at ! 0 refl) $ free_all ! refl $
    keep ! (2 ∷ 0 ∷ []) $
    suffices ! _ (ends_at 𝓛 this.ended spent c y (slice_val at n) (record { ref_ptr = at; now = d.bytes }) (tt, tt) (tt, tt)) $ says ! refl $
    flt_i ! (length d.bytes * 1) (2 ^ 63) (subst (λ (k : ℕ). k * 1 < 2 ^ 63) d.counted (omega arith)) $ flt_i ! (length d.bytes) (2 ^ 64) (subst (λ (k : ℕ). k < 2 ^ 64) d.counted fits) $ fjoin ! $
    feq_i ! (List Val) (slice_val at n ∷ []) (slice_val at (length d.bytes) ∷ []) (ap (λ (k : ℕ). slice_val at k ∷ []) d.counted) $ fjoin ! $ fjoin ! $
    nothing ! $ nothing ! $ fjoin ! $ move ! (2 ∷ []) $ nothing ! $ move ! (1 ∷ 0 ∷ []) $ join ! $ done !))))))
