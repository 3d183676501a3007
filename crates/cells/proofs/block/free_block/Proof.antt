-- `free_block` turns the slots of the row into a block, and frees it with the token. Assumes
-- `Logic`.
use Rattle.std.proofs.Common.{◌≡◌, ℕ, ◌*◌, ◌<◌, ◌^◌, List, [], ◌∷◌, ◌++◌, refl, sym, ap, ◌∙◌, subst, arith, w64}
use lib.Dec.{T as Holds}
use lib.ListN.{length}
use mir.Syntax.{Ty, Fn, Args, a_type, dcons, dnil, ty_unit, ty_array}
use mir.Val.{Val, vint, vptr, vunit, has_ty, WT}
use mir.MapTy.{inst_fn}
use base.Logic.{SProp, id⊢}
use base.Fml.{Lft, Share, ftrue, froom, flft, Incl-trans}
use prog.Memory.{align, capped}
use prog.Capped.{capped_fits}
use prog.Wp.{Env, WpFn}
use contract.BorrowLft.{◌⊑◌}
use contract.Monad.{fact}
use contract.Running.{tables}
use types.Kit.{‵, raw, ◌⊛◌, given, later, prop, at_ret, ◌$◌, ◌∵◌, !, qed, by, move, keep, drop, use1, use2, use3, split, split3, join, learn, rewrite, regoal, fsplit, fsplit3, fjoin, feq_i, await}
use types.Part.{whole, sub}
use types.Run.{stop, fld, of_opd, bin, size_word, align_word, unit_lit, no_more, and_then, first, blocks, exec, returns, enter}
use types.ByLocal.{alloc_all, pass_all, free_all, look_at, get, get_in, is, sets, lands_as, lands_last, env}
use denote.RattleType.{owns}
use denote.RawPtr.{Ptr}
use denote.Param.{bounded, param as bounded_row}
use denote.Builtin.{RefOf}
use denote.Signature.{Slot, plain, types_at}
use denote.Steps.{nothing, heard}
use denote.Exit.{yes, no}
use denote.Triple.Call.{calls_at, calls_at_last}
use denote.Triple.Walked.{Stays, stay_dropped, walk_of, Goes-dropped}
use Rattle.core.specs.Mem.Slots.{slots_len, slots_ptr, slots_items, slots_filled, slots_counts}
use Rattle.core.proofs.alloc.Calls.{Al, seen, token, Goes-blank, Gives, at_gives, Gives-goes, Gives-Gives}
use Rattle.core.proofs.alloc.Shapes.{after}
use Rattle.core.proofs.atomic.Steps.{fm}
use Rattle.core.proofs.slots.Leases.{uncapped, block_ty, block_size, block_align}
use Rattle.core.proofs.slots.Opens.{row_val, row_had, row_made}
use Rattle.core.proofs.slots.Places.{to_room}
use Rattle.core.proofs.slots.Slots.into_raw_parts.Met as callee
use Rattle.std_alloc.proofs.VecSteps.El.{El, R, elτ, sz}
use Rattle.std_alloc.proofs.vec.Blocks.{el, all}
use Rattle.std_alloc.proofs.vec.Spares.{Row, Into, at_into, Into-goes, Into-gives}
use Rattle.std.proofs.raw_atomic.Walks.{proved_at, leaves}
use Rattle.cells.proofs.TokenSteps.{token_val, mark_reported}
use Rattle.cells.specs.contracts.token.FreeToken as free_token
use Rattle.cells.specs.contracts.block.free_block.{ended, clauses}
use Rattle.cells.specs.contracts.block.free_block.Key.{name as #self}
use Rattle.cells.proofs.block.free_block.Statement.{statement}
use Rattle.cells.proofs.block.free_block.Code as compiled

pub free_block_spec : {M : Type 1} → statement M
free_block_spec 𝓤 𝓛 𝓜 𝓡 wired T A LT LA g d dd met md =
    let H = 𝓛.H in
    let S = ended T A g d dd in
    let c = clauses T A g d dd 𝓛 𝓜.mem 𝓡.returns in
    let args : Args = bounded (a_type ∷ a_type ∷ []) (T, (A, tt)) (dcons d (dcons dd dnil)) in
    let fn : Fn = inst_fn args compiled.function in
    let Z : Al = record { row = A; laws = LA; g = g; d = d; drops = dd } in
    let E : El = record { row = T; laws = LT; al = Z } in
    let to_heap : Slot 3 = RefOf (0 ∷ []) tt (plain (λ _. bounded_row 1 A)) (λ _. tt) in
    let the_row : Slot 3 = plain (λ _. Row E) in
    let the_token : Slot 3 = plain (λ _. free_token.the_row (R E) (bounded_row 1 A) g) in
    let stays : Stays S.signature.params S.kept = (stay_dropped to_heap yes, (stay_dropped the_row no, (stay_dropped the_token no, tt))) in
    let C = (tables 𝓤 H 𝓜 𝓡 𝓡.env).C in
    let Λ = (tables 𝓤 H 𝓜 𝓡 𝓡.env).Λ in
    proved_at 𝓛 S stays c 𝓜 𝓡 (Goes-dropped 𝓛 3 to_heap yes (λ κs x f. refl), (Goes-dropped 𝓛 3 the_row no (λ κs x f. refl), (Goes-blank 𝓛 3 the_token no (λ κs x f. tt), tt))) (#self args) fn (compiled.unfolded 𝓤 H 𝓜 𝓡 wired (T, (A, tt)) d dd) (λ z are.
    let Post : Val → SProp 𝓤 = (walk_of 𝓛 S stays c).post z in
    let a = z.0.3 in
    let vss = z.0.4 in
    let κ : Lft = z.0.0.0 in let κT : Lft = z.0.0.1.0 in let κA : Lft = z.0.0.1.1.0 in
    let q : Share = z.0.1.0 in let qT : Share = z.0.1.1.0 in let qA : Share = z.0.1.1.1.0 in
    let heap = a.0.now in
    let handle = a.0.ref_ptr in
    let r = a.1.0 in
    let k = a.1.1.0 in
    let n : ℕ = slots_len r in
    let size : ℕ = sz E in
    let al : ℕ = capped (align (elτ E)) in
    let τ : Ty = block_ty (el E) n in
    let Asked : Type 0 = (k.start ≡ slots_ptr r) × (k.places ≡ n) × (k.alloc ≡ heap) in
    qed 𝓛 (((‵ (flft κ q) ⊛ ‵ (flft κT qT) ⊛ ‵ (flft κA qA) ⊛ ‵ ftrue) ⊛ ‵ (owns (types_at S.signature.params z.0.0) a vss)) ∷ (raw (fact 𝓤 (κT ⊑ T.lives)) ⊛ raw (fact 𝓤 (κA ⊑ A.lives)) ⊛ raw (fact 𝓤 Asked)) ∷ []) ∵
    move ! (1 ∷ []) $ split3 ! $ heard ! (κT ⊑ T.lives) (λ in_T. heard ! (κA ⊑ A.lives) (λ in_A. heard ! Asked (λ asked.
    split ! $ move ! (1 ∷ []) $ fsplit3 ! $ fsplit ! $ drop ! $ use1 𝓛 (‵ (seen Z κ handle heap)) (id⊢ 𝓤 _) $ move ! (1 ∷ []) $
    row_had (el E) ! r vss.1.0 (λ b o at words fits small. row_made (el E) ! r b o at fits small $
    -- [the row; the handle; the token; the tokens]
    move ! (2 ∷ []) $ fsplit ! $ fsplit ! $ drop ! $
    rewrite ! 0 (λ (u : A.Denot × Ptr × ℕ). ‵ (token Z u.0 (block_ty (el E) u.2) u.1)) (λ i. (asked.2 i, (asked.0 ∙ at) i, asked.1 i)) refl $
    move ! (4 ∷ []) $ split3 ! $ keep ! (5 ∷ 1 ∷ 3 ∷ 6 ∷ 0 ∷ 2 ∷ []) $
    -- [the row; the token of T; the right to free the block; the handle; its token; the token of A]
    let bytes : n * size < 2 ^ 64 = omega arith in
    let typed : WT (row_val b o n) = (tt, (record { fits = fits }, tt)) in
    let w = at_into E 𝓛 𝓜.mem 𝓡.returns κT qT r b o in
    let y = at_gives Z 𝓛 𝓜.mem 𝓡.returns κ q handle heap b o (n * size) al τ in
    regoal ! (λ (us : List Val). prop (WpFn 𝓤 H C Λ fn us Post)) (λ i. are.0.0 i ++ (words i ++ (mark_reported vss.1.1.0 are.1.1.0.0 i ++ []))) refl $
    enter ! C Λ fn (vptr handle.0 handle.1 ∷ row_val b o n ∷ token_val ∷ []) Post $
    alloc_all ! (λ l. pass_all ! refl ((tt, tt), ((tt, typed), ((tt, (tt, tt)), tt))) $
    let En : Env 𝓤 H = env fn.locals l in
    first ! $ blocks ! $ sets ! (of_opd ! (get ! refl)) refl (tt, typed) $
    use2 𝓛 (raw ((Into E 𝓛 𝓜.mem 𝓡.returns).pre w)) (Into-goes E 𝓛 𝓜.mem 𝓡.returns κT qT r b o in_T) $
    calls_at ! (fm 𝓛 𝓜 𝓡) (Into E 𝓛 𝓜.mem 𝓡.returns) (callee.met 𝓤 𝓛 𝓜 𝓡 (compiled.calls-core::slots::Slots::into_raw_parts 𝓡.env wired) T LT) w (and_then ! (get ! refl) (no_more !)) (λ u.
    use1 𝓛 (later (given (u ≡ row_val b o n) (‵ (all E b o (slots_items r) (slots_filled r)) ⊛ ‵ (flft κT qT)))) (Into-gives E 𝓛 𝓜.mem 𝓡.returns κT qT r b o u at) $ await ! tt $ learn ! (λ parts. split ! $
    lands_as ! parts refl (tt, typed) $
    sets ! (of_opd ! (get_in ! (fld ! refl (stop !)) (sub ! 0 refl (whole !)))) refl (tt, tt) $ sets ! (of_opd ! (get_in ! (fld ! refl (stop !)) (sub ! 1 refl (whole !)))) refl (tt, record { fits = fits }) $
    sets ! (of_opd ! (get ! refl)) refl (tt, tt) $
    sets ! (is ! (bin ! (get ! refl) (size_word !) (record { fits = subst (λ (k : ℕ). k < 2 ^ 64) (sym (uncapped n size bytes)) bytes })) (ap (vint w64) (uncapped n size bytes))) refl (tt, record { fits = bytes }) $
    -- [the slots; the token of T; the right to free the block; the handle; its token; the token of
    -- A]
    use1 𝓛 (‵ (froom (ty_array (elτ E) (length (slots_items r))) b o)) (to_room (el E) 𝓛 b (slots_items r) (slots_filled r) o (sym (slots_counts r).1 ∙ (slots_counts r).0)) $
    rewrite ! 0 (λ (m : ℕ). ‵ (froom (ty_array (elτ E) m) b o)) (sym (slots_counts r).0) refl $ use1 𝓛 (‵ (froom τ b o)) (𝓛.laws.room-raw (ty_array (elτ E) n) b o) $
    move ! (3 ∷ 4 ∷ []) $ join ! $ move ! (1 ∷ 3 ∷ 0 ∷ []) $
    use3 𝓛 (raw ((Gives Z 𝓛 𝓜.mem 𝓡.returns).pre y))
    (Gives-goes Z 𝓛 𝓜.mem 𝓡.returns κ q handle heap (Incl-trans z.0.2.0 in_A) b o (n * size) al τ (block_size (el E) n bytes) (block_align (el E) n) bytes (capped_fits (align (elτ E)))) $
    calls_at_last ! (fm 𝓛 𝓜 𝓡) (Gives Z 𝓛 𝓜.mem 𝓡.returns) (met.deallocate dd) y (and_then ! (get ! refl) (and_then ! (get ! refl) (and_then ! (get ! refl) (and_then ! (align_word !) (no_more !))))) (λ v.
    use1 𝓛 (later (given (v ≡ vunit) (‵ (flft κ q)))) (Gives-Gives Z 𝓛 𝓜.mem 𝓡.returns κ q handle heap b o (n * size) al τ v) $ await ! tt $ learn ! (λ e.
    lands_last ! refl (subst (λ (u : Val). Holds (has_ty ty_unit u) × WT u) (sym e) (tt, tt)) $ exec ! C Λ En (after 1 fn.body) (at_ret En Post) $
    sets ! (of_opd ! (unit_lit !)) refl (tt, tt) $ returns ! (look_at ! 0 refl) $ free_all ! refl $
    -- [the tokens of the handle, of T, of A]
    move ! (1 ∷ 2 ∷ []) $ join ! $ move ! (1 ∷ 0 ∷ []) $ join ! $
    nothing ! $ feq_i ! (List Val) (vunit ∷ []) (vunit ∷ []) refl $
    nothing ! $ nothing ! $ fjoin ! $ nothing ! $ fjoin ! $ nothing ! $ fjoin ! $ move ! (3 ∷ 0 ∷ 1 ∷ 2 ∷ []) $
    by ! (leaves 𝓛 S stays c z vunit tt (tt, (tt, (tt, tt))) (tt, (tt, (tt, tt))))))))))))))
