-- `allocate_block` allocates a block, turns it into a row of empty slots, and keeps the token that
-- frees it. Assumes `Logic`.
use Rattle.std.proofs.Common.{◌≡◌, ℕ, ◌*◌, ◌<◌, ◌^◌, Bool, true, false, List, [], ◌∷◌, ◌++◌, replicate, refl, sym, ap, subst, arith, lit<, w64, Ok, Err}
use lib.ListN.{length-replicate}
use mir.Syntax.{Ty, Fn, Body, Args, a_type, dcons, dnil, place, ty_array}
use mir.Val.{Val, vint, vptr, vstruct, vcons, vnil, WT}
use mir.MapTy.{inst_fn}
use base.Logic.{SProp, emp, id⊢}
use base.Fml.{Lft, Share, ftrue, froom, flft, Incl-trans}
use prog.Memory.{align, capped}
use prog.Capped.{capped_fits}
use prog.Wp.{Env, WpFn}
use contract.BorrowLft.{◌⊑◌}
use contract.Monad.{fact, fact_i}
use contract.Running.{tables}
use types.Kit.{Post as After, ‵, raw, ◌⊛◌, some, given, later, prop, settles, at_ret, ◌$◌, ◌∵◌, !, qed, by, move, drop, use0, use1, use2, split, split3, join, pick, learn, regoal, fsplit, fjoin, await}
use types.Part.{whole, agg}
use types.Match.{live, vrt, in_variant}
use types.Run.{stop, fld, lit, of_opd, bin, size_word, align_word, no_more, and_then, first, blocks, switches_on, exec, returns, enter}
use types.ByLocal.{alloc_all, pass_all, free_all, look_at, get, get_in, get_tag, is, sets, sets_last, lands_as, lands_last, env}
use denote.RattleType.{RattleType, owns}
use denote.RawPtr.{block_ptr}
use denote.Param.{bounded, param as bounded_row}
use denote.Builtin.{RefOf, usize}
use denote.Signature.{Slot, plain, types_at, type_at}
use denote.Laws.{Is}
use denote.Steps.{nothing, heard, owned}
use denote.Struct.Struct.{Struct, Struct-Makes}
use denote.Struct.Declared.{shape}
use denote.Struct.Tuple.{Tuple}
use denote.Exit.{yes}
use denote.Triple.Call.{calls_at, calls_at_last}
use denote.Triple.Walked.{Stays, stay_dropped, walk_of, Goes-dropped}
use Rattle.std.specs.Vec.Ownership.{FitsInBlock}
use Rattle.core.specs.contracts.alloc.AllocError as AE
use Rattle.core.proofs.alloc.Calls.{Al, seen, Answer-typed, Takes, at_takes, Answered, Takes-goes, Takes-gives, answers}
use Rattle.core.proofs.alloc.Shapes.{after, head, arm_body}
use Rattle.core.proofs.atomic.Steps.{fm}
use Rattle.core.proofs.slots.Leases.{uncapped, block_ty, block_size, block_align}
use Rattle.core.proofs.slots.Opens.{row_val}
use Rattle.core.proofs.slots.Runs.{of_space}
use Rattle.core.proofs.slots.Slots.from_raw_parts.Met as callee
use Rattle.std_alloc.proofs.Pairs.{pair_of, pair_val}
use Rattle.std_alloc.proofs.ResultValues.{ok_of, err_of}
use Rattle.std_alloc.proofs.VecSteps.El.{El, R, elτ, sz}
use Rattle.std_alloc.proofs.vec.Blocks.{el, all}
use Rattle.std_alloc.proofs.vec.Spares.{Row, From, at_from, Made, from_goes, from_gives}
use Rattle.std.proofs.raw_atomic.Walks.{proved_at, leaves}
use Rattle.core.specs.Mem.Slots.{slots_len}
use Rattle.cells.specs.CellBlock.{IsTokenOf}
use Rattle.cells.proofs.TokenSteps.{token_val, mark_own, mark_made, then_runs, out_of_block}
use Rattle.cells.specs.contracts.token.FreeToken as free_token
use Rattle.cells.specs.contracts.block.allocate_block.{ended, clauses}
use Rattle.cells.specs.contracts.block.allocate_block.Key.{name as #self}
use Rattle.cells.proofs.block.allocate_block.Statement.{statement}
use Rattle.cells.proofs.block.allocate_block.Code as compiled

pub allocate_block_spec : {M : Type 1} → statement M
allocate_block_spec 𝓤 𝓛 𝓜 𝓡 wired T A LT LA g d dd met md =
    let H = 𝓛.H in
    let S = ended T A g d dd in
    let c = clauses T A g d dd 𝓛 𝓜.mem 𝓡.returns in
    let args : Args = bounded (a_type ∷ a_type ∷ []) (T, (A, tt)) (dcons d (dcons dd dnil)) in
    let fn : Fn = inst_fn args compiled.function in
    let to_heap : Slot 4 = RefOf (0 ∷ []) tt (plain (λ _. bounded_row 1 A)) (λ _. tt) in
    let count : Slot 4 = plain (λ _. usize) in
    let to_value : Slot 4 = RefOf (1 ∷ []) tt (plain (λ _. bounded_row 0 T)) (λ _. tt) in
    let stays : Stays S.signature.params S.kept = (stay_dropped to_heap yes, (stay_dropped count yes, (stay_dropped to_value yes, tt))) in
    let C = (tables 𝓤 H 𝓜 𝓡 𝓡.env).C in
    let Λ = (tables 𝓤 H 𝓜 𝓡 𝓡.env).Λ in
    proved_at 𝓛 S stays c 𝓜 𝓡 (Goes-dropped 𝓛 4 to_heap yes (λ κs x f. refl), (Goes-dropped 𝓛 4 count yes (λ κs x f. refl), (Goes-dropped 𝓛 4 to_value yes (λ κs x f. refl), tt))) (#self args) fn (compiled.unfolded 𝓤 H 𝓜 𝓡 wired (T, (A, tt)) d dd) (λ z are.
    let Post : Val → SProp 𝓤 = (walk_of 𝓛 S stays c).post z in
    let a = z.0.3 in
    let vss = z.0.4 in
    let Z : Al = record { row = A; laws = LA; g = g; d = d; drops = dd } in
    let E : El = record { row = T; laws = LT; al = Z } in
    let κ : Lft = z.0.0.0 in let κ₁ : Lft = z.0.0.1.0 in let κT : Lft = z.0.0.1.1.0 in let κA : Lft = z.0.0.1.1.1.0 in
    let q : Share = z.0.1.0 in let q₁ : Share = z.0.1.1.0 in let qT : Share = z.0.1.1.1.0 in let qA : Share = z.0.1.1.1.1.0 in
    let heap = a.0.now in
    let handle = a.0.ref_ptr in
    let n : ℕ = a.1.0 in
    let size : ℕ = sz E in
    let al : ℕ = capped (align (elτ E)) in
    let τ : Ty = block_ty (el E) n in
    let xs : List T.Denot = replicate n a.1.1.0.now in
    let fs : List Bool = replicate n false in
    let long = length-replicate n a.1.1.0.now in
    let fits = are.1.0.1 in
    let Asked : Type 0 = FitsInBlock (R E) n in
    let Two : RattleType = Tuple (Row E ∷ free_token.the_row (R E) (bounded_row 1 A) g ∷ []) in
    let Out : RattleType = type_at S.signature.result z.0.0 in
    qed 𝓛 (((‵ (flft κ q) ⊛ ‵ (flft κ₁ q₁) ⊛ ‵ (flft κT qT) ⊛ ‵ (flft κA qA) ⊛ ‵ ftrue) ⊛ ‵ (owns (types_at S.signature.params z.0.0) a vss)) ∷ (raw (fact 𝓤 (κT ⊑ T.lives)) ⊛ raw (fact 𝓤 (κA ⊑ A.lives)) ⊛ raw (fact 𝓤 Asked)) ∷ []) ∵
    move ! (1 ∷ []) $ split3 ! $ heard ! (κT ⊑ T.lives) (λ in_T. heard ! (κA ⊑ A.lives) (λ in_A. heard ! Asked (λ asked.
    let small : n * size < 2 ^ 63 = asked.0 in
    let bytes : n * size < 2 ^ 64 = omega arith in
    split ! $ move ! (1 ∷ []) $ fsplit ! $ fsplit ! $ drop ! $ move ! (1 ∷ []) $ drop ! $ use1 𝓛 (‵ (seen Z κ handle heap)) (id⊢ 𝓤 _) $
    move ! (1 ∷ []) $ split3 ! $ move ! (2 ∷ []) $ split ! $ move ! (4 ∷ 2 ∷ 0 ∷ 1 ∷ 3 ∷ []) $
    -- [the handle; its token; the token of T; the token of A; the other token]
    regoal ! (λ (us : List Val). prop (WpFn 𝓤 H C Λ fn us Post)) (λ i. are.0.0 i ++ (are.1.0.0 i ++ (are.1.1.0.0 i ++ []))) refl $
    enter ! C Λ fn (vptr handle.0 handle.1 ∷ vint w64 n ∷ vptr a.1.1.0.ref_ptr.0 a.1.1.0.ref_ptr.1 ∷ []) Post $
    alloc_all ! (λ l. pass_all ! refl ((tt, tt), ((tt, record { fits = fits }), ((tt, tt), tt))) $
    let En : Env 𝓤 H = env fn.locals l in
    let both : Body = head (after 2 fn.body) in
    let Then : After 𝓤 H = then_runs 𝓛 C Λ En (after 3 fn.body) (at_ret En Post) in
    let y = at_takes Z 𝓛 𝓜.mem 𝓡.returns κ q handle heap (n * size) al τ in
    sets ! (is ! (bin ! (get ! refl) (size_word !) (record { fits = subst (λ (k : ℕ). k < 2 ^ 64) (sym (uncapped n size bytes)) bytes })) (ap (vint w64) (uncapped n size bytes))) refl (tt, record { fits = bytes }) $
    use2 𝓛 (raw ((Takes Z 𝓛 𝓜.mem 𝓡.returns).pre y))
    (Takes-goes Z 𝓛 𝓜.mem 𝓡.returns κ q handle heap (Incl-trans z.0.2.0 in_A) (n * size) al τ (block_size (el E) n bytes) (block_align (el E) n) bytes (capped_fits (align (elτ E)))) $
    calls_at ! (fm 𝓛 𝓜 𝓡) (Takes Z 𝓛 𝓜.mem 𝓡.returns) (met.allocate dd) y (and_then ! (get ! refl) (and_then ! (get ! refl) (and_then ! (align_word !) (no_more !)))) (λ v.
    use1 𝓛 (later (raw (Answered Z 𝓛 𝓜.mem 𝓡.returns heap τ v) ⊛ ‵ (flft κ q))) (Takes-gives Z 𝓛 𝓜.mem 𝓡.returns κ q handle heap (n * size) al τ v) $ await ! tt $ split ! $
    -- [the result; the token of the handle; of T; of A; the other]
    answers Z ! 𝓜.mem 𝓡.returns heap τ v
    (λ b o e.
    let words : WT (row_val b o n) = (tt, (record { fits = fits }, tt)) in
    let pair : Val = pair_val (row_val b o n) token_val in
    let paired : WT pair = (words, ((tt, tt), tt)) in
    let done : WT (live 0 (vcons pair vnil)) = (record { fits = lit< tt }, (paired, tt)) in
    let w = at_from E 𝓛 𝓜.mem 𝓡.returns κT qT b o n xs fs in
    lands_as ! e refl (Answer-typed true b o) $ first ! $ switches_on ! (get_tag ! (vrt ! refl (fld ! refl (stop !))) (whole !)) $ exec ! C Λ En (arm_body 0 both) Then $
    sets ! (of_opd ! (get_in ! (vrt ! refl (fld ! refl (stop !))) (in_variant ! 0 0 refl refl (whole !)))) refl (tt, tt) $ first ! $ blocks ! $ sets ! (of_opd ! (get ! refl)) refl (tt, tt) $
    -- [the block; the right to free it; the token of the handle; of T; of A; the other]
    use1 𝓛 (‵ (froom (ty_array (elτ E) n) b o)) (𝓛.laws.raw-room (ty_array (elτ E) n) b o) $ use1 𝓛 (‵ (all E b o xs fs)) (of_space (el E) 𝓛 b o n xs long) $ move ! (0 ∷ 3 ∷ []) $
    use2 𝓛 (raw ((From E 𝓛 𝓜.mem 𝓡.returns).pre w)) (from_goes E 𝓛 𝓜.mem 𝓡.returns κT qT b o n xs fs in_T (sym long) (sym (length-replicate n false)) fits small) $
    calls_at_last ! (fm 𝓛 𝓜 𝓡) (From E 𝓛 𝓜.mem 𝓡.returns) (callee.met 𝓤 𝓛 𝓜 𝓡 (compiled.calls-core::slots::Slots::from_raw_parts 𝓡.env wired) T LT) w (and_then ! (get ! refl) (and_then ! (get ! refl) (no_more !))) (λ u.
    use1 𝓛 (later (some (λ (r : (Row E).Denot). given ((u ≡ row_val b o n) × Made E 𝓛 𝓜.mem 𝓡.returns κT qT b o n xs fs r) (‵ ((Row E).own_val r (row_val b o n ∷ [])) ⊛ ‵ (flft κT qT))))) (from_gives E 𝓛 𝓜.mem 𝓡.returns κT qT b o n xs fs u) $
    await ! tt $ pick ! (λ r. learn ! (λ made. split ! $
    regoal ! (λ (u : Val). settles En (place 11 []) u (out_of_block 𝓛 (then_runs 𝓛 C Λ En (after 2 (arm_body 0 both)) Then))) made.0 refl $ lands_last ! refl (tt, words) $
    exec ! C Λ En (after 2 (arm_body 0 both)) Then $
    sets ! (of_opd ! (get ! refl)) refl (tt, words) $ sets ! (agg ! (no_more !)) refl (tt, tt) $ sets ! (of_opd ! (get ! refl)) refl (tt, words) $
    sets ! (agg ! (and_then ! (get ! refl) (no_more !))) refl (tt, (tt, tt)) $ sets ! (agg ! (and_then ! (get ! refl) (and_then ! (get ! refl) (no_more !)))) refl (tt, paired) $
    sets_last ! (agg ! (and_then ! (lit ! tt) (and_then ! (get ! refl) (no_more !)))) refl (tt, done) $
    exec ! C Λ En (after 3 fn.body) (at_ret En Post) $ sets ! (of_opd ! (get ! refl)) refl (tt, done) $
    returns ! (look_at ! 0 refl) $ free_all ! refl $
    -- [the row; the token of T; the right to free the block; the tokens of the handle, of A; the
    -- other]
    let k : (free_token.the_row (R E) (bounded_row 1 A) g).Denot = record { mark = record {}; start = block_ptr b o; places = n; alloc = heap } in
    let Gives : Type 0 = (slots_len r ≡ n) × IsTokenOf k r heap in
    move ! (2 ∷ []) $ use0 𝓛 (‵ (mark_own (token_val ∷ []))) (mark_made 𝓛) $ fjoin ! $ move ! (1 ∷ 0 ∷ []) $
    use2 𝓛 (‵ (Two.own_val (r, k) (pair ∷ []))) (pair_of 𝓛 (Row E) (free_token.the_row (R E) (bounded_row 1 A) g) r k (row_val b o n) token_val) $
    use1 𝓛 (‵ (Out.own_val (Ok (r, k)) (live 0 (vcons pair vnil) ∷ []))) (ok_of 𝓛 Two AE.the_row (r, k) pair) $
    move ! (1 ∷ 3 ∷ []) $ join ! $ move ! (3 ∷ 0 ∷ []) $ join ! $ move ! (2 ∷ 0 ∷ []) $ join ! $ move ! (1 ∷ []) $
    use0 𝓛 (raw (fact 𝓤 Gives)) (fact_i 𝓤 Gives (emp 𝓤) (made.1.1, (sym made.1.0, sym made.1.1, refl))) $
    nothing ! $ nothing ! $ fjoin ! $ nothing ! $ fjoin ! $ nothing ! $ fjoin ! $ move ! (3 ∷ 0 ∷ 2 ∷ 1 ∷ []) $
    by ! (leaves 𝓛 S stays c z (live 0 (vcons pair vnil)) (Ok (r, k)) (tt, (tt, (tt, tt))) (tt, (tt, (tt, tt))))))))
    (λ e.
    let Refusal : RattleType = Struct (shape AE.the_type) in
    let rejected : Val = live 1 (vcons (vstruct vnil) vnil) in
    let typed : WT rejected = (record { fits = lit< tt }, (tt, tt)) in
    lands_as ! e refl (Answer-typed false 0 0) $ first ! $ switches_on ! (get_tag ! (vrt ! refl (fld ! refl (stop !))) (whole !)) $ exec ! C Λ En (arm_body 1 both) Then $
    sets ! (of_opd ! (get_in ! (vrt ! refl (fld ! refl (stop !))) (in_variant ! 1 0 refl refl (whole !)))) refl (tt, tt) $
    sets_last ! (agg ! (and_then ! (lit ! tt) (and_then ! (get ! refl) (no_more !)))) refl (tt, typed) $
    exec ! C Λ En (after 3 fn.body) (at_ret En Post) $ sets ! (of_opd ! (get ! refl)) refl (tt, typed) $
    returns ! (look_at ! 0 refl) $ free_all ! refl $
    -- [the tokens of the handle, of T, of A; the other]
    move ! (1 ∷ 2 ∷ []) $ join ! $ move ! (2 ∷ 0 ∷ []) $ join ! $ move ! (1 ∷ 0 ∷ []) $ join ! $
    owned ! Refusal (Is Refusal) (Struct-Makes 𝓛 (shape AE.the_type) tt) tt (vstruct vnil ∷ []) (tt, (refl, tt)) $
    use1 𝓛 (‵ (Out.own_val (Err (record {})) (rejected ∷ []))) (err_of 𝓛 Two AE.the_row (record {}) (vstruct vnil)) $
    use0 𝓛 (raw (fact 𝓤 (Unit {0}))) (fact_i 𝓤 (Unit {0}) (emp 𝓤) tt) $
    nothing ! $ nothing ! $ fjoin ! $ nothing ! $ fjoin ! $ nothing ! $ fjoin ! $ move ! (3 ∷ 0 ∷ 2 ∷ 1 ∷ []) $
    by ! (leaves 𝓛 S stays c z rejected (Err (record {})) (tt, (tt, (tt, tt))) (tt, (tt, (tt, tt)))))))))))
