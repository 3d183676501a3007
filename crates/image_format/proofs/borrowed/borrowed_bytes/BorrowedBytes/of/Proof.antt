-- `of`: the share of the bytes at the loan's pointer moves into the value.
use Rattle.std.proofs.Common.{◌≡◌, ◌^◌, ◌<◌, [], ◌∷◌, length, refl, arith}
use Rattle.std.proofs.raw_atomic.Walks.{proved}
use Rattle.image_format.specs.BytesInMemory.{shared_bytes}
use Rattle.image_format.specs.contracts.borrowed.borrowed_bytes.BorrowedBytes as borrowed
use Rattle.image_format.specs.contracts.borrowed.borrowed_bytes.BorrowedBytes.of as this
use Rattle.image_format.specs.contracts.borrowed.loan.BorrowedParts as loan
use Rattle.image_format.proofs.BorrowedValues.{borrowed_made, loan_typed, lying, pointer_typed, words, words_typed}
use Rattle.image_format.proofs.borrowed.borrowed_bytes.BorrowedBytes.of.Statement.{statement}
use Rattle.image_format.proofs.borrowed.borrowed_bytes.BorrowedBytes.of.Code as code
use Rattle.image_format.proofs.borrowed.loan.BorrowedParts.TheLaws.{lowers}
use base.Fml.{fsep, ftrue}
use types.Kit.{‵, ◌⊛◌, given, ◌$◌, ◌∵◌, !, qed, done, drop, fsplit, join, keep, learn, split, suffices, use1}
use types.Run.{and_then, enter, fld, no_more, of_opd, returns, stop}
use types.ByLocal.{alloc_all, free_all, get, get_in, look_at, pass_all, sets}
use types.Part.{agg, sub, whole}
use denote.Exit.{yes}
use denote.Signature.{plain}
use denote.Steps.{nothing}
use denote.Triple.Walked.{Goes-dropped, Stays, ends_at, says, stay_dropped, walk_of}

abbrev spent : Stays this.ended.signature.params this.ended.kept
spent = (stay_dropped _ yes, tt)

pub of_spec : {M : Type 1} → statement M
of_spec 𝓤 𝓛 𝓜 𝓡 wired =
    let c = this.clauses 𝓛 𝓜.mem 𝓡.returns in let W = walk_of 𝓛 this.ended spent c in
    proved 𝓛 this.ended spent c 𝓜 𝓡 (Goes-dropped 𝓛 0 (plain (λ _. loan.the_row)) yes (λ κs x w. refl), tt)
    this.Key.name code.function (code.unfolded 𝓤 𝓛.H 𝓜 𝓡 wired)
    (λ κs. ((λ l. words l.at l.len ∷ []), tt)) (λ κs. (lowers.val_is, tt)) (λ κs qs bounds args g are.
    let l : loan.the_row.Denot = args.0 in let w = words l.at l.len in let y : W.Ghost = ((κs, qs, bounds, args, (w ∷ [], tt)), g) in
    qed 𝓛 ((‵ ftrue ⊛ ‵ (fsep (loan.the_row.own_val l (w ∷ [])) ftrue)) ∷ ‵ ftrue ∷ []) ∵ split ! $ drop ! $ fsplit ! $ keep ! (0 ∷ []) $ fsplit ! $ drop ! $
    use1 𝓛 (given ((l.len ≡ length l.bytes) × (l.len < 2 ^ 63)) (‵ (shared_bytes l.share l.at l.len l.bytes))) (lying 𝓛 l.share l.at l.len l.bytes) $ learn ! (λ reported.
    let fits : l.len < 2 ^ 64 = omega (arith, reported.1) in
    enter ! _ _ _ _ _ $ alloc_all ! (λ spots. pass_all ! refl (loan_typed 𝓛 l.at l.len fits, tt) $
    sets ! (of_opd ! (get_in ! (fld ! refl (stop !)) (sub ! 0 refl (whole !)))) refl (pointer_typed 𝓛 l.at) $
    sets ! (of_opd ! (get_in ! (fld ! refl (stop !)) (sub ! 1 refl (whole !)))) refl (tt, record { fits = fits }) $
    sets ! (agg ! (and_then ! (get ! refl) (and_then ! (get ! refl) (no_more !)))) refl (words_typed 𝓛 l.at l.len fits) $ returns ! (look_at ! 0 refl) $ free_all ! refl $
    let new : borrowed.the_row.Denot = record { at = l.at; len = l.len; bytes = l.bytes; share = l.share; counted = reported.0 } in
    use1 𝓛 (‵ (borrowed.the_row.own_val new (w ∷ []))) (borrowed_made 𝓛 l.share l.at l.len l.bytes reported.0 fits) $
    suffices ! _ (ends_at 𝓛 this.ended spent c y w new (tt, tt) (tt, tt)) $ says ! refl $
    nothing ! $ nothing ! $ join ! $ nothing ! $ done !)))
