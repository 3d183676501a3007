-- The user dictionaries of user lexicons, and their first error.
use Rattle.std.proofs.Common.{◌≡◌, ℕ, zero, suc, ◌+◌, ◌<◌, ◌≤◌, List, [], ◌∷◌, ◌++◌, length, take, take_all, get_or, Bor, refl, sym, ap, ◌∙◌, subst, ◌⊎◌, inl, inr, arith}
use Rattle.std.specs.Prelude.{Some, slice_get}
use Rattle.std.specs.List.{AllZip}
use Rattle.std.proofs.lemmas.Bool.{cases_order}
use Rattle.std.proofs.lemmas.List.{take_more, map-append, take-map}
use Rattle.std.proofs.lemmas.Option.{same_Some}
use Rattle.mj_model.specs.declared.run_fault.RunFault.{RunFault}
use Rattle.mj_model.specs.declared.run_fault.RunFault.TheVariants as run
use Rattle.mj_model.specs.declared.source_fault.SourceFault.{SourceFault}
use Rattle.mj_model.specs.declared.source_fault.SourceKind.TheVariants.{ArrayFull, Memory}
use Rattle.dict_compile.specs.Compilation.{IsUserCause, IsUserFault}
use Rattle.mj_model.specs.FirstFault.{IsMemoryOr}
use Rattle.image_format.specs.ImageMeaning.{image_tables}
use Rattle.dict_compile.specs.SourceOverlays.{IsOfUser, UserCompileTo}
use Rattle.mj_model.specs.Tables.{Tables}
use Rattle.dict_compile.proofs.UserLemmas.{not_both_for, user_reported_for}
use Rattle.segmenter.specs.SourceFaults.{IsRunFaultFor}
use Rattle.segmenter.specs.SourceDicts.{IsReportedFor, IsUserDictOf, IsUsersError, LacksCells, lexicons_of, users_of}

module _ (system : Tables) where
  compiles : (lexicons : List (List ℕ)) (dict : List ℕ) → IsUserDictOf system lexicons dict → (t : Tables) × UserCompileTo system lexicons t
  compiles lexicons dict d = (image_tables dict, record { have = d.2.have; few_features = d.2.compiled.few_features })

  -- ---- the user dictionaries so far

  none_there : (j : ℕ) (lexicons : List (List ℕ)) → slice_get {X = List (List ℕ)} [] j ≡ Some lexicons → ⊥
  none_there zero lexicons e = cc
  none_there (suc j) lexicons e = cc

  -- each user's lexicons compile
  pub all_compile : (users : List (List (List ℕ))) (dicts : List (List ℕ)) → AllZip (IsUserDictOf system) users dicts
      → (j : ℕ) (lexicons : List (List ℕ)) → slice_get users j ≡ Some lexicons → (t : Tables) × UserCompileTo system lexicons t
  all_compile [] dicts h j lexicons e = absurd (none_there j lexicons e)
  all_compile (user ∷ users) [] h j lexicons e = absurd h
  all_compile (user ∷ users) (dict ∷ dicts) h zero lexicons e = subst (λ ls. (t : Tables) × UserCompileTo system ls t) (same_Some user lexicons e) (compiles user dict h.0)
  all_compile (user ∷ users) (dict ∷ dicts) h (suc j) lexicons e = all_compile users dicts h.1 j lexicons e

  -- the lexicons of the users before one compile
  pub before_compile : (users : List (List (List ℕ))) (dicts : List (List ℕ)) (i : ℕ) → AllZip (IsUserDictOf system) (take i users) dicts
      → (j : ℕ) (lexicons : List (List ℕ)) → j < i → slice_get users j ≡ Some lexicons → (t : Tables) × UserCompileTo system lexicons t
  before_compile [] dicts i h j lexicons less e = absurd (none_there j lexicons e)
  before_compile (user ∷ users) dicts zero h j lexicons less e = absurd (omega (arith, less))
  before_compile (user ∷ users) [] (suc i) h j lexicons less e = absurd h
  before_compile (user ∷ users) (dict ∷ dicts) (suc i) h zero lexicons less e = subst (λ ls. (t : Tables) × UserCompileTo system ls t) (same_Some user lexicons e) (compiles user dict h.0)
  before_compile (user ∷ users) (dict ∷ dicts) (suc i) h (suc j) lexicons less e = before_compile users dicts i h.1 j lexicons (omega (arith, less)) e

  -- ---- a rejected user dictionary

  module _ (users : List (List (List ℕ))) (i : ℕ) (lexicons : List (List ℕ)) (there : slice_get users i ≡ Some lexicons)
      (before : (j : ℕ) (others : List (List ℕ)) → j < i → slice_get users j ≡ Some others → (t : Tables) × UserCompileTo system others t)
      (fault : SourceFault) (reported : RunFault) (ends : IsRunFaultFor (run.UserSource i) fault reported) (rejected : IsMemoryOr fault (IsUserCause system lexicons fault)) where
    rejected_by : ((reported ≡ run.Memory 0) × (fault.kind ≡ Memory)) ⊎ ((reported ≡ run.UserSource i fault) × (fault.kind ≡ Memory → ⊥))
        → IsMemoryOr fault (IsUserCause system lexicons fault) → IsUsersError system users reported
    rejected_by (inl (memory, want)) r = subst (IsUsersError system users) (sym memory) refl
    rejected_by (inr is) (inl memory) = absurd (is.1 memory)
    rejected_by (inr is) (inr cause) =
        subst (IsUsersError system users) (sym is.0) (record { lexicons = lexicons; there = there; fault_is = cause; before_compile = before })

    -- the rejection has its cause
    pub users_error : IsUsersError system users reported
    users_error = rejected_by ends.either rejected

    reported_here : (first : SourceFault) → IsUserFault system lexicons first → ((reported ≡ run.Memory 0) × (fault.kind ≡ Memory)) ⊎ ((reported ≡ run.UserSource i fault) × (fault.kind ≡ Memory → ⊥))
        → (fault ≡ first) ⊎ ((fault.kind ≡ Memory) ⊎ (fault.kind ≡ ArrayFull)) → IsReportedFor (run.UserSource i first) reported
    reported_here first h (inl (memory, want)) t = inr (inl memory)
    reported_here first h (inr is) (inl same) = inl (is.0 ∙ ap (run.UserSource i) same)
    reported_here first h (inr is) (inr (inl memory)) = absurd (is.1 memory)
    reported_here first h (inr is) (inr (inr full)) = inr (inr (subst LacksCells (sym is.0) full))

    reported_later : (first : RunFault) (t : Tables) → UserCompileTo system lexicons t → ((reported ≡ run.Memory 0) × (fault.kind ≡ Memory)) ⊎ ((reported ≡ run.UserSource i fault) × (fault.kind ≡ Memory → ⊥))
        → IsMemoryOr fault (IsUserCause system lexicons fault) → IsReportedFor first reported
    reported_later first t c (inl (memory, want)) r = inr (inl memory)
    reported_later first t c (inr is) (inl memory) = absurd (is.1 memory)
    reported_later first t c (inr is) (inr (inl cause)) = absurd (not_both_for system lexicons t fault c.have c.few_features cause)
    reported_later first t c (inr is) (inr (inr full)) = inr (inr (subst LacksCells (sym is.0) (ap (λ (f : SourceFault). f.kind) full.3.1)))

    first_by : (k : ℕ) (first : SourceFault) → IsOfUser (IsUserFault system) system users k first → (k ≡ i) ⊎ ((k < i) ⊎ (i < k)) → IsReportedFor (run.UserSource k first) reported
    first_by k first h (inl same) =
        let l : h.lexicons ≡ lexicons = same_Some h.lexicons lexicons (sym h.there ∙ ap (slice_get users) same ∙ there) in
        let f : IsUserFault system lexicons first = subst (λ ls. IsUserFault system ls first) l h.fault_is in
        subst (λ n. IsReportedFor (run.UserSource n first) reported) (sym same) (reported_here first f ends.either (user_reported_for system lexicons first fault f rejected))
    first_by k first h (inr (inl less)) =
        let c = before k h.lexicons less h.there in
        absurd (not_both_for system h.lexicons c.0 first c.1.have c.1.few_features h.fault_is)
    first_by k first h (inr (inr more)) =
        let c = h.before_compile i lexicons more there in
        reported_later (run.UserSource k first) c.0 c.1 ends.either rejected

    -- the first error is reported
    pub users_first : (k : ℕ) (first : SourceFault) → IsOfUser (IsUserFault system) system users k first → IsReportedFor (run.UserSource k first) reported
    users_first k first h = first_by k first h (cases_order k i)

  -- user lexicons that compile have no error
  pub none_at_fault : (users : List (List (List ℕ))) (dicts : List (List ℕ)) → AllZip (IsUserDictOf system) users dicts
      → (k : ℕ) (first : SourceFault) → IsOfUser (IsUserFault system) system users k first → ⊥
  none_at_fault users dicts h k first f =
      let c = all_compile users dicts h k f.lexicons f.there in
      not_both_for system f.lexicons c.0 first c.1.have c.1.few_features f.fault_is

  -- ---- one more user dictionary

  zip_push : (xs : List (List (List ℕ))) (ys : List (List ℕ)) (x : List (List ℕ)) (y : List ℕ) → AllZip (IsUserDictOf system) xs ys → IsUserDictOf system x y → AllZip (IsUserDictOf system) (xs ++ x ∷ []) (ys ++ y ∷ [])
  zip_push [] [] x y h r = (r, tt)
  zip_push [] (b ∷ ys) x y h r = absurd h
  zip_push (a ∷ xs) [] x y h r = absurd h
  zip_push (a ∷ xs) (b ∷ ys) x y h r = (h.0, zip_push xs ys x y h.1 r)

  pub user_more : (users : List (Bor (List (Bor (List ℕ))))) (i : ℕ) (d : Bor (List (Bor (List ℕ)))) (dicts : List (List ℕ)) (dict : List ℕ) → i < length users
      → AllZip (IsUserDictOf system) (users_of (take i users)) dicts → IsUserDictOf system (lexicons_of (get_or users i d).now) dict
      → AllZip (IsUserDictOf system) (users_of (take (i + 1) users)) (dicts ++ dict ∷ [])
  user_more users i d dicts dict low h is =
      subst (λ us. AllZip (IsUserDictOf system) us (dicts ++ dict ∷ []))
      (sym (ap users_of (take_more users i d low) ∙ map-append (λ (lexicons : Bor (List (Bor (List ℕ)))). lexicons_of lexicons.now) (take i users) (get_or users i d ∷ [])))
      (zip_push (users_of (take i users)) dicts (lexicons_of (get_or users i d).now) dict h is)

  -- ---- the user lexicons as the caller passes them

  abbrev Given : Type 0
  Given = Bor (List (Bor (List ℕ)))

  there_in : (users : List Given) (i : ℕ) (d : Given) → i < length users → slice_get (users_of users) i ≡ Some (lexicons_of (get_or users i d).now)
  there_in [] i d low = absurd (omega (arith, low))
  there_in (user ∷ users) zero d low = refl
  there_in (user ∷ users) (suc i) d low = there_in users i d (omega (arith, low))

  module _ (users : List Given) (i : ℕ) (d : Given) (dicts : List (List ℕ)) (low : i < length users) (so_far : AllZip (IsUserDictOf system) (users_of (take i users)) dicts)
      (fault : SourceFault) (reported : RunFault) (ends : IsRunFaultFor (run.UserSource i) fault reported) (rejected : IsMemoryOr fault (IsUserCause system (lexicons_of (get_or users i d).now) fault)) where
    so_far_compile : (j : ℕ) (others : List (List ℕ)) → j < i → slice_get (users_of users) j ≡ Some others → (t : Tables) × UserCompileTo system others t
    so_far_compile =
        before_compile (users_of users) dicts i
        (subst (λ us. AllZip (IsUserDictOf system) us dicts) (sym (take-map (λ (lexicons : Given). lexicons_of lexicons.now) i users)) so_far)

    pub user_error_first : IsUsersError system (users_of users) reported
    user_error_first = users_error (users_of users) i (lexicons_of (get_or users i d).now) (there_in users i d low) so_far_compile fault reported ends rejected

    pub user_first : (k : ℕ) (first : SourceFault) → IsOfUser (IsUserFault system) system (users_of users) k first → IsReportedFor (run.UserSource k first) reported
    user_first = users_first (users_of users) i (lexicons_of (get_or users i d).now) (there_in users i d low) so_far_compile fault reported ends rejected

  -- no user remains
  pub users_end : (users : List Given) (i : ℕ) (dicts : List (List ℕ)) → length users ≤ i → AllZip (IsUserDictOf system) (users_of (take i users)) dicts → AllZip (IsUserDictOf system) (users_of users) dicts
  users_end users i dicts all h = subst (λ us. AllZip (IsUserDictOf system) (users_of us) dicts) (take_all i users all) h
