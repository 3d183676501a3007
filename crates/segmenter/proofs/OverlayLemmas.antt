-- The overlay of a system dictionary and of user dictionaries that were compiled for it.
use Rattle.std.proofs.Common.{◌≡◌, ℕ, suc, List, [], ◌∷◌, map, refl, sym, ap, ◌∙◌, subst}
use Rattle.std.specs.Prelude.{Bool, true, not, Option, Some, None, ◌==◌, ◌&&◌, if◌then◌else◌}
use Rattle.std.specs.List.{AllZip}
use Rattle.std.proofs.lemmas.Bool.{eq-eqb}
use Rattle.mj_model.specs.declared.overlay_fault.OverlayFault.{OverlayFault}
use Rattle.mj_model.specs.declared.overlay_fault.OverlayFault.TheVariants.{NotSystem, NotUser, OtherSizes}
use Rattle.mj_model.specs.declared.sources.Sources.{Sources}
use Rattle.dict_compile.specs.Compilation.{HaveUserTables}
use Rattle.mj_model.specs.declared.matrix_sizes.MatrixSizes.{MatrixSizes}
use Rattle.image_format.specs.ImageMeaning.{image_tables}
use Rattle.mj_model.specs.Overlays.{are_same_sizes, first_user_fault, is_user, overlay_fault}
use Rattle.dict_compile.specs.SourceOverlays.{HaveOverlay}
use Rattle.mj_model.specs.Tables.{Kind, Tables, Overlay, System, User}
use Rattle.segmenter.specs.SourceDicts.{IsDictOf, IsUserDictOf}

same_sizes : (a b : MatrixSizes) → a ≡ b → are_same_sizes a b ≡ true
same_sizes a b e = subst (λ (s : MatrixSizes). are_same_sizes s b ≡ true) (sym e) (ap (λ c. c && (b.left == b.left)) (eq-eqb b.right b.right refl) ∙ eq-eqb b.left b.left refl)

no_fault_by : (kind : Kind) (same : Bool) (not_user other rest : Option OverlayFault) → kind ≡ User → same ≡ true → rest ≡ None
    → (if not (is_user kind) then not_user else if not same then other else rest) ≡ None
no_fault_by kind same not_user other rest k s r =
    ap (λ (kd : Kind). if not (is_user kd) then not_user else if not same then other else rest) k ∙ ap (λ (b : Bool). if not b then other else rest) s ∙ r

no_user_fault : (system : Tables) (i : ℕ) (users : List (List (List ℕ))) (dicts : List (List ℕ)) → AllZip (IsUserDictOf system) users dicts → first_user_fault system.sizes i (map image_tables dicts) ≡ None
no_user_fault system i [] [] h = refl
no_user_fault system i [] (dict ∷ dicts) h = absurd h
no_user_fault system i (user ∷ users) [] h = absurd h
no_user_fault system i (user ∷ users) (dict ∷ dicts) h =
    no_fault_by (image_tables dict).kind (are_same_sizes (image_tables dict).sizes system.sizes) (Some (NotUser i)) (Some (OtherSizes i)) (first_user_fault system.sizes (suc i) (map image_tables dicts))
    h.0.2.have.kind (same_sizes (image_tables dict).sizes system.sizes h.0.2.have.sizes_kept) (no_user_fault system (suc i) users dicts h.1)

-- the overlay has no error
pub no_overlay_fault : (system : Tables) (users : List (List (List ℕ))) (dicts : List (List ℕ)) → system.kind ≡ System → AllZip (IsUserDictOf system) users dicts
    → overlay_fault system (map image_tables dicts) ≡ None
no_overlay_fault system users dicts kind h =
    ap (λ (b : Bool). if b then Some NotSystem else first_user_fault system.sizes 0 (map image_tables dicts)) (ap is_user kind)
    ∙ no_user_fault system 0 users dicts h

each_have : (system : Tables) (users : List (List (List ℕ))) (dicts : List (List ℕ)) → AllZip (IsUserDictOf system) users dicts → AllZip (HaveUserTables system.sizes) users (map image_tables dicts)
each_have system [] [] h = tt
each_have system [] (dict ∷ dicts) h = absurd h
each_have system (user ∷ users) [] h = absurd h
each_have system (user ∷ users) (dict ∷ dicts) h = (h.0.2.have, each_have system users dicts h.1)

-- the overlay is what the sources and the user lexicons define
pub have_overlay : (s : Sources) (users : List (List (List ℕ))) (grouping : ℕ) (dict : List ℕ) (dicts : List (List ℕ)) (o : Overlay) → IsDictOf s dict → AllZip (IsUserDictOf (image_tables dict)) users dicts
    → o ≡ record { system = image_tables dict; users = map image_tables dicts; grouping = grouping } → HaveOverlay s users grouping o
have_overlay s users grouping dict dicts o d h is =
    subst (HaveOverlay s users grouping) (sym is) (record { system = d.2.have; each_user = each_have (image_tables dict) users dicts h; grouping_is = refl })

pub none_and_some : (found : Option OverlayFault) (fault : OverlayFault) → found ≡ None → found ≡ Some fault → ⊥
none_and_some found fault h k = let clash : None ≡ Some fault = sym h ∙ k in absurd (cc)

pub with_grouping : (grouping : ℕ) (o : Overlay) (system : Tables) (dicts same : List (List ℕ)) → o ≡ record { system = system; users = map image_tables dicts; grouping = 24 } → dicts ≡ same
    → record o { grouping = grouping } ≡ record { system = system; users = map image_tables same; grouping = grouping }
with_grouping grouping o system dicts same e d = λ i. record { system = (e i).system; users = ((ap (λ (p : Overlay). p.users) e ∙ ap (map image_tables) d) i); grouping = grouping }
