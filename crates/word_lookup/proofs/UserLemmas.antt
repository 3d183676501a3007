-- The user dictionaries of an overlay, checked one by one.
use Rattle.std.proofs.Common.{◌≡◌, ℕ, suc, ◌+◌, ◌<◌, ◌≤◌, Bool, true, false, cond, ◌&&◌, List, [], ◌∷◌, ◌++◌, length, get_or, take, drop, map, Option, Some, None, sym, ap, ◌∙◌, refl, subst, add-one}
use Rattle.std.specs.Prelude.{◌==◌, not}
use Rattle.std.specs.List.{AllByRecursion}
use Rattle.std.proofs.lemmas.Bool.{and_right, ne_eqb, and_from, eq-eqb}
use Rattle.std.proofs.lemmas.List.{take_more, drop_more, take_all, map-append}
use Rattle.mj_model.specs.declared.overlay_fault.OverlayFault.{OverlayFault}
use Rattle.mj_model.specs.declared.overlay_fault.OverlayFault.TheVariants.{NotSystem, NotUser, OtherSizes}
use Rattle.mj_model.specs.declared.matrix_sizes.MatrixSizes.{MatrixSizes}
use Rattle.mj_model.specs.Overlays.{is_user, are_same_sizes, first_user_fault, overlay_fault}
use Rattle.mj_model.specs.Tables.{Tables}
use Rattle.dict_image.specs.Fitting.{AreFitting}
use Rattle.word_lookup.specs.Fitting.{AreLaidOver, IsOverlay, IsUserOf}

-- ---- sizes

pub right_differs : (t : MatrixSizes) (s : MatrixSizes) (right : ℕ) → right ≡ t.right → (right ≡ s.right → ⊥) → are_same_sizes t s ≡ false
right_differs t s right is other = ap (λ (b : Bool). b && (t.left == s.left)) (ne_eqb t.right s.right (λ e. other (is ∙ e)))

pub left_differs : (t : MatrixSizes) (s : MatrixSizes) (left : ℕ) → left ≡ t.left → (left ≡ s.left → ⊥) → are_same_sizes t s ≡ false
left_differs t s left is other = and_right (t.right == s.right) (t.left == s.left) (ne_eqb t.left s.left (λ e. other (is ∙ e)))

pub same : (t : MatrixSizes) (s : MatrixSizes) (right left : ℕ) → right ≡ t.right → left ≡ t.left → right ≡ s.right → left ≡ s.left → are_same_sizes t s ≡ true
same t s right left r l a b = and_from (t.right == s.right) (t.left == s.left) (eq-eqb t.right s.right (sym r ∙ a)) (eq-eqb t.left s.left (sym l ∙ b))

-- ---- errors

pub other_sizes : (sizes : MatrixSizes) (i : ℕ) (user : Tables) (others : List Tables) → is_user user.kind ≡ true → are_same_sizes user.sizes sizes ≡ false → first_user_fault sizes i (user ∷ others) ≡ Some (OtherSizes i)
other_sizes sizes i user others is differ =
    let rest = first_user_fault sizes (suc i) others in
    ap (λ (b : Bool). cond (not b) (Some (NotUser i)) (cond (not (are_same_sizes user.sizes sizes)) (Some (OtherSizes i)) rest)) is
    ∙ ap (λ (b : Bool). cond (not b) (Some (OtherSizes i)) rest) differ

passed : (sizes : MatrixSizes) (i : ℕ) (user : Tables) (others : List Tables) → IsUserOf sizes user → first_user_fault sizes i (user ∷ others) ≡ first_user_fault sizes (suc i) others
passed sizes i user others is =
    let rest = first_user_fault sizes (suc i) others in
    ap (λ (b : Bool). cond (not b) (Some (NotUser i)) (cond (not (are_same_sizes user.sizes sizes)) (Some (OtherSizes i)) rest)) is.is_users
    ∙ ap (λ (b : Bool). cond (not b) (Some (OtherSizes i)) rest) is.same_sizes

-- ---- the first user dictionaries

-- the first i user dictionaries fit a system dictionary of these sizes, so the first error is that
-- of the others
pub record HavePassed (sizes : MatrixSizes) (view : List ℕ → Tables) (users : List (List ℕ)) (i : ℕ) : Type 0 where
  pub each : AllByRecursion (IsUserOf sizes) (map view (take i users))
  pub rest : first_user_fault sizes 0 (map view users) ≡ first_user_fault sizes i (map view (drop i users))

all_push : (P : Tables → Type 0) (ts : List Tables) (t : Tables) → AllByRecursion P ts → P t → AllByRecursion P (ts ++ t ∷ [])
all_push P [] t all h = (h, tt)
all_push P (s ∷ ts) t all h = (all.0, all_push P ts t all.1 h)

pub one_user_more : (sizes : MatrixSizes) (view : List ℕ → Tables) (users : List (List ℕ)) (i : ℕ) (user : List ℕ) → i < length users → user ≡ get_or users i user → IsUserOf sizes (view user)
    → HavePassed sizes view users i → HavePassed sizes view users (i + 1)
one_user_more sizes view users i user less at is have =
    let front : map view (take (i + 1) users) ≡ map view (take i users) ++ view user ∷ [] =
    ap (map view) (take_more users i user less ∙ ap (λ (u : List ℕ). take i users ++ u ∷ []) (sym at)) ∙ map-append view (take i users) (user ∷ []) in
    let suffix : map view (drop i users) ≡ view user ∷ map view (drop (i + 1) users) =
    ap (map view) (drop_more users i user less ∙ ap (λ (u : List ℕ). u ∷ drop (i + 1) users) (sym at)) in
    record {
      each = subst (AllByRecursion (IsUserOf sizes)) (sym front) (all_push (IsUserOf sizes) (map view (take i users)) (view user) have.each is);
      rest = have.rest ∙ ap (first_user_fault sizes i) suffix ∙ passed sizes i (view user) (map view (drop (i + 1) users)) is
          ∙ ap (λ (k : ℕ). first_user_fault sizes k (map view (drop (i + 1) users))) (sym (add-one i));
    }

pub user_reported : (sizes : MatrixSizes) (view : List ℕ → Tables) (users : List (List ℕ)) (i : ℕ) (user : List ℕ) (fault : OverlayFault) → i < length users → user ≡ get_or users i user → HavePassed sizes view users i
    → ((others : List Tables) → first_user_fault sizes i (view user ∷ others) ≡ Some fault) → first_user_fault sizes 0 (map view users) ≡ Some fault
user_reported sizes view users i user fault less at have reported =
    have.rest ∙ ap (λ (us : List (List ℕ)). first_user_fault sizes i (map view us)) (drop_more users i user less ∙ ap (λ (u : List ℕ). u ∷ drop (i + 1) users) (sym at))
    ∙ reported (map view (drop (i + 1) users))

pub all_passed : (sizes : MatrixSizes) (view : List ℕ → Tables) (users : List (List ℕ)) (i : ℕ) → length users ≤ i → HavePassed sizes view users i → AllByRecursion (IsUserOf sizes) (map view users)
all_passed sizes view users i high have = subst (λ (us : List (List ℕ)). AllByRecursion (IsUserOf sizes) (map view us)) (take_all i users high) have.each

-- user dictionaries that fit these sizes have no error
pub no_user_fault : (sizes : MatrixSizes) (i : ℕ) (users : List Tables) → AllByRecursion (IsUserOf sizes) users → first_user_fault sizes i users ≡ None
no_user_fault sizes i [] all = refl
no_user_fault sizes i (user ∷ users) all = passed sizes i user users all.0 ∙ no_user_fault sizes (suc i) users all.1

-- ---- the overlay

pub overlay_found : (system : Tables) (users : List Tables) (s : MatrixSizes) (found : Option OverlayFault) → is_user system.kind ≡ false → s ≡ system.sizes
    → first_user_fault s 0 users ≡ found → overlay_fault system users ≡ found
overlay_found system users s found is same reported =
    ap (λ (b : Bool). cond b (Some NotSystem) (first_user_fault system.sizes 0 users)) is
    ∙ ap (λ (sizes : MatrixSizes). first_user_fault sizes 0 users) (sym same) ∙ reported

pub overlay_is : (system : Tables) (users : List Tables) (s : MatrixSizes) → is_user system.kind ≡ false → AreFitting system → s ≡ system.sizes → AllByRecursion (IsUserOf s) users
    → IsOverlay system users
unfolding IsOverlay
overlay_is system users s is fits same all = record {
  is_system = is;
  fits = fits;
  users_fit = subst (λ (sizes : MatrixSizes). AllByRecursion (IsUserOf sizes) users) same all;
}

pub laid_over : (system : Tables) (users : List Tables) → IsOverlay system users → AreLaidOver system users
unfolding IsOverlay
laid_over system users is = is
