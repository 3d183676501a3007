-- Overlays of dictionaries.
use Rattle.std.proofs.Common.{◌≡◌, ℕ, List, [], ◌∷◌, ◌++◌, map, subst, sym, ap, ◌∙◌}
use Rattle.std.specs.Prelude.{Result, Ok, Err, Option, None, OnOk, OnErr}
use Rattle.image_format.specs.ImageMeaning.{image_tables}
use Rattle.mj_model.specs.declared.overlay_fault.OverlayFault.{OverlayFault}
use Rattle.mj_model.specs.Tables.{Overlay}
use Rattle.word_lookup.specs.Overlays.{fault_of_images, overlay_by_default}
use Rattle.line_segmenter.specs.Segmenters.{FitOver, Images, overlay_in, with_user}

-- equal images have equal errors
pub same_fault : (system same : List ℕ) (users others : List (List ℕ)) (fault : Option OverlayFault) → system ≡ same → users ≡ others
    → fault_of_images system users ≡ fault → fault_of_images same others ≡ fault
same_fault system same users others fault a b h = sym (λ i. fault_of_images (a i) (b i)) ∙ h

-- what holds for the users with a new one, and held for those before, holds whether the new one is
-- added or rejected
pub still_so : {T E : Type 0} (r : Result T E) (Is : List (List ℕ) → Type 0) (before after with_new : List (List ℕ)) → OnOk r (after ≡ with_new) → OnErr r (after ≡ before)
    → OnOk r (Is with_new) → Is before → Is after
still_so (Ok x) Is before after with_new added kept fits old = subst Is (sym added) fits
still_so (Err e) Is before after with_new added kept fits old = subst Is (sym kept) old

-- users that fit a system dictionary together with a new one have no error
pub fits_if : {T E : Type 0} (r : Result T E) (images : Images) (system : List ℕ) (users : List (List ℕ)) (user bytes : List ℕ)
    → record { system = system; users = users } ≡ images → user ≡ bytes → OnOk r (FitOver system (users ++ user ∷ []))
    → OnOk r (fault_of_images images.system (images.users ++ bytes ∷ []) ≡ None)
fits_if (Ok x) images system users user bytes is same go =
    same_fault system images.system (users ++ user ∷ []) (images.users ++ bytes ∷ []) None (λ i. (is i).system) (λ i. (is i).users ++ same i ∷ []) go.no_fault
fits_if (Err e) images system users user bytes is same go = tt

pub user_added : {T E : Type 0} (r : Result T E) (images : Images) (system : List ℕ) (users after : List (List ℕ)) (user bytes : List ℕ)
    → record { system = system; users = users } ≡ images → user ≡ bytes → OnOk r (after ≡ users ++ user ∷ [])
    → OnOk r (record { system = system; users = after } ≡ with_user images bytes)
user_added (Ok x) images system users after user bytes is same added =
    λ i. record { system = (is i).system; users = (added ∙ (λ j. (is j).users ++ same j ∷ [])) i }
user_added (Err e) images system users after user bytes is same added = tt

pub none_added : {T E : Type 0} (r : Result T E) (images : Images) (system : List ℕ) (users after : List (List ℕ))
    → record { system = system; users = users } ≡ images → OnErr r (after ≡ users) → OnErr r (record { system = system; users = after } ≡ images)
none_added (Ok x) images system users after is kept = tt
none_added (Err e) images system users after is kept = (λ i. record { system = system; users = kept i }) ∙ is

-- the overlay of images with a grouping is the default overlay with that grouping
pub overlay_found : (images : Images) (grouping : ℕ) (made by_default : Overlay) (system : List ℕ) (users same : List (List ℕ))
    → record { system = system; users = users } ≡ images → same ≡ users → by_default ≡ overlay_by_default system same → made ≡ record by_default { grouping = grouping }
    → made ≡ overlay_in images grouping
unfolding overlay_in
overlay_found images grouping made by_default system users same is d e f =
    f ∙ ap (λ (o : Overlay). record o { grouping = grouping }) e
    ∙ (λ i. record { system = image_tables (is i).system; users = map image_tables ((d ∙ ap (λ (p : Images). p.users) is) i); grouping = grouping })
