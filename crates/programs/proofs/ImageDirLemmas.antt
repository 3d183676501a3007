-- Directories as strings and as byte lists: a search among the strings finds the same as a search
-- among the lists.
use Rattle.std.proofs.Common.{◌≡◌, ℕ, true, false, cond, ◌||◌, List, [], ◌∷◌, ◌++◌, map, refl, ap, sym, ◌∙◌}
use Rattle.std.proofs.lemmas.List.{map-append}
use Rattle.std.specs.Prelude.{String, string_bytes, string_eq, bytes_eq}
use Rattle.std.specs.List.{list_any}
use Rattle.std.specs.declared.alloc.Global.{Global}
use Rattle.programs.specs.ImageDirs.{with_image_dir}

pub among-texts : (x : String Global) (ss : List (String Global))
    → list_any (λ s. string_eq s x) ss ≡ list_any (λ t. bytes_eq t (string_bytes x)) (map (λ s. string_bytes s) ss)
among-texts x [] = refl
among-texts x (s ∷ ss) = ap (λ rest. bytes_eq (string_bytes s) (string_bytes x) || rest) (among-texts x ss)

pub with_image_dir-there : (x : String Global) (ss : List (String Global)) → list_any (λ s. string_eq s x) ss ≡ true
    → map (λ s. string_bytes s) ss ≡ with_image_dir (map (λ s. string_bytes s) ss) (string_bytes x)
with_image_dir-there x ss there =
    let ts : List (List ℕ) = map (λ s. string_bytes s) ss in
    ap (λ b. cond b ts (ts ++ string_bytes x ∷ [])) (sym there ∙ among-texts x ss)

pub with_image_dir-new : (x : String Global) (ss : List (String Global)) → list_any (λ s. string_eq s x) ss ≡ false
    → map (λ s. string_bytes s) (ss ++ x ∷ []) ≡ with_image_dir (map (λ s. string_bytes s) ss) (string_bytes x)
with_image_dir-new x ss new =
    let ts : List (List ℕ) = map (λ s. string_bytes s) ss in
    map-append (λ s. string_bytes s) ss (x ∷ [])
    ∙ ap (λ b. cond b ts (ts ++ string_bytes x ∷ [])) (sym new ∙ among-texts x ss)
