-- The laws of words and paths over dictionaries: each is a precondition of the search.
use Rattle.std.proofs.Common.{◌≡◌, ℕ, ◌≤◌, true, false, ◌==◌, List, [], ◌∷◌, length, map, refl, subst}
use Rattle.std.specs.Prelude.{IsTrue, IsUtf8}
use Rattle.std.specs.List.{AllByRecursion}
use Rattle.std.proofs.lemmas.Bool.{and_parts, eqb-true}
use Rattle.mj_model.specs.declared.limits.TheConstants.{SENTENCE_MAX}
use Rattle.mj_model.specs.declared.matrix_sizes.MatrixSizes.{MatrixSizes}
use Rattle.mj_model.specs.Connection.{is_pair}
use Rattle.image_format.specs.ImageMeaning.{image_tables}
use Rattle.mj_model.specs.Tables.{HasText, HasDistinctTokens, Kind, System, User, Tables, Lexeme, lexicons_of}
use Rattle.mj_model.specs.Blanks.{space}
use Rattle.mj_model.specs.Laws.{HasWords, CoversAll}
use Rattle.mj_model.specs.Overlays.{is_user, are_same_sizes}
use Rattle.mj_model.specs.Searchable.{IsSearchable}
use Rattle.mj_model.specs.Words.{is_place, words}
use Rattle.word_lookup.specs.declared.dictionaries.Dictionaries.{Dictionaries}
use Rattle.word_lookup.specs.Fitting.{AreLaidOver, IsUserOf}
use Rattle.word_lookup.specs.Overlays.{overlay_of}
use Rattle.word_lookup.proofs.UserLemmas.{laid_over}
use Rattle.word_lookup.proofs.OverlayLaws.{searchable_overlay, EntriesFit, IsFittingLexeme}

-- ---- user dictionaries

users_text : (sizes : MatrixSizes) (users : List Tables) → AllByRecursion (IsUserOf sizes) users → AllByRecursion (AllByRecursion HasText) (lexicons_of users)
users_text sizes [] all = tt
users_text sizes (user ∷ users) all = (all.0.fits.surfaces, users_text sizes users all.1)

users_apart : (sizes : MatrixSizes) (users : List Tables) → AllByRecursion (IsUserOf sizes) users → AllByRecursion (λ lexicon. HasDistinctTokens (map (λ (e : Lexeme). e.token) lexicon)) (lexicons_of users)
users_apart sizes [] all = tt
users_apart sizes (user ∷ users) all = (all.0.fits.lexicon_apart, users_apart sizes users all.1)

same_sizes : (a b : MatrixSizes) → are_same_sizes a b ≡ true → a ≡ b
same_sizes a b h =
    let both = and_parts (a.right == b.right) (a.left == b.left) h in
    let right = eqb-true a.right b.right both.0 in
    let left = eqb-true a.left b.left both.1 in
    λ i. record { right = right i; left = left i }

users_fit : (sizes : MatrixSizes) (users : List Tables) → AllByRecursion (IsUserOf sizes) users → AllByRecursion (AllByRecursion (IsFittingLexeme sizes)) (lexicons_of users)
users_fit sizes [] all = tt
users_fit sizes (user ∷ users) all =
    (subst (λ (s : MatrixSizes). AllByRecursion (IsFittingLexeme s) user.lexicon) (same_sizes user.sizes sizes all.0.same_sizes) all.0.fits.lexicon, users_fit sizes users all.1)

-- ---- the laws

pub system_by : (kind : Kind) → is_user kind ≡ false → kind ≡ System
system_by System h = refl
system_by User h = absurd (cc)

facts : (d : Dictionaries) → AreLaidOver (image_tables d.system.now) (map image_tables d.users.now)
facts d = laid_over (image_tables d.system.now) (map image_tables d.users.now) d.fitting

pub is_system : (d : Dictionaries) → (image_tables d.system.now).kind ≡ System
is_system d = system_by (image_tables d.system.now).kind (facts d).is_system

pub space_of : (d : Dictionaries) → d.space ≡ (overlay_of d).system.info space
unfolding overlay_of
space_of d = λ i. record { bits = d.space_is.bits i; head = d.space_is.head i }

pub has_words : (d : Dictionaries) → HasWords (overlay_of d)
unfolding overlay_of
has_words d =
    let f = facts d in
    let t = image_tables d.system.now in
    let users = map image_tables d.users.now in
    record {
      surfaces = (f.fits.surfaces, users_text t.sizes users f.users_fit);
      known_apart = (f.fits.lexicon_apart, users_apart t.sizes users f.users_fit);
      unknown_apart = f.fits.unknown_apart;
    }

pub covers_all : (d : Dictionaries) → CoversAll (overlay_of d)
unfolding overlay_of
covers_all d = λ code within. (facts d).fits.covered (is_system d) code

entries_fit : (d : Dictionaries) → EntriesFit (image_tables d.system.now).sizes (overlay_of d)
unfolding overlay_of
entries_fit d =
    let f = facts d in
    let t = image_tables d.system.now in
    record {
      known_fit = (f.fits.lexicon, users_fit t.sizes (map image_tables d.users.now) f.users_fit);
      unknown_fit = f.fits.unknown;
    }

-- a line over dictionaries can be searched
pub searchable : (d : Dictionaries) (text : List ℕ) → IsUtf8 text → length text ≤ SENTENCE_MAX
    → IsSearchable (λ p. IsTrue (is_place text p)) (λ right left. IsTrue (is_pair (overlay_of d).system.sizes right left)) (words (overlay_of d) text) (overlay_of d).system.connection (length text)
unfolding overlay_of
searchable d text u short =
    let f = facts d in
    searchable_overlay (image_tables d.system.now).sizes (overlay_of d) text (has_words d) (entries_fit d) f.fits.no_words f.fits.connections u short
