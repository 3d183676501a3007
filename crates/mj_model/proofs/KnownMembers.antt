-- The known words at a position: the form of each of them, and that none is repeated.
use Rattle.std.proofs.Common.{◌≡◌, ℕ, suc, ◌+◌, ◌<◌, ◌≤◌, List, [], ◌∷◌, length, take, map, inl, inr, sym, ap, ◌∙◌, refl, arith, subst}
use Rattle.std.specs.Prelude.{bytes_eq}
use Rattle.std.specs.List.{AllByRecursion}
use Rattle.std.proofs.lemmas.List.{length-take-le}
use Rattle.std.proofs.lemmas.Simd.{map-map}
use Rattle.std.proofs.lemmas.Slice.Eq.{bytes_eq-Decides}
use Rattle.mj_model.specs.declared.word.Word.{Word}
use Rattle.mj_model.specs.declared.word.Origin.TheVariants.{Known}
use Rattle.mj_model.specs.Tables.{Token, Lexeme, HasDistinctTokens}
use Rattle.mj_model.specs.Lists.{up_to, IsMember, AreDistinct}
use Rattle.mj_model.specs.KnownWords.{known_word, entries_of_length, known_in, known_from}
use Rattle.mj_model.proofs.Members.{in_append, in_map, in_filter, in_flat_map, apart_append, apart_map, apart_filter, apart_flat_map, in_up_to, apart_up_to}

-- z is the word of an entry whose surface is the first n bytes of the text
pub record IsOfLength (place start : ℕ) (text : List ℕ) (dict : ℕ) (lexicon : List Lexeme) (n : ℕ) (z : Word) : Type 0 where
  pub entry : Lexeme
  pub listed : IsMember lexicon entry
  pub spelled : entry.surface ≡ take n text
  pub is : z ≡ known_word place start dict entry

-- z is a known word of a lexicon
pub record IsKnown (place start : ℕ) (text : List ℕ) (dict : ℕ) (lexicon : List Lexeme) (z : Word) : Type 0 where
  pub n : ℕ
  pub above : 0 < n
  pub low : n ≤ length text
  pub of_length : IsOfLength place start text dict lexicon n z

-- z is a known word of one of the lexicons, which are numbered from `first`
pub record IsKnownFrom (place start : ℕ) (text : List ℕ) (first : ℕ) (lexicons : List (List Lexeme)) (z : Word) : Type 0 where
  pub dict : ℕ
  pub later : first ≤ dict
  pub lexicon : List Lexeme
  pub among : IsMember lexicons lexicon
  pub is_known : IsKnown place start text dict lexicon z

known_end : (place start : ℕ) (text : List ℕ) (dict : ℕ) (lexicon : List Lexeme) (n : ℕ) (z : Word) → n ≤ length text → IsOfLength place start text dict lexicon n z → z.end ≡ start + n
known_end place start text dict lexicon n z low k =
    ap (λ (w : Word). w.end) k.is ∙ ap (λ (m : ℕ). start + m) (ap length k.spelled ∙ length-take-le n text low)

pub known_ends : (place start : ℕ) (text : List ℕ) (dict : ℕ) (lexicon : List Lexeme) (z : Word) (k : IsKnown place start text dict lexicon z) → z.end ≡ start + k.n
known_ends place start text dict lexicon z k = known_end place start text dict lexicon k.n z k.low k.of_length

pub known_origin : (place start : ℕ) (text : List ℕ) (dict : ℕ) (lexicon : List Lexeme) (z : Word) (k : IsKnown place start text dict lexicon z) → z.origin ≡ Known dict k.of_length.entry.token.number
known_origin place start text dict lexicon z k = ap (λ (w : Word). w.origin) k.of_length.is

in_length : (place start : ℕ) (text : List ℕ) (dict n : ℕ) (lexicon : List Lexeme) (z : Word) → IsMember (map (known_word place start dict) (entries_of_length text lexicon n)) z → IsOfLength place start text dict lexicon n z
in_length place start text dict n lexicon z h =
    let m = in_map (known_word place start dict) (entries_of_length text lexicon n) z h in
    let f = in_filter (λ e. bytes_eq e.surface (take n text)) lexicon m.0 m.1 in
    record { entry = m.0; listed = f.0; spelled = (bytes_eq-Decides m.0.surface (take n text)).0 f.1; is = sym m.2 }

in_known_in : (place start : ℕ) (text : List ℕ) (dict : ℕ) (lexicon : List Lexeme) (z : Word) → IsMember (known_in place start text dict lexicon) z → IsKnown place start text dict lexicon z
in_known_in place start text dict lexicon z h =
    let r = in_flat_map (λ n. map (known_word place start dict) (entries_of_length text lexicon n)) (up_to (length text)) z h in
    let u = in_up_to (length text) r.0 r.1 in
    record { n = r.0; above = u.0; low = u.1; of_length = in_length place start text dict r.0 lexicon z r.2 }

pub in_known_from : (place start : ℕ) (text : List ℕ) (dict : ℕ) (lexicons : List (List Lexeme)) (z : Word) → IsMember (known_from place start text dict lexicons) z → IsKnownFrom place start text dict lexicons z
in_known_from place start text dict [] z h = absurd h
in_known_from place start text dict (lexicon ∷ more) z h = elim (in_append (known_in place start text dict lexicon) (known_from place start text (suc dict) more) z h) [
  | inl i ↦ record { dict = dict; later = omega arith; lexicon = lexicon; among = inl refl; is_known = in_known_in place start text dict lexicon z i }
  | inr j ↦
      let r = in_known_from place start text (suc dict) more z j in
      let l = r.later in
      record { dict = r.dict; later = omega (arith, l); lexicon = r.lexicon; among = inr r.among; is_known = r.is_known }
]

-- ---- none is repeated

same_known : (a b s t : ℕ) → Known a s ≡ Known b t → (a ≡ b) × (s ≡ t)
same_known a b s t h = (cc, cc)

number_of : Lexeme → ℕ
number_of e = e.token.number

apart_known_in : (place start : ℕ) (text : List ℕ) (dict : ℕ) (lexicon : List Lexeme) → HasDistinctTokens (map (λ e. e.token) lexicon) → AreDistinct (known_in place start text dict lexicon)
unfolding number_of
apart_known_in place start text dict lexicon apart =
    let numbers : AreDistinct (map number_of lexicon) = subst AreDistinct (map-map (λ (t : Token). t.number) (λ (e : Lexeme). e.token) lexicon) apart in
    apart_flat_map (λ n. map (known_word place start dict) (entries_of_length text lexicon n)) (up_to (length text)) (apart_up_to (length text))
    (λ n i. apart_map (known_word place start dict) number_of (entries_of_length text lexicon n)
    (λ e f same. (same_known dict dict e.token.number f.token.number (ap (λ (w : Word). w.origin) same)).1)
    (apart_filter number_of (λ e. bytes_eq e.surface (take n text)) lexicon numbers))
    (λ n m z i j a b.
    let s = known_end place start text dict lexicon n z (in_up_to (length text) n i).1 (in_length place start text dict n lexicon z a) in
    let t = known_end place start text dict lexicon m z (in_up_to (length text) m j).1 (in_length place start text dict m lexicon z b) in
    omega (arith, s, t))

pub apart_known_from : (place start : ℕ) (text : List ℕ) (dict : ℕ) (lexicons : List (List Lexeme)) → AllByRecursion (λ lexicon. HasDistinctTokens (map (λ e. e.token) lexicon)) lexicons → AreDistinct (known_from place start text dict lexicons)
apart_known_from place start text dict [] apart = tt
apart_known_from place start text dict (lexicon ∷ more) apart =
    apart_append (known_in place start text dict lexicon) (known_from place start text (suc dict) more)
    (apart_known_in place start text dict lexicon apart.0)
    (apart_known_from place start text (suc dict) more apart.1)
    (λ z i j.
    let a = in_known_in place start text dict lexicon z i in
    let b = in_known_from place start text (suc dict) more z j in
    let same = (same_known dict b.dict a.of_length.entry.token.number b.is_known.of_length.entry.token.number
    (sym (known_origin place start text dict lexicon z a) ∙ known_origin place start text b.dict b.lexicon z b.is_known)).0 in
    let later = b.later in
    omega (arith, same, later))
