-- The first character of a text.
use Rattle.std.proofs.Common.{◌≡◌, ℕ, ◌-◌, List, [], ◌∷◌, ◌++◌, length, arith, refl, sym, ap, ◌∙◌, subst}
use Rattle.std.specs.Prelude.{IsUtf8, chars, encode_utf8, encode_utf8_all, Option, Some, None, unwrap_or}
use Rattle.std.specs.Char.{len_utf8}
use Rattle.std.proofs.lemmas.List.{length-append}
use Rattle.std.proofs.lemmas.Option.{same_Some}
use Rattle.std.proofs.lemmas.Str.{encodes-chars, length-encode}
use Rattle.mj_model.specs.declared.category.CharInfo.{CharInfo}
use Rattle.word_lookup.specs.CategoryScans.{IsFirst}
use Rattle.word_lookup.specs.FirstCharacters.{first_in}
use Rattle.word_lookup.specs.declared.first_character.FirstCharacter.{FirstCharacter}
use Rattle.word_lookup.proofs.PlaceLemmas.{first_taken}

-- the bytes between a text and what is left of it
pub bytes_taken : (text bytes rest left : List ℕ) (c : ℕ) → bytes ≡ text → bytes ≡ encode_utf8 c ++ rest → left ≡ rest → length text - length left ≡ len_utf8 c
bytes_taken text bytes rest left c same spelled is =
    let all = ap length (sym same ∙ spelled) in
    let both = length-append (encode_utf8 c) rest in
    let one = length-encode c in
    let suffix = ap length is in
    omega (arith, all, both, one, suffix)

-- a first character with its bytes and categories is the one of the definition
pub first_is : (info : ℕ → CharInfo) (all rest : List ℕ) (c bytes : ℕ) (entry : CharInfo) → all ≡ c ∷ rest → bytes ≡ len_utf8 c → entry ≡ info c
    → Some (record { character = c; bytes = bytes; info = entry }) ≡ first_in info all
first_is info all rest c bytes entry split width is = (λ i. Some (record { character = c; bytes = width i; info = is i })) ∙ sym (ap (first_in info) split)

pub none_is : (info : ℕ → CharInfo) (all : List ℕ) → all ≡ [] → None ≡ first_in info all
none_is info all none = sym (ap (first_in info) none)

-- the first character of a text has its bytes and its categories
pub record IsFound (info : ℕ → CharInfo) (text : List ℕ) (f : FirstCharacter) : Type 0 where
  pub first : IsFirst text f.character (len_utf8 f.character)
  pub bytes : f.bytes ≡ len_utf8 f.character
  pub is : f.info ≡ info f.character

found_by : (info : ℕ → CharInfo) (text : List ℕ) (f : FirstCharacter) (cs : List ℕ) → IsUtf8 text → chars text ≡ cs → first_in info cs ≡ Some f → IsFound info text f
found_by info text f [] u split h = absurd (cc)
found_by info text f (c ∷ cs) u split h =
    let same : record { character = c; bytes = len_utf8 c; info = info c } ≡ f = same_Some _ f h in
    subst (IsFound info text) same (record {
      first = first_taken text text (encode_utf8_all cs) c (len_utf8 c) u refl (sym (encodes-chars text u) ∙ ap encode_utf8_all split) refl;
      bytes = refl;
      is = refl;
    })

pub found : (info : ℕ → CharInfo) (text : List ℕ) (f : FirstCharacter) → IsUtf8 text → Some f ≡ first_in info (chars text) → IsFound info text f
found info text f u h = found_by info text f (chars text) u refl (sym h)

-- a first character that exists was found, whatever the default is
pub found_or : (info : ℕ → CharInfo) (cs : List ℕ) (seen : Option FirstCharacter) (default f : FirstCharacter) → seen ≡ first_in info cs → f ≡ unwrap_or seen default → (cs ≡ [] → ⊥) → Some f ≡ first_in info cs
found_or info [] seen default f is e some = absurd (some refl)
found_or info (c ∷ cs) seen default f is e some = ap Some (e ∙ ap (λ (o : Option FirstCharacter). unwrap_or o default) is)

none_by : (info : ℕ → CharInfo) (cs : List ℕ) → first_in info cs ≡ None → cs ≡ []
none_by info [] h = refl
none_by info (c ∷ cs) h = absurd (cc)

pub none_found : (info : ℕ → CharInfo) (cs : List ℕ) → None ≡ first_in info cs → cs ≡ []
none_found info cs h = none_by info cs (sym h)
