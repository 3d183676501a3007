-- Texts without separators.
use Rattle.std.specs.Prelude.{ℕ, List, flat_map}
use denote.Ref.{Bor}

-- the concatenation of texts
abbrev pub joined_texts : List (Bor (List ℕ)) → List ℕ
joined_texts texts = flat_map (λ (text : Bor (List ℕ)). text.now) texts
