-- What a reader gave in two steps, and in both together.
use Rattle.std.proofs.Common.{◌≡◌, ℕ, ◌+◌, ◌≤◌, ◌<◌, List, [], ◌++◌, length, subst, sym, ap, ◌∙◌, append_assoc, arith, Vec, Global}
use Rattle.std.specs.Prelude.{Option, IfSome}
use Rattle.std.proofs.lemmas.List.{length-append}
use Rattle.std.specs.Io.KnownBytes.{Consumes, IsAtEnd}
use Rattle.std.proofs.KnownBytes.{Consumes-all, Consumes-trans}
use Rattle.programs.specs.Reading.{GivesAtLeast, IsPrefixRead, IsReadOn}
use Rattle.programs.specs.declared.prefix_read.PrefixRead.{PrefixRead}
use Rattle.programs.specs.declared.prefix_read.PrefixRead.TheVariants.{More}

-- what was read to the end is all that remained
pub read_is_all : (a b : Option (List ℕ)) (now : List ℕ) → IsReadOn [] a b now → IsAtEnd b → IfSome a (λ known. now ≡ known)
read_is_all a b now read at_end = Consumes-all a b read.0 [] now read.1 at_end read.2

-- bytes read after `earlier`, and then further bytes
pub read_further : (a b c : Option (List ℕ)) (earlier first now : List ℕ) → IsReadOn earlier a b first → IsReadOn first b c now → IsReadOn earlier a c now
read_further a b c earlier first now one two =
    (one.0 ++ two.0, Consumes-trans a b c one.0 two.0 one.1 two.1, two.2 ∙ ap (λ l. l ++ two.0) one.2 ∙ append_assoc earlier one.0 two.0)

-- each of the remaining reads gave at least one byte too
pub gives_further : (reads left : ℕ) (a b c : Option (List ℕ)) (first : List ℕ) → IsReadOn [] a b first → reads ≤ length first + left → GivesAtLeast left b c → GivesAtLeast reads a c
gives_further reads left a b c first one few two =
    let whole = length-append one.0 two.0 in
    let front = ap length one.2 in
    let many = two.2 in
    (one.0 ++ two.0, Consumes-trans a b c one.0 two.0 one.1 two.1, omega (arith, few, many, whole, front))

-- bytes read from the start were consumed
pub consumed : (a b : Option (List ℕ)) (now : List ℕ) → IsReadOn [] a b now → Consumes a b now
consumed a b now read = subst (Consumes a b) (sym read.2) read.1

-- bytes read from the start, if there are more
pub started : (most reads width left : ℕ) (a b : Option (List ℕ)) (front : PrefixRead (Vec ℕ Global)) (bytes : Vec ℕ Global) → front ≡ More bytes left
    → IsPrefixRead (λ (v : Vec ℕ Global) (now : List ℕ). v.items ≡ now) most reads width [] a b front
    → IsReadOn [] a b bytes.items × (most < length bytes.items) × (reads ≤ length bytes.items + left) × (length bytes.items ≤ most + width)
started most reads width left a b front bytes is read =
    let more = subst (IsPrefixRead (λ (v : Vec ℕ Global) (now : List ℕ). v.items ≡ now) most reads width [] a b) is read in
    let long = ap length more.1 in
    let much = more.3 in
    let few = more.4 in
    let near = more.5 in
    (subst (λ (now : List ℕ). IsReadOn [] a b now) (sym more.1) more.2, omega (arith, long, much), omega (arith, long, few), omega (arith, long, near))
