-- A reader that prints warnings while a text is read.
use Rattle.std.specs.Prelude.{◌≡◌, ◌<◌, ℕ, List, ◌++◌, Option, IfSome, Result, Ok, IfOk, length, take}
use Rattle.jseg_lib.specs.TextWarnings.{HasScanned, warnings_of, warnings_so_far}
use Rattle.jseg_lib.specs.declared.text_warnings.TextWarnings.{TextWarnings}

-- the bytes `read` were scanned, if warnings are printed
abbrev pub HasWatched : List ℕ → Option TextWarnings → Type 0
HasWatched read warnings = IfSome warnings (λ w. HasScanned read w.scan)

-- the warnings that are due whatever follows were printed, if warnings are printed
abbrev pub HasPrintedDue : Option TextWarnings → Type 0
HasPrintedDue warnings = IfSome warnings (λ w. w.printed ≡ warnings_so_far w.scan)

-- the warnings about `text` were printed, if warnings are printed
abbrev pub HasPrintedAll : List ℕ → Option TextWarnings → Type 0
HasPrintedAll text warnings = IfSome warnings (λ w. w.printed ≡ warnings_of text)

-- a read with this result was watched. `buf` is its buffer after the read
pub record IsWatchedRead {E : Type 0} (result : Result ℕ E) (buf : List ℕ) (before after : Option TextWarnings) : Type 0 where
  -- the bytes that it gave were scanned
  pub scanned : IfOk result (λ count. (read : List ℕ) → HasWatched read before → HasWatched (read ++ take count buf) after)
  -- each warning was printed as soon as the bytes read show that it is due
  pub due : IfOk result (λ count. 0 < count → HasPrintedDue after)
  -- after a read that found the end, the warnings about the whole text were printed
  pub all : result ≡ Ok 0 → 0 < length buf → (text : List ℕ) → HasWatched text before → HasPrintedAll text after
