-- Reading a file of connection costs to its end, or until it is rejected.
use Rattle.std.proofs.Common.{◌≡◌, ◌⊎◌, ℕ, true, List, [], ◌++◌, sym, ap, ◌∙◌, subst, inl, inr, Option, None, Some, refl}
use Rattle.std.proofs.lemmas.List.{append-nil}
use Rattle.std.proofs.KnownBytes.{Consumes-trans}
use Rattle.std.specs.Prelude.{IfSome, is_some}
use Rattle.std.specs.Io.KnownBytes.{Consumes, IsAtEnd}
use Rattle.matrix_def.specs.Reading.{AreRejectedFor, reported_connection}
use Rattle.mj_model.specs.declared.source_fault.SourceFault.{SourceFault}
use Rattle.dictc_lib.specs.MatrixFiles.{AreRejected, HasReadEnough, HasReceived, IsReadFrom, IsReadUpTo, IsRejected}
use Rattle.dictc_lib.specs.declared.matrix_file.MatrixFile.{MatrixFile}

-- bytes mean what their prefix means if it is all of them, or if it is rejected whatever follows
pub meaning_of_prefix : (bytes prefix remainder : List ℕ) → bytes ≡ prefix ++ remainder → (remainder ≡ []) ⊎ AreRejected prefix → reported_connection bytes ≡ reported_connection prefix
meaning_of_prefix bytes prefix remainder parts (inl none) =
    ap reported_connection (parts ∙ ap (λ (more : List ℕ). prefix ++ more) none ∙ append-nil prefix)
meaning_of_prefix bytes prefix remainder parts (inr rejected) =
    ap reported_connection parts ∙ rejected.1 remainder ∙ sym (rejected.1 []) ∙ ap reported_connection (append-nil prefix)

-- bytes are rejected if an error is found for which they are
pub rejected_by : (bytes : List ℕ) (found : Option SourceFault) → is_some found ≡ true → IfSome found (λ fault. AreRejectedFor fault bytes) → AreRejected bytes
rejected_by bytes None some rejected = absurd (cc)
rejected_by bytes (Some fault) some rejected = (fault, rejected)

-- a read that gives nothing adds no bytes
pub consumes_none : (a b c : Option (List ℕ)) (bytes : List ℕ) → Consumes a b bytes → Consumes b c [] → Consumes a c bytes
consumes_none a b c bytes consumed none = subst (Consumes a c) (append-nil bytes) (Consumes-trans a b c bytes [] consumed none)

stopped : (rest bytes : List ℕ) → IsAtEnd (Some rest) ⊎ AreRejected bytes → (rest ≡ []) ⊎ AreRejected bytes
stopped rest bytes (inl end) = inl end
stopped rest bytes (inr rejected) = inr rejected

-- enough of a reader's bytes was read when reading stops
pub enough_read : (before after : Option (List ℕ)) (file : MatrixFile) → IsReadUpTo before after file → IsReadFrom before file
enough_read None after file read =
    let whole : HasReadEnough read.bytes file = record { prefix = read.bytes; remainder = []; parts = sym (append-nil read.bytes); received = read.received; enough = inl refl } in
    (read.bytes, whole, tt)
enough_read (Some xs) None file read = absurd read.consumed
enough_read (Some xs) (Some ys) file read =
    let part : HasReadEnough xs file = record { prefix = read.bytes; remainder = ys; parts = read.consumed; received = read.received; enough = stopped ys read.bytes read.stops } in
    (xs, part, refl)

either : (after : Option (List ℕ)) (file : MatrixFile) (bytes : List ℕ) → HasReceived bytes file → IsAtEnd after ⊎ AreRejected bytes → IsAtEnd after ⊎ IsRejected file
either after file bytes received (inl end) = inl end
either after file bytes received (inr rejected) = inr (bytes, received, rejected)

-- when reading stops, the reader is at its end or the bytes are rejected
pub end_or_rejected : (before after : Option (List ℕ)) (file : MatrixFile) → IsReadUpTo before after file → IsAtEnd after ⊎ IsRejected file
end_or_rejected before after file read = either after file read.bytes read.received read.stops
