use Rattle.std.proofs.Common.{◌≡◌, ℕ, ◌≤◌, List, length, subst}
use Rattle.image_format.specs.ImageBytes.{header_length, header_of}
use Rattle.jseg_lib.proofs.listing.entries_of.Goals as goal

pub returns-in-Ok-clause-entries : goal.returns-in-Ok-clause-entries
returns-in-Ok-clause-entries c =
    let Reports : List ℕ → Type 0 = λ bytes. header_length ≤ length bytes → c.entries_in-entries.result ≡ (header_of bytes).tokens in
    subst Reports c.deref.ensures.value c.entries_in-entries.ensures
