use Rattle.std.proofs.lemmas.List.Sorted.{All-permutation}
use Rattle.std.proofs.lemmas.Result.{IfOk-weaker}
use Rattle.std.specs.Prelude.{IsPermutation, string_bytes}
use Rattle.programs.specs.ImageDirs.{AreBare, IsBare}
use Rattle.programs.proofs.folder_names.image_names.Goals as goal

pub returns-in-Ok-clause-named : goal.returns-in-Ok-clause-named
returns-in-Ok-clause-named c =
    let names = c.in-Ok.names.items in
    IfOk-weaker c.in_byte_order.result (λ ordered. IsPermutation names ordered.items) (λ ordered. AreBare ordered.items)
    (λ ordered same. All-permutation (λ name. IsBare (string_bytes name)) names ordered.items same c.in-Ok.ensures.named) c.in_byte_order.ensures.same
