use Rattle.std.proofs.Common.{rules, ◌≡◌, [], arith}
use Rattle.std.proofs.lemmas.Str.Pattern.{contains_char}
use Rattle.programs.proofs.SlashLemmas.{bare_without}
use Rattle.programs.proofs.named_image.is_bare.Goals as goal

pub returns-then-not-is_empty : goal.returns-then-not-is_empty
returns-then-not-is_empty c =
    let name = c.args.name.now in
    let some : name ≡ [] → ⊥ = search rules in
    let found = contains_char 47 name c.contains.result c.contains.ensures.cases (omega arith) in
    bare_without name c.contains.result some found.0 found.1
