use Rattle.std.proofs.Common.{◌<◌, ◌^◌, rules}
use Rattle.std.proofs.lemmas.List.Elements.{All-from_get_or, recursion_from_All}
use Rattle.image_writer.proofs.header.append_lengths.Goals as goal

pub returns-clause-short : goal.returns-clause-short
returns-clause-short c =
    recursion_from_All (λ n. n < 2 ^ 64) c.args.lengths (All-from_get_or (λ n. n < 2 ^ 64) c.args.lengths 0 (λ i less. search rules))
