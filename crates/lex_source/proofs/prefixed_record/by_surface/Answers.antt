use Rattle.std.specs.Cow.{cow_str_bytes}
use Rattle.lex_source.proofs.PrefixLemmas.{reported_by_heads}
use Rattle.lex_source.proofs.prefixed_record.by_surface.Goals as goal

pub returns-in_default : goal.returns-in_default
returns-in_default c =
    let a = c.args.a.now in
    let b = c.args.b.now in
    reported_by_heads (cow_str_bytes a.row.surface) (cow_str_bytes b.row.surface) a.head b.head c.cmp.result a.front b.front c.cmp.ensures c.in_default.not-Equal
