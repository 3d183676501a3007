use Rattle.std.proofs.Common.{◌≡◌, List, Some, ap, arith, length, slice_get, subst}
use Rattle.mj_model.specs.declared.word.Word.{Word}
use Rattle.word_lookup.proofs.dictionaries.Dictionaries.word.Goals as goal

pub word-requires : goal.word-requires
word-requires c =
    let all = ap length c.words_of.ensures in
    let count = c.requires.surface.count_is in
    let within = c.requires.within in
    omega (arith, all, count, within)

pub returns : goal.returns
returns c = subst (λ (ws : List Word). slice_get ws c.args.i ≡ Some c.word.result) c.words_of.ensures c.word.ensures
