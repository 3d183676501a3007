use Rattle.std.proofs.Common.{◌≡◌, ◌-◌, ◌<◌, List, Some, get_or, length, slice_get, subst, sym}
use Rattle.mj_model.specs.declared.word.Word.{Word}
use Rattle.viterbi.proofs.SurfaceNodeLemmas.{no_group, node_has_word, node_word_within}
use Rattle.viterbi.proofs.search.best_words.node_word.Goals as goal

pub word-requires : goal.word-requires
word-requires g c =
    let surface_nodes = get_or c.args.by_surface.now c.args.number no_group in
    let i = surface_nodes.surface.count - 1 - (c.args.node - surface_nodes.from) in
    subst (λ (ws : List Word). i < length ws) (sym c.words_of.ensures)
    (node_word_within (g.S.WordSource.searched_text c.args.source.now).surface_words c.args.by_surface.now c.requires.by_surface c.args.number c.args.node c.requires.node)

pub returns : goal.returns
returns g c =
    let surface_nodes = get_or c.args.by_surface.now c.args.number no_group in
    let i = surface_nodes.surface.count - 1 - (c.args.node - surface_nodes.from) in
    node_has_word (g.S.WordSource.searched_text c.args.source.now).surface_words c.args.by_surface.now c.requires.by_surface c.args.number c.args.node c.word.result c.requires.node
    (subst (λ (ws : List Word). slice_get ws i ≡ Some c.word.result) c.words_of.ensures c.word.ensures)
