use Rattle.std.proofs.Common.{◌<◌, ℕ, map, sym, ap, ◌∙◌, subst}
use Rattle.std.specs.List.{AllByRecursion}
use Rattle.image_format.specs.ImageBytes.{header_of}
use Rattle.image_format.specs.ImageMeaning.{lexicon_sections}
use Rattle.dict_image.specs.Prefixes.{prefix_in}
use Rattle.dict_image.proofs.FormedLemmas.{keys_are, groups_are}
use Rattle.dict_image.proofs.PrefixLemmas.{hits_below, prefixes_are}
use Rattle.dict_image.proofs.hits.Prefixes.new.Goals as goal

pub invariant_of-result : goal.invariant_of-result
invariant_of-result c =
    let bytes = c.args.dict.now in
    subst (AllByRecursion (λ (hit : ℕ × ℕ). hit.1 < (header_of bytes).groups)) (sym c.hits.ensures.hits) (hits_below (header_of bytes).groups (lexicon_sections bytes) c.args.text.now (keys_are bytes c.hits.ensures.formed))

pub returns-clause-prefixes : goal.returns-clause-prefixes
returns-clause-prefixes c =
    let bytes = c.args.dict.now in
    ap (map (prefix_in (lexicon_sections bytes))) c.hits.ensures.hits
    ∙ prefixes_are (header_of bytes).groups (lexicon_sections bytes) c.args.text.now (keys_are bytes c.hits.ensures.formed) (groups_are bytes c.hits.ensures.formed).rising
