use Rattle.std.proofs.Common.{ℕ, List, sym, ap, ◌∙◌}
use Rattle.image_format.specs.ImageBytes.{header_of}
use Rattle.image_format.specs.ImageMeaning.{lexicon_sections, entries_under, image_tables}
use Rattle.dict_image.proofs.FormedLemmas.{keys_are}
use Rattle.dict_image.proofs.LexiconLemmas.{entries_of_value, entries_of_none}
use Rattle.dict_image.proofs.dict.Dict.entries.Goals as goal

pub group-requires : goal.group-requires
group-requires c =
    let bytes = c.args.self.now in
    (keys_are bytes c.group_of.ensures.formed).below c.as_bytes.result.now c.in-Some.group (sym c.group_of.ensures.group ∙ c.in-Some.is)

pub returns-in-Some : goal.returns-in-Some
returns-in-Some c =
    let bytes = c.args.self.now in
    c.group.ensures ∙ sym (entries_of_value (header_of bytes).groups (lexicon_sections bytes) c.as_bytes.result.now c.in-Some.group (keys_are bytes c.group_of.ensures.formed) (sym c.group_of.ensures.group ∙ c.in-Some.is))
    ∙ ap (λ (key : List ℕ). entries_under key (image_tables bytes).lexicon) c.as_bytes.ensures.value

pub returns-in-None : goal.returns-in-None
returns-in-None c =
    let bytes = c.args.self.now in
    c.none.ensures ∙ sym (entries_of_none (header_of bytes).groups (lexicon_sections bytes) c.as_bytes.result.now (keys_are bytes c.group_of.ensures.formed) (sym c.group_of.ensures.group ∙ c.in-None.is))
    ∙ ap (λ (key : List ℕ). entries_under key (image_tables bytes).lexicon) c.as_bytes.ensures.value
