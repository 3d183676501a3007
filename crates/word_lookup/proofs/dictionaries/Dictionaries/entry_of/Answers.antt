use Rattle.std.proofs.Common.{sym, ap, ◌∙◌}
use Rattle.mj_model.specs.Printed.{feature_of, unknown_entries}
use Rattle.word_lookup.specs.Overlays.{overlay_of}
use Rattle.word_lookup.proofs.FeatureLemmas.{feature_found, known_feature}
use Rattle.word_lookup.proofs.dictionaries.Dictionaries.entry_of.Goals as goal

pub returns-in_ok-dictionary-in-Known : goal.returns-in_ok-dictionary-in-Known
unfolding overlay_of
returns-in_ok-dictionary-in-Known c =
    known_feature _ _ c.in-Known.token c.known_token.result c.in_ok-dictionary-in-Known.ensures c.known_token.ensures ∙ ap (feature_of (overlay_of c.args.self.now)) (sym c.in-Known.is)

pub returns-in-Unknown : goal.returns-in-Unknown
unfolding overlay_of
returns-in-Unknown c =
    let o = overlay_of c.args.self.now in
    feature_found (unknown_entries o) c.in-Unknown.token c.unknown_token.result c.unknown_token.ensures ∙ ap (feature_of o) (sym c.in-Unknown.is)
