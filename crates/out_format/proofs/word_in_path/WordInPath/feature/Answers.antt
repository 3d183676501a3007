use Rattle.std.proofs.Common.{◌∙◌}
use Rattle.out_format.proofs.FollowLemmas.{feature_is}
use Rattle.out_format.proofs.word_in_path.WordInPath.feature.Goals as goal

pub returns : goal.returns
returns c = c.text.ensures ∙ feature_is _ _ _ c.requires.feature
