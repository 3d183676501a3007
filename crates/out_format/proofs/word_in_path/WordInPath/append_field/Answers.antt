use Rattle.std.proofs.Common.{List, ℕ, subst}
use Rattle.std.specs.Prelude.{OnOk}
use Rattle.out_format.specs.Results.{GrowsByField}
use Rattle.out_format.proofs.FollowLemmas.{feature_is}
use Rattle.out_format.proofs.word_in_path.WordInPath.append_field.Goals as goal

pub returns-clause-appended : goal.returns-clause-appended
returns-clause-appended c =
    subst (λ (feature : List ℕ). OnOk c.append_printed_field.result (GrowsByField feature c.args.n c.args.out.now.items c.append_printed_field.new.out.items)) (feature_is _ _ _ c.requires.feature)
    c.append_printed_field.ensures.appended
