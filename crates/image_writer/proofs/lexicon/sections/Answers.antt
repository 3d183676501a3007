use Rattle.std.proofs.Common.{refl}
use Rattle.std.specs.Prelude.{flat_map}
use Rattle.image_writer.proofs.LexiconLemmas.{all_entries}
use Rattle.image_writer.proofs.lexicon.sections.Goals as goal

pub returns : goal.returns
returns c = λ lexicon unknown keys written. record {
  keys = keys.hold_keys;
  cells = keys.cells;
  groups = keys.is_index;
  few_groups = keys.few;
  tokens = written.tokens;
  means = all_entries _ lexicon (flat_map (λ rows. rows) unknown) c.args.keys.groups refl written.tokens keys.is_index keys.entries;
  features = written.features;
  few_features = written.few;
}
