use Rattle.out_format.proofs.FollowLemmas.{path_followable}
use Rattle.out_format.proofs.printing.print_words.Goals as goal

pub append_path-appended-requires-clause-words : goal.append_path-appended-requires-clause-words
append_path-appended-requires-clause-words g c = path_followable c.args.dictionaries.now c.args.text.now _ c.utf8.text c.requires.short c.requires.path
