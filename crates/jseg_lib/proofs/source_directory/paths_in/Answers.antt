use Rattle.std.proofs.Common.{rules, ◌≡◌, All, [], ◌∷◌, ◌++◌, String, string_bytes, subst, sym}
use Rattle.std.proofs.lemmas.List.Elements.{All-push}
use Rattle.std.proofs.lemmas.List.Sorted.{All-permutation}
use Rattle.std.specs.Fs.{dir_entry_name, dir_entry_path}
use Rattle.std.specs.declared.alloc.Global.{Global}
use Rattle.jseg_lib.specs.Directories.{IsLexiconIn}
use Rattle.jseg_lib.proofs.DirectoryLemmas.{ends_lexicon, name_lacks_slash}
use Rattle.jseg_lib.proofs.source_directory.paths_in.Goals as goal
use Rattle.jseg_lib.proofs.source_directory.paths_in.Goals.{then-ends_with+in_ok-joined+in_ok-push, else-ends_with}

pub loop-entry-preserved : goal.loop-entry-preserved
loop-entry-preserved g c =
    let IsLexicon : String Global → Type 0 = λ path. IsLexiconIn c.args.dir.now (string_bytes path) in
    let entry = c.in_ok-entry.entry in
    elim c.if-ends_with.branch [
      | then-ends_with+in_ok-joined+in_ok-push w ↦
          let path = w.in_ok-joined.field-0 in
          let is = ends_lexicon c.args.dir.now (dir_entry_name entry) c.file_name.result.now w.file_name-then-ends_with.result.now (string_bytes path) c.ends_with.result
          (name_lacks_slash (dir_entry_path entry)) c.file_name.ensures w.file_name-then-ends_with.ensures c.ends_with.ensures.cases w.if-ends_with.true
          w.in_ok-joined.ensures in
          let items : c.if-ends_with.paths.items ≡ c.loop-entry.paths.items ++ path ∷ [] = search rules in
          subst (All IsLexicon) (sym items) (All-push IsLexicon c.loop-entry.paths.items path c.loop-entry.invariant is)
      | else-ends_with w ↦
          let same : c.if-ends_with.paths.items ≡ c.loop-entry.paths.items = search rules in
          subst (All IsLexicon) (sym same) c.loop-entry.invariant
    ]

pub returns-clause-each : goal.returns-clause-each
returns-clause-each g c =
    All-permutation (λ path. IsLexiconIn c.args.dir.now (string_bytes path)) c.loop-entry.paths.items c.sort.new.self.items c.sort.ensures.permutation
    c.loop-entry.invariant
