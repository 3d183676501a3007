use Rattle.std.proofs.Common.{All, IsSorted, refl, inl, inr, string_bytes, string_cmp, subst, sym}
use Rattle.std.proofs.lemmas.List.Elements.{All-map}
use Rattle.std.proofs.lemmas.Result.{err_from_is_err_and}
use Rattle.std.specs.Cmp.Lexicographic.{slice_cmp}
use Rattle.std.specs.Ordering.{nat_cmp}
use Rattle.jseg_lib.specs.Directories.{IsLexiconIn, matrix_path}
use Rattle.jseg_lib.proofs.DirectoryLemmas.{bytes_in_order, one_of_lexicons}
use Rattle.jseg_lib.proofs.source_directory.read_directory.Goals as goal

pub returns-in_err-matrix-clause-fault : goal.returns-in_err-matrix-clause-fault
returns-in_err-matrix-clause-fault g c =
    let p = err_from_is_err_and c.from_residual.result c.from_residual.ensures.1 in
    rw (p.1, p.2) (matrix_path c.args.dir.now, inr (inl refl), c.in_err-matrix.ensures.fault)

pub returns-in_err-read_files-clause-fault : goal.returns-in_err-read_files-clause-fault
returns-in_err-read_files-clause-fault g c =
    let p = err_from_is_err_and c.from_residual-in_err-read_files.result c.from_residual-in_err-read_files.ensures.1 in
    let dir = c.args.dir.now in
    let each = subst (All (λ path. IsLexiconIn dir (string_bytes path))) (sym c.deref.ensures.value) c.in_ok-lexicon_paths.ensures.each in
    rw (p.1, p.2) (one_of_lexicons dir c.deref.result.now c.in_err-read_files.field-0.0 each c.in_err-read_files.ensures.fault)

pub returns-clause-lexicons : goal.returns-clause-lexicons
returns-clause-lexicons g c =
    let dir = c.args.dir.now in
    let each = subst (All (λ path. IsLexiconIn dir (string_bytes path))) (sym c.deref.ensures.value) c.in_ok-lexicon_paths.ensures.each in
    subst (All (IsLexiconIn dir)) (sym c.in_ok-read_files.ensures.paths) (All-map (IsLexiconIn dir) (λ path. string_bytes path) c.deref.result.now each)

pub returns-clause-order : goal.returns-clause-order
returns-clause-order g c =
    let order = subst (IsSorted string_cmp) (sym c.deref.ensures.value) c.in_ok-lexicon_paths.ensures.order in
    subst (IsSorted (slice_cmp nat_cmp)) (sym c.in_ok-read_files.ensures.paths) (bytes_in_order c.deref.result.now order)
