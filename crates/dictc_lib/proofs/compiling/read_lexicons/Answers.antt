use Rattle.std.proofs.Common.{rules, arith, ◌≡◌, ℕ, ◌+◌, ◌<◌, List, [], ◌∷◌, ◌++◌, length, map, take, get_or, Ok, String, string_bytes, ap, subst, sym, inr, ◌∙◌}
use Rattle.std.proofs.lemmas.Grind.{common_steps, take_at_read}
use Rattle.std.proofs.lemmas.Result.{err_from_is_err_and}
use Rattle.std.proofs.lemmas.Slice.Zip.{all_zipped_more}
use Rattle.std.specs.Prelude.{Result}
use Rattle.std.specs.declared.alloc.Global.{Global}
use Rattle.programs.specs.Faults.{Names}
use Rattle.programs.specs.declared.fault.Fault.{Fault}
use Rattle.programs.specs.declared.fault.Fault.TheVariants.{File}
use Rattle.programs.specs.declared.whole_file.WholeFile.{WholeFile}
use Rattle.dictc_lib.specs.RequestedImages.{AreReadFrom}
use Rattle.dictc_lib.proofs.compiling.read_lexicons.Goals as goal

-- one more file that was read
more_read : (reads : List ℕ → Result WholeFile Fault → Type 0) (paths : List (String Global)) (i : ℕ) (path : String Global) (files : List WholeFile) (file : WholeFile)
    → i < length paths → path ≡ get_or paths i path → AreReadFrom reads (take i paths) files → reads (string_bytes path) (Ok file)
    → AreReadFrom reads (take (i + 1) paths) (files ++ file ∷ [])
more_read reads paths i path files file here is read this =
    let more : take (i + 1) paths ≡ take i paths ++ path ∷ [] =
    (take_at_read paths i path here).1 ∙ ap (λ (x : String Global). take i paths ++ x ∷ []) (sym is) in
    rw more (all_zipped_more _ (take i paths) files path file read this)

pub loop-path-preserved : goal.loop-path-preserved
loop-path-preserved g c =
    let was = c.loop-path.invariant.1 in
    let path = c.path-item.result in
    let file = c.in_ok-file.file in
    let items : c.push.new.self.items ≡ c.loop-path.lexicons.items ++ file ∷ [] = search rules in
    let paths : map (λ file. string_bytes file.path) c.push.new.self.items ≡ map (λ path. string_bytes path) (take (c.loop-path.path-index + 1) c.args.paths.now) =
    grind (arith, common_steps) in
    let read = subst (λ (bytes : List ℕ). g.F.FileAccess.reads bytes (Ok file)) c.as_str.ensures.value c.in_ok-file.ensures.read in (
      rw items (more_read g.F.FileAccess.reads c.args.paths.now c.loop-path.path-index path c.loop-path.lexicons.items file c.loop-path-test.true c.path-item.is c.loop-path.invariant.0 read),
      paths,
    )

pub returns-in_err-file-clause-fault : goal.returns-in_err-file-clause-fault
returns-in_err-file-clause-fault g c =
    let p = err_from_is_err_and c.from_residual.result c.from_residual.ensures.1 in
    let path = c.path-item.result in
    let named = subst (λ bytes. Names File bytes c.in_err-file.field-0.0) c.as_str.ensures.value c.in_err-file.ensures.fault in
    rw (p.1, p.2) (inr (path, (c.loop-path.path-index, c.loop-path-test.true, sym c.path-item.is), named))
