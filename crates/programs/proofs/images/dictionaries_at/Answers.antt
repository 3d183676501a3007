use Rattle.std.proofs.Common.{rules, ◌≡◌, ℕ, ◌+◌, ◌<◌, List, [], ◌∷◌, ◌++◌, length, take, get_or, Ok, String, string_bytes, ap, sym, inr, ◌∙◌}
use Rattle.std.proofs.lemmas.Grind.{take_at_read}
use Rattle.std.proofs.lemmas.Result.{err_from_is_err_and}
use Rattle.std.proofs.lemmas.Slice.Zip.{all_zipped_more}
use Rattle.std.specs.Borrow.{Bor}
use Rattle.std.specs.Prelude.{Result}
use Rattle.std.specs.declared.alloc.Global.{Global}
use Rattle.image_format.specs.declared.digest_test.DigestTest.{DigestTest}
use Rattle.programs.specs.LoadedImages.{AreLoaded, IsLoadResult}
use Rattle.programs.specs.declared.fault.Fault.{Fault}
use Rattle.programs.proofs.images.dictionaries_at.Given as given
use Rattle.programs.proofs.images.dictionaries_at.Goals as goal

more_loaded : {D : Type 0} (loads : Bor (List ℕ) → DigestTest → Result D Fault → Type 0) (digest : DigestTest) (paths : List (String Global)) (i : ℕ) (path : String Global) (dicts : List D) (dict : D)
    → i < length paths → path ≡ get_or paths i path → AreLoaded loads digest (take i paths) dicts → IsLoadResult loads digest (string_bytes path) (Ok dict)
    → AreLoaded loads digest (take (i + 1) paths) (dicts ++ dict ∷ [])
more_loaded loads digest paths i path dicts dict here is loaded this =
    let more : take (i + 1) paths ≡ take i paths ++ path ∷ [] =
    (take_at_read paths i path here).1 ∙ ap (λ (x : String Global). take i paths ++ x ∷ []) (sym is) in
    rw more (all_zipped_more _ (take i paths) dicts path dict loaded this)

pub loop-path-preserved : goal.loop-path-preserved
loop-path-preserved g c =
    let items : c.push.new.self.items ≡ c.loop-path.dicts.items ++ c.in_ok-dict.dict ∷ [] = search rules in
    rw items (more_loaded (given.L-post g c.args.load) c.args.digest c.args.paths.now c.loop-path.path-index c.path-item.result c.loop-path.dicts.items c.in_ok-dict.dict c.loop-path-test.true c.path-item.is c.loop-path.invariant
    (c.as_str.result, c.as_str.ensures.value, c.in_ok-dict.ensures))

pub returns-in_err-dict-clause-fault : goal.returns-in_err-dict-clause-fault
returns-in_err-dict-clause-fault g c =
    let p = err_from_is_err_and c.from_residual.result c.from_residual.ensures.1 in
    let path = c.path-item.result in
    rw (p.1, p.2) (inr (path, (c.loop-path.path-index, c.loop-path-test.true, sym c.path-item.is), (c.as_str.result, c.as_str.ensures.value, c.in_err-dict.ensures)))
