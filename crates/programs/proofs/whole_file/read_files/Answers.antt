use Rattle.std.proofs.Common.{rules, arith, ◌≡◌, ◌+◌, [], ◌∷◌, ◌++◌, map, take, string_bytes, subst, sym, inr}
use Rattle.std.proofs.lemmas.Grind.{common_steps}
use Rattle.std.proofs.lemmas.List.Elements.{All-push}
use Rattle.std.proofs.lemmas.Result.{err_from_is_err_and}
use Rattle.std.specs.Prelude.{All}
use Rattle.programs.specs.Faults.{Names}
use Rattle.programs.specs.Reading.{AreOfAFile}
use Rattle.programs.specs.declared.fault.Fault.TheVariants.{File}
use Rattle.programs.specs.declared.whole_file.WholeFile.{WholeFile}
use Rattle.programs.proofs.whole_file.read_files.Goals as goal

pub loop-path-preserved : goal.loop-path-preserved
loop-path-preserved g c =
    let was = c.loop-path.invariant.0 in
    let items : c.push.new.self.items ≡ c.loop-path.files.items ++ c.in_ok-file.file ∷ [] = search rules in
    let paths : map (λ file. string_bytes file.path) c.push.new.self.items ≡ map (λ path. string_bytes path) (take (c.loop-path.path-index + 1) c.args.paths.now) =
    grind (arith, common_steps) in
    let OfAFile : WholeFile → Type 0 = λ file. AreOfAFile g.R.File.Read.remaining file.bytes.items in
    (paths, subst (All OfAFile) (sym items) (All-push OfAFile c.loop-path.files.items c.in_ok-file.file c.loop-path.invariant.1 c.in_ok-file.ensures.bytes))

pub returns-in_err-file-clause-fault : goal.returns-in_err-file-clause-fault
returns-in_err-file-clause-fault g c =
    let p = err_from_is_err_and c.from_residual.result c.from_residual.ensures.1 in
    let path = c.path-item.result in
    let named = subst (λ bytes. Names File bytes c.in_err-file.field-0.0) c.as_str.ensures.value c.in_err-file.ensures.fault in
    rw (p.1, p.2) (inr (path, (c.loop-path.path-index, c.loop-path-test.true, sym c.path-item.is), named))

pub returns-clause-bytes : goal.returns-clause-bytes
returns-clause-bytes g c = c.loop-path.invariant.1
