use Rattle.std.proofs.Common.{ℕ, List, [], ◌∷◌, Ok, arith, inl, inr, refl, subst}
use Rattle.std.proofs.lemmas.Result.{IfErr-weaker, IfOk-weaker, err_from_is_err_and}
use Rattle.programs.specs.Faults.{Names}
use Rattle.programs.specs.declared.fault.Fault.TheVariants.{File}
use Rattle.dictc_lib.specs.CompiledFiles.{IsCompiledFromFiles}
use Rattle.dictc_lib.specs.Rejections.{IsRejectionOfSources}
use Rattle.dictc_lib.specs.RequestErrors.{IsSystemError}
use Rattle.dictc_lib.specs.RequestedImages.{AreSystemFilesReadFrom, IsSystemImageFrom}
use Rattle.dictc_lib.proofs.ReadingErrorLemmas.{NamesOneOf-append_right}
use Rattle.dictc_lib.proofs.compiling.compile_definitions.Goals as goal

pub returns-in_err-costs-clause-rejected : goal.returns-in_err-costs-clause-rejected
returns-in_err-costs-clause-rejected g c =
    let p = err_from_is_err_and c.from_residual.result c.from_residual.ensures.1 in
    let named = subst (λ (path : List ℕ). Names File path c.in_err-costs.field-0.0) c.as_str.ensures.value c.in_err-costs.ensures.fault in
    rw (p.1, p.2) (inl (inr (c.args.matrix.now, (0, omega arith, refl), named)))

pub returns-in_err-sources-clause-rejected : goal.returns-in_err-sources-clause-rejected
returns-in_err-sources-clause-rejected g c =
    let p = err_from_is_err_and c.from_residual-in_err-sources.result c.from_residual-in_err-sources.ensures.1 in
    let others = c.args.chars.now ∷ c.args.unk.now ∷ c.args.options.now.lexicons.items in
    rw (p.1, p.2) (inl (NamesOneOf-append_right (c.args.matrix.now ∷ []) others c.in_err-sources.field-0.0 c.in_err-sources.ensures.fault))

pub returns : goal.returns
returns g c =
    let F = g.F.FileAccess in
    let matrix = c.args.matrix.now in
    let chars = c.args.chars.now in
    let unk = c.args.unk.now in
    let lexicons = c.args.options.now.lexicons.items in
    let all_faults = c.args.options.now.all_faults in
    let costs = c.in_ok-costs.costs in
    let files = c.in_ok-sources.sources in
    let bytes = c.in_ok-costs.ensures.bytes.0 in
    let enough = c.in_ok-costs.ensures.bytes.1 in
    let result = c.compile_sources.result in
    let read : AreSystemFilesReadFrom F.reads_costs F.reads matrix chars unk lexicons bytes files =
    record {
      costs = costs;
      costs_read = subst (λ (path : List ℕ). F.reads_costs path (Ok costs)) c.as_str.ensures.value c.in_ok-costs.ensures.read;
      enough_read = enough;
      matrix_path = c.in_ok-sources.ensures.matrix;
      others_read = c.in_ok-sources.ensures.read;
    } in
    record {
      compiled = IfOk-weaker result (IsCompiledFromFiles bytes files) (IsSystemImageFrom F.reads_costs F.reads matrix chars unk lexicons)
          (λ compiled is. (bytes, files, read, is)) (c.compile_sources.ensures.compiled bytes enough);
      rejected = IfErr-weaker result (IsRejectionOfSources bytes files all_faults) (IsSystemError F.reads_costs F.reads matrix chars unk lexicons all_faults)
          (λ error is. inr (bytes, files, read, is)) (c.compile_sources.ensures.rejected bytes enough);
    }
