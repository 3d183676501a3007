use Rattle.std.proofs.Common.{◌≡◌, ℕ, List, Ok, Err, ap, ◌∙◌, subst}
use Rattle.std.proofs.lemmas.Result.{err_from_is_err_and}
use Rattle.dict_compile.specs.Results.{lexicons_of}
use Rattle.dict_compile.specs.UserOutcomes.{FindsUserKeysFrom, IsUserCompiledFrom, IsUserError, IsUserRejectedAtFault}
use Rattle.dictc_lib.specs.SourceContents.{contents_of}
use Rattle.dictc_lib.proofs.user_compilation.compile_lexicons.Goals as goal

pub returns-in_err-compiled-clause-rejected : goal.returns-in_err-compiled-clause-rejected
returns-in_err-compiled-clause-rejected c =
    let p = err_from_is_err_and c.from_residual.result c.from_residual.ensures.1 in
    let same : lexicons_of c.deref.result.now ≡ contents_of c.args.files.now = ap lexicons_of c.deref.ensures.value ∙ c.in-Ok.ensures in
    rw (p.1, p.2) (subst (λ (lexicons : List (List ℕ)). IsUserError c.args.system.now lexicons (Err c.in_err-compiled.field-0.0)) same c.in_err-compiled.ensures.rejected)

pub returns-in_err-compiled-clause-first : goal.returns-in_err-compiled-clause-first
returns-in_err-compiled-clause-first c =
    let p = err_from_is_err_and c.from_residual.result c.from_residual.ensures.1 in
    let same : lexicons_of c.deref.result.now ≡ contents_of c.args.files.now = ap lexicons_of c.deref.ensures.value ∙ c.in-Ok.ensures in
    rw (p.1, p.2) (subst (λ (lexicons : List (List ℕ)). IsUserRejectedAtFault c.args.system.now lexicons (Err c.in_err-compiled.field-0.0)) same c.in_err-compiled.ensures.first)

pub returns-clause-compiled : goal.returns-clause-compiled
returns-clause-compiled c =
    let same : lexicons_of c.deref.result.now ≡ contents_of c.args.files.now = ap lexicons_of c.deref.ensures.value ∙ c.in-Ok.ensures in
    subst (λ (lexicons : List (List ℕ)). IsUserCompiledFrom c.args.system.now lexicons c.in_ok-compiled.compiled) same c.in_ok-compiled.ensures.compiled

pub returns-clause-every_key : goal.returns-clause-every_key
returns-clause-every_key c =
    let same : lexicons_of c.deref.result.now ≡ contents_of c.args.files.now = ap lexicons_of c.deref.ensures.value ∙ c.in-Ok.ensures in
    subst (λ (lexicons : List (List ℕ)). FindsUserKeysFrom c.args.system.now lexicons c.in_ok-compiled.compiled) same c.in_ok-compiled.ensures.every_key

pub returns-clause-first : goal.returns-clause-first
returns-clause-first c =
    let same : lexicons_of c.deref.result.now ≡ contents_of c.args.files.now = ap lexicons_of c.deref.ensures.value ∙ c.in-Ok.ensures in
    subst (λ (lexicons : List (List ℕ)). IsUserRejectedAtFault c.args.system.now lexicons (Ok c.in_ok-compiled.compiled)) same c.in_ok-compiled.ensures.first
