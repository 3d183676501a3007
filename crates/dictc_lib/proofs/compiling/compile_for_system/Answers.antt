use Rattle.std.proofs.Common.{ℕ, List, String, string_bytes, Ok, inl, inr, subst}
use Rattle.std.proofs.lemmas.Result.{IfErr-weaker, err_from_is_err_and}
use Rattle.std.specs.Prelude.{IfOk, Result, Err}
use Rattle.std.specs.declared.alloc.Global.{Global}
use Rattle.dict_compile.specs.UserOutcomes.{FindsUserKeysFrom, IsUserCompiledFrom}
use Rattle.programs.specs.Faults.{NamesFileOrImage, NamesOneOf}
use Rattle.programs.specs.declared.whole_file.WholeFile.{WholeFile}
use Rattle.dictc_lib.specs.Rejections.{IsRejectionOfLexicons}
use Rattle.dictc_lib.specs.RequestErrors.{IsUserDictionaryError}
use Rattle.dictc_lib.specs.RequestedImages.{AreReadFrom, AreUserFilesReadFrom, IsUserImageFrom}
use Rattle.dictc_lib.specs.SourceContents.{contents_of}
use Rattle.dictc_lib.proofs.compiling.compile_for_system.Goals as goal

if_ok_both : {X E : Type 0} (P Q R : X → Type 0) (result : Result X E) → ((x : X) → P x → Q x → R x) → IfOk result P → IfOk result Q → IfOk result R
if_ok_both P Q R (Ok x) both p q = both x p q
if_ok_both P Q R (Err e) both p q = tt

pub returns-in_err-system-clause-rejected : goal.returns-in_err-system-clause-rejected
returns-in_err-system-clause-rejected g c =
    let p = err_from_is_err_and c.from_residual.result c.from_residual.ensures.1 in
    let named = subst (λ (path : List ℕ). NamesFileOrImage path c.in_err-system.field-0.0) c.as_str.ensures.value c.in_err-system.ensures.fault in
    rw (p.1, p.2) (inl named)

pub returns-in_err-lexicons-clause-rejected : goal.returns-in_err-lexicons-clause-rejected
returns-in_err-lexicons-clause-rejected g c =
    let p = err_from_is_err_and c.from_residual-in_err-lexicons.result c.from_residual-in_err-lexicons.ensures.1 in
    let named = subst (λ (paths : List (String Global)). NamesOneOf paths c.in_err-lexicons.field-0.0) c.deref.ensures.value c.in_err-lexicons.ensures.fault in
    rw (p.1, p.2) (inr (inl named))

pub returns : goal.returns
returns g c =
    let F = g.F.FileAccess in
    let dic = c.args.dic.now in
    let paths = c.args.options.now.lexicons.items in
    let all_faults = c.args.options.now.all_faults in
    let system = c.in_ok-system.system in
    let files = c.in_ok-lexicons.lexicons.items in
    let result = c.compile_user_files.result in
    let e = c.compile_user_files.ensures in
    let same = c.deref_mut.ensures.value in
    let read : AreUserFilesReadFrom F.reads F.loads dic c.args.digest paths system files =
    record {
      system_loaded = subst (λ (path : List ℕ). F.loads path c.args.digest (Ok system)) c.as_str.ensures.value c.in_ok-system.ensures.loaded;
      lexicons_read = subst (λ (paths : List (String Global)). AreReadFrom F.reads paths files) c.deref.ensures.value c.in_ok-lexicons.ensures.read;
    } in
    record {
      compiled = if_ok_both (IsUserCompiledFrom system (contents_of files)) (FindsUserKeysFrom system (contents_of files))
          (IsUserImageFrom F.reads F.loads dic c.args.digest paths) result (λ compiled is keys. (system, files, read, is, keys))
          (subst (λ (lexicons : List WholeFile). IfOk result (IsUserCompiledFrom system (contents_of lexicons))) same e.compiled)
          (subst (λ (lexicons : List WholeFile). IfOk result (FindsUserKeysFrom system (contents_of lexicons))) same e.every_key);
      rejected = IfErr-weaker result (IsRejectionOfLexicons (string_bytes dic) system files all_faults) (IsUserDictionaryError F.reads F.loads dic c.args.digest paths all_faults)
          (λ error is. inr (inr (system, files, read, is))) (rw (c.as_str-3.ensures.value, same) at e.rejected);
    }
