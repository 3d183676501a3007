use Rattle.std.proofs.Common.{refl}
use Rattle.dict_compile.specs.Results.{lexicons_of}
use Rattle.mj_model.specs.declared.sources.Sources.{Sources}
use Rattle.dictc_lib.specs.SourceContents.{AreSourcesOf}
use Rattle.dictc_lib.proofs.compile_context.CompileContext.first_fault.Goals as goal

pub returns-in-Definitions-clause-none : goal.returns-in-Definitions-clause-none
returns-in-Definitions-clause-none c = λ none.
    let d = c.in-Definitions in
    let sources : Sources = record { matrix = d.header; chars = c.deref.result; unk = c.deref-in-Definitions.result; lexicons = c.args.lexicons } in
    let are : AreSourcesOf d.header.now d.chars.now.bytes.items d.unk.now.bytes.items (lexicons_of c.args.lexicons.now) sources =
    record { matrix_is = refl; chars_are = c.deref.ensures.value; unk_is = c.deref-in-Definitions.ensures.value; lexicons_are = refl } in
    rw c.in-Definitions.is (sources, are, c.fault_of_sources.ensures.none none)

pub returns-in-System-clause-none : goal.returns-in-System-clause-none
returns-in-System-clause-none c = λ none. rw c.in-System.is (c.fault_for_system.ensures.none none)
