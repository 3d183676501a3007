-- The context in which lexicons are compiled, and their first error in it.
use Rattle.std.specs.Prelude.{ℕ, List}
use Rattle.image_format.specs.ImageMeaning.{image_tables}
use Rattle.mj_model.specs.declared.source_fault.SourceFault.{SourceFault}
use Rattle.mj_model.specs.declared.sources.Sources.{Sources}
use Rattle.dict_compile.specs.Compilation.{IsCompilationCause, IsCompilationFault, IsUserCause, IsUserFault}
use Rattle.dictc_lib.specs.SourceContents.{AreSourcesOf}
use Rattle.dictc_lib.specs.declared.compile_context.CompileContext.{CompileContext}
use Rattle.dictc_lib.specs.declared.compile_context.CompileContext.TheVariants.{Definitions, System}

-- why lexicons may be rejected in a context, unless an allocation fails
abbrev pub IsCauseInContext : CompileContext → List (List ℕ) → SourceFault → Type 0
IsCauseInContext (Definitions matrix header chars unk) lexicons fault =
    (sources : Sources) × AreSourcesOf header.now chars.now.bytes.items unk.now.bytes.items lexicons sources × IsCompilationCause sources fault
IsCauseInContext (System dict) lexicons fault = IsUserCause (image_tables dict.now) lexicons fault

-- no error satisfies `IsOne`
abbrev pub NoFaultIs : (SourceFault → Type 0) → Type 0
NoFaultIs IsOne = (fault : SourceFault) → IsOne fault → ⊥

-- lexicons have no error in a context
abbrev pub HaveNoFaultIn : CompileContext → List (List ℕ) → Type 0
HaveNoFaultIn (Definitions matrix header chars unk) lexicons =
    (sources : Sources) × AreSourcesOf header.now chars.now.bytes.items unk.now.bytes.items lexicons sources × NoFaultIs (IsCompilationFault sources)
HaveNoFaultIn (System dict) lexicons = NoFaultIs (IsUserFault (image_tables dict.now) lexicons)
