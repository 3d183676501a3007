-- The output of a text as a command line requests it.
use Rattle.std.specs.Prelude.{◌≡◌, ℕ, List, [], ◌∷◌, Option, Result, Ok, String, map, string_bytes}
use Rattle.std.specs.Borrow.{Bor}
use Rattle.std.specs.declared.alloc.Global.{Global}
use Rattle.command_lines.specs.declared.jseg.choices.Input.{Input}
use Rattle.command_lines.specs.declared.jseg.choices.Input.TheVariants as input
use Rattle.command_lines.specs.declared.jseg.choices.Options.{Options}
use Rattle.image_format.specs.declared.digest_test.DigestTest.{DigestTest}
use Rattle.image_format.specs.DigestTests.{test_by}
use Rattle.mj_model.specs.Counts.{WriterState}
use Rattle.mj_model.specs.Sample.{matrix_text, chars_text, unk_text, lexicon_text}
use Rattle.mj_model.specs.declared.sources.Sources.{Sources}
use Rattle.programs.specs.LoadedImages.{AreLoaded, IsLoadResult}
use Rattle.programs.specs.declared.fault.Fault.{Fault}
use Rattle.jseg_lib.specs.Formatting.{IsRequested, requested_texts}
use Rattle.jseg_lib.specs.Printing.{IsPrintedOver, IsPrintedBySources, requested_overlay}
use Rattle.jseg_lib.specs.declared.formatting.OutputForm.{OutputForm}
use Rattle.jseg_lib.specs.declared.source_directory.Directory.{Directory}

-- all of a text was printed with the dictionaries that were loaded from these paths: the system
-- dictionary, and the user dictionaries in the order of their paths
abbrev pub IsPrintedByImages : (Bor (List ℕ) → DigestTest → Result (List ℕ) Fault → Type 0) → DigestTest → List ℕ → List (String Global) → ℕ → OutputForm → Option (List ℕ) → WriterState → WriterState → ℕ → Type 0
IsPrintedByImages loads digest dic users grouping printed remaining before after lines =
    (system : List ℕ) × (overlays : List (List ℕ)) × IsLoadResult loads digest dic (Ok system) × AreLoaded loads digest users overlays
    × IsPrintedOver printed (requested_overlay system overlays grouping) remaining before after lines

-- the sources are those that were read from a directory
pub record AreSourcesOf (read : Directory) (sources : Sources) : Type 0 where
  pub matrix : sources.matrix.now ≡ read.matrix.items
  pub chars : sources.chars.now ≡ read.files.chars.bytes.items
  pub unk : sources.unk.now ≡ read.files.unk.bytes.items
  pub lexicons : map (λ lexicon. lexicon.now) sources.lexicons.now ≡ map (λ file. file.bytes.items) read.files.lexicons.items

-- reading the source directory `dir` gave this result
abbrev pub IsReadResult : (Bor (List ℕ) → Result Directory Fault → Type 0) → List ℕ → Result Directory Fault → Type 0
IsReadResult reads dir result = (shown : Bor (List ℕ)) × (shown.now ≡ dir) × reads shown result

-- all of a text was printed with the dictionary compiled from the files that were read from a
-- source directory
abbrev pub IsPrintedByDirectory : (Bor (List ℕ) → Result Directory Fault → Type 0) → List ℕ → ℕ → OutputForm → Option (List ℕ) → WriterState → WriterState → ℕ → Type 0
IsPrintedByDirectory reads dir grouping printed remaining before after lines =
    (read : Directory) × (sources : Sources) × IsReadResult reads dir (Ok read) × AreSourcesOf read sources
    × IsPrintedBySources sources grouping printed remaining before after lines

-- the sources of the sample
pub record AreSample (sources : Sources) : Type 0 where
  pub matrix : sources.matrix.now ≡ matrix_text
  pub chars : sources.chars.now ≡ chars_text
  pub unk : sources.unk.now ≡ unk_text
  pub lexicons : map (λ lexicon. lexicon.now) sources.lexicons.now ≡ lexicon_text ∷ []

-- all of a text was printed with the dictionary compiled from the sample
abbrev pub IsPrintedBySample : ℕ → OutputForm → Option (List ℕ) → WriterState → WriterState → ℕ → Type 0
IsPrintedBySample grouping printed remaining before after lines =
    (sources : Sources) × AreSample sources × IsPrintedBySources sources grouping printed remaining before after lines

-- all of a text was printed with the requested dictionaries
abbrev pub IsPrintedBy : (Bor (List ℕ) → DigestTest → Result (List ℕ) Fault → Type 0) → (Bor (List ℕ) → Result Directory Fault → Type 0) → Input → ℕ → OutputForm → Option (List ℕ) → WriterState → WriterState → ℕ → Type 0
IsPrintedBy loads reads (input.Images dic users skip_digest) = IsPrintedByImages loads (test_by skip_digest) (string_bytes dic) users.items
IsPrintedBy loads reads (input.Sources dir) = IsPrintedByDirectory reads (string_bytes dir)
IsPrintedBy loads reads input.Sample = IsPrintedBySample

-- all of a text was printed as the options request
abbrev pub IsRequestedOutput : (Bor (List ℕ) → DigestTest → Result (List ℕ) Fault → Type 0) → (Bor (List ℕ) → Result Directory Fault → Type 0) → Options → Option (List ℕ) → WriterState → WriterState → ℕ → Type 0
IsRequestedOutput loads reads options remaining before after lines =
    (printed : OutputForm) × IsRequested (requested_texts options) options.view printed
    × IsPrintedBy loads reads options.input options.grouping printed remaining before after lines
