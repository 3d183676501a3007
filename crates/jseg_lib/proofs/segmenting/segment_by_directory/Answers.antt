use Rattle.std.proofs.Common.{◌≡◌, List, ap, map, refl, ◌∙◌}
use Rattle.programs.specs.declared.whole_file.WholeFile.{WholeFile}
use Rattle.jseg_lib.proofs.segmenting.segment_by_directory.Goals as goal

pub returns-in-Ok-clause-ok : goal.returns-in-Ok-clause-ok
returns-in-Ok-clause-ok g c =
    let read : c.deref-2.result.now ≡ c.in_ok-matrix.field-0.files.lexicons.items = cc in (
      c.in_ok-matrix.field-0,
      record { matrix = c.deref-3.result; chars = c.deref-4.result; unk = c.deref-5.result; lexicons = c.deref-6.result },
      (c.args.dir, refl, c.in_ok-matrix.ensures),
      record {
        matrix = cc;
        chars = cc;
        unk = cc;
        lexicons = rw c.deref-6.ensures.value (c.in_ok-lexicons.ensures ∙ ap (λ (files : List WholeFile). map (λ (file : WholeFile). file.bytes.items) files) read);
      },
      c.in-Ok.ensures.ok,
    )
