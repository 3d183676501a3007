use Rattle.std.proofs.Common.{List, ap, ◌∙◌, arith}
use Rattle.std.proofs.lemmas.List.{length-map}
use Rattle.std.proofs.lemmas.Result.{err_from_is_err_and}
use Rattle.mj_model.specs.Lines.{numbered_lines}
use Rattle.char_def.specs.Categories.{CharCategories}
use Rattle.char_def.specs.CharLines.{all_range_categories, mappings_are}
use Rattle.char_def.specs.declared.definitions.Definition.{Definition}
use Rattle.char_def.specs.Definitions.{definition_is, definitions_are}
use Rattle.char_def.proofs.AcceptedChars.{table_formed}
use Rattle.char_def.proofs.TableLemmas.{mapping_rejected, table_read}
use Rattle.char_def.proofs.char_table.read_chars.Goals as goal

pub returns-in_err-mapped-clause-rejected : goal.returns-in_err-mapped-clause-rejected
returns-in_err-mapped-clause-rejected c =
    let p = err_from_is_err_and c.from_residual-in_err-mapped.result c.from_residual-in_err-mapped.ensures.1 in
    rw (p.1, p.2)
    (mapping_rejected (numbered_lines c.args.bytes.now) (definitions_are c.in_ok-definitions.field-0.definitions.items) (mappings_are c.in_ok-definitions.field-0.mappings.items) c.in_err-mapped.field-0.0
    c.in_ok-definitions.ensures.accepted c.in_ok-definitions.ensures.categories
    (rw c.deref.ensures.value at c.in_ok-default.ensures.0) (rw c.deref-2.ensures.value at c.in_ok-set_of_one.ensures.0) c.in_ok-definitions.ensures.mappings
    (rw c.deref-3.ensures.value at c.in_err-mapped.ensures.rejected))

pub invariant_of-result : goal.invariant_of-result
invariant_of-result c =
    let table : CharCategories = record { categories = definitions_are c.in_ok-definitions.field-0.definitions.items; steps = c.in_ok-steps.steps.items } in
    let read = table_read (numbered_lines c.args.bytes.now) (definitions_are c.in_ok-definitions.field-0.definitions.items) (mappings_are c.in_ok-definitions.field-0.mappings.items)
    c.in_ok-mapped.mapped.items c.in_ok-steps.steps.items
    c.in_ok-definitions.ensures.accepted c.in_ok-definitions.ensures.categories
    (rw c.deref.ensures.value at c.in_ok-default.ensures.0) (rw c.deref-2.ensures.value at c.in_ok-set_of_one.ensures.0) c.in_ok-definitions.ensures.mappings
    (rw c.deref-3.ensures.value at c.in_ok-mapped.ensures.accepted)
    (c.in_ok-mapped.ensures.mapped ∙ ap (λ (items : List Definition). all_range_categories (definitions_are items) (mappings_are c.in_ok-definitions.field-0.mappings.items)) c.deref-3.ensures.value)
    (rw c.deref-4.ensures.value at c.in_ok-steps.ensures) in
    record {
      default_is = rw c.deref.ensures.value at c.in_ok-default.ensures.1;
      rising = c.in_ok-steps.ensures.rising;
      formed = table_formed c.args.bytes.now read.0 table read.1 read.2
          (omega (arith, length-map c.in_ok-definitions.field-0.definitions.items definition_is, c.in_ok-definitions.ensures.few));
    }

pub returns-clause-accepted : goal.returns-clause-accepted
returns-clause-accepted c =
    table_read (numbered_lines c.args.bytes.now) (definitions_are c.in_ok-definitions.field-0.definitions.items) (mappings_are c.in_ok-definitions.field-0.mappings.items)
    c.in_ok-mapped.mapped.items c.in_ok-steps.steps.items
    c.in_ok-definitions.ensures.accepted c.in_ok-definitions.ensures.categories
    (rw c.deref.ensures.value at c.in_ok-default.ensures.0) (rw c.deref-2.ensures.value at c.in_ok-set_of_one.ensures.0) c.in_ok-definitions.ensures.mappings
    (rw c.deref-3.ensures.value at c.in_ok-mapped.ensures.accepted)
    (c.in_ok-mapped.ensures.mapped ∙ ap (λ (items : List Definition). all_range_categories (definitions_are items) (mappings_are c.in_ok-definitions.field-0.mappings.items)) c.deref-3.ensures.value)
    (rw c.deref-4.ensures.value at c.in_ok-steps.ensures)
