-- The output form that a command line requests.
use Rattle.std.specs.Prelude.{◌≡◌, ℕ, List, Option, None, Some, String, codes, option_map, string_bytes}
use Rattle.std.specs.declared.alloc.Global.{Global}
use Rattle.command_lines.specs.declared.jseg.choices.Form.{Form}
use Rattle.command_lines.specs.declared.jseg.choices.Form.TheVariants as form
use Rattle.command_lines.specs.declared.jseg.choices.LatticeChoice.{LatticeChoice}
use Rattle.command_lines.specs.declared.jseg.choices.Options.{Options}
use Rattle.command_lines.specs.declared.jseg.choices.ViewChoice.{ViewChoice}
use Rattle.command_lines.specs.declared.jseg.choices.ViewChoice.TheVariants as choice
use Rattle.lattice_view.specs.declared.lattice_printer.format.LatticeForm.{LatticeForm}
use Rattle.lattice_view.specs.declared.lattice_printer.format.LatticeForm.TheVariants as lattice
use Rattle.lattice_view.specs.declared.lattice_printer.format.LatticeFormat.{LatticeFormat}
use Rattle.mj_model.specs.declared.format_fault.FormatPart.{FormatPart}
use Rattle.mj_model.specs.declared.format_fault.FormatPart.TheVariants.{Bos, Eos, Node, Unk}
use Rattle.out_format.specs.Formats.{FormatTexts, ReadsFormat}
use Rattle.out_format.specs.Texts.{wakati_texts}
use Rattle.jseg_lib.specs.declared.formatting.OutputForm.{OutputForm}
use Rattle.jseg_lib.specs.declared.formatting.OutputForm.TheVariants as printed
use Rattle.jseg_lib.specs.declared.views.View.{View}
use Rattle.jseg_lib.specs.declared.views.View.TheVariants as view

abbrev pub requested_form : Form → LatticeForm
requested_form form.Tsv = lattice.Tsv
requested_form form.Dot = lattice.Dot

-- the requested format of lattices
abbrev pub requested_lattice : LatticeChoice → LatticeFormat
requested_lattice choice = record { form = requested_form choice.form; within = choice.within }

-- the requested view
abbrev pub requested_view : ViewChoice → View
requested_view (choice.Lattice choice) = view.Lattice (requested_lattice choice)
requested_view choice.Why = view.Why

-- the text of an option, or `otherwise` if it is not given
abbrev pub text_or : Option (String Global) → List ℕ → List ℕ
text_or None otherwise = otherwise
text_or (Some text) otherwise = string_bytes text

-- the texts of a format: those of wakati if a format is requested by name, since no other has one,
-- otherwise `others`
abbrev pub texts_by : Option (String Global) → FormatTexts → FormatTexts
texts_by None others = others
texts_by (Some name) others = wakati_texts

-- the texts of the requested format, with MeCab's for those that are not given
abbrev pub requested_texts : Options → FormatTexts
requested_texts o = texts_by o.output (record {
  node = text_or o.node (codes "%m\\t%H\\n");
  unk = option_map string_bytes o.unk;
  bos = text_or o.bos (codes "");
  eos = text_or o.eos (codes "EOS\\n");
})

-- the requested output form: the view, if one is chosen, otherwise the words in the format of these
-- texts
abbrev pub IsRequested : FormatTexts → Option ViewChoice → OutputForm → Type 0
IsRequested texts None (printed.Words format) = ReadsFormat texts format
IsRequested texts (Some choice) (printed.View view) = view ≡ requested_view choice
IsRequested texts choice printed = ⊥

-- the text that is given for a part of a format
abbrev pub part_text_of : Options → FormatPart → Option (String Global)
part_text_of o Node = o.node
part_text_of o Unk = o.unk
part_text_of o Bos = o.bos
part_text_of o Eos = o.eos
