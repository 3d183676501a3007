use Rattle.std.proofs.Common.{ap, sym, refl, ◌∙◌, inr}
use Rattle.mj_model.specs.Dictionary.{first_outside}
use Rattle.lex_source.proofs.EntryLemmas.{added_slice, as_held, held_rows}
use Rattle.lex_source.proofs.source_lexicon.append_within.Goals as goal

pub returns-in-Some-clause-rejected : goal.returns-in-Some-clause-rejected
returns-in-Some-clause-rejected c =
    let read = c.in_ok-skipped.ensures.accepted in
    let rows = added_slice c.args.records.now.items c.read_lexicon.new.out.items c.deref.result.now c.len-held.result read.0 c.deref.ensures.value read.2 (c.len-held.ensures ∙ c.args.records.now.ok.0) in
    rw c.at.ensures (inr (inr (
      record { rows = read.0; skipped = c.in_ok-skipped.skipped },
      as_held c.args.file c.args.records.now.items c.args.bytes.now _ read.1,
      ap (first_outside c.args.file c.args.sizes) (sym rows) ∙ c.in-Some.ensures c.args.file,
    )))

pub returns-in-Some-clause-begins : goal.returns-in-Some-clause-begins
returns-in-Some-clause-begins c = let read = c.in_ok-skipped.ensures.accepted in held_rows c.args.records.now.items c.read_lexicon.new.out.items read.0 read.2

pub returns-in-None-clause-accepted : goal.returns-in-None-clause-accepted
returns-in-None-clause-accepted c =
    let read = c.in_ok-skipped.ensures.accepted in
    let rows = added_slice c.args.records.now.items c.read_lexicon.new.out.items c.deref.result.now c.len-held.result read.0 c.deref.ensures.value read.2 (c.len-held.ensures ∙ c.args.records.now.ok.0) in
    record {
      lines = record { rows = read.0; skipped = c.in_ok-skipped.skipped };
      reads = as_held c.args.file c.args.records.now.items c.args.bytes.now _ read.1;
      within = ap (first_outside c.args.file c.args.sizes) (sym rows) ∙ c.in-None.ensures c.args.file;
      sizes = refl;
      added = read.2;
      skips = refl;
    }

pub returns-in-None-clause-begins : goal.returns-in-None-clause-begins
returns-in-None-clause-begins c = let read = c.in_ok-skipped.ensures.accepted in held_rows c.args.records.now.items c.read_lexicon.new.out.items read.0 read.2
