use Rattle.std.proofs.Common.{◌≡◌, List, ℕ, [], ◌++◌, ap, sym, subst}
use Rattle.std.specs.Prelude.{flat_map}
use Rattle.mj_model.specs.Lexicon.{Row, rows_of}
use Rattle.image_writer.specs.Entries.{all_rows}
use Rattle.image_writer.specs.FirstUses.{AreFirstUses}
use Rattle.image_writer.specs.Sections.{AreWritten}
use Rattle.image_writer.proofs.ErrorLemmas.{is_not_full, is_writer_fault}
use Rattle.image_writer.proofs.Results.{passed_on}
use Rattle.image_writer.proofs.lexicon.write_lexicon.Goals as goal

pub returns-in_err-add_all-clause-large : goal.returns-in_err-add_all-clause-large
returns-in_err-add_all-clause-large c =
    let rows : List Row = c.args.lexicon.rows in
    let unknown = c.args.unknown.now in
    let all = all_rows rows unknown in
    let rest = flat_map (λ (rs : List Row). rs) unknown in
    let parts : all ≡ rows_of c.records.result.now ++ rest = ap (λ (rs : List Row). rs ++ rest) (sym c.records.ensures.rows) in
    let started = c.in_ok-writer.ensures all (subst (λ (texts : List (List ℕ)). AreFirstUses texts c.in_ok-firsts.firsts.items) c.in_ok-uses.ensures.features c.in_ok-firsts.ensures) in
    passed_on c.from_residual-in_err-add_all.result _ c.from_residual-in_err-add_all.ensures.1 (c.in_err-add_all.ensures.large all [] rest parts started)

pub returns-in_err-add_unknown-clause-large : goal.returns-in_err-add_unknown-clause-large
returns-in_err-add_unknown-clause-large c =
    let rows : List Row = c.args.lexicon.rows in
    let unknown = c.args.unknown.now in
    let all = all_rows rows unknown in
    let rest = flat_map (λ (rs : List Row). rs) unknown in
    let parts : all ≡ rows_of c.records.result.now ++ rest = ap (λ (rs : List Row). rs ++ rest) (sym c.records.ensures.rows) in
    let started = c.in_ok-writer.ensures all (subst (λ (texts : List (List ℕ)). AreFirstUses texts c.in_ok-firsts.firsts.items) c.in_ok-uses.ensures.features c.in_ok-firsts.ensures) in
    let known = subst (λ (rs : List Row). AreWritten all rs c.add_all.new.self) c.records.ensures.rows (c.in_ok-add_all.ensures.written all [] rest parts started) in
    passed_on c.from_residual-in_err-add_unknown.result _ c.from_residual-in_err-add_unknown.ensures.1 (c.in_err-add_unknown.ensures.large rows known)

pub returns-clause-sections : goal.returns-clause-sections
returns-clause-sections c =
    let rows : List Row = c.args.lexicon.rows in
    let unknown = c.args.unknown.now in
    let all = all_rows rows unknown in
    let rest = flat_map (λ (rs : List Row). rs) unknown in
    let parts : all ≡ rows_of c.records.result.now ++ rest = ap (λ (rs : List Row). rs ++ rest) (sym c.records.ensures.rows) in
    let started = c.in_ok-writer.ensures all (subst (λ (texts : List (List ℕ)). AreFirstUses texts c.in_ok-firsts.firsts.items) c.in_ok-uses.ensures.features c.in_ok-firsts.ensures) in
    let known = subst (λ (rs : List Row). AreWritten all rs c.add_all.new.self) c.records.ensures.rows (c.in_ok-add_all.ensures.written all [] rest parts started) in
    c.sections.ensures rows unknown c.in_ok-keys.ensures.keys (c.into_bytes.ensures all (c.in_ok-add_unknown.ensures.written rows known))

pub returns-in_err-add_all-clause-full : goal.returns-in_err-add_all-clause-full
returns-in_err-add_all-clause-full c = passed_on c.from_residual-in_err-add_all.result _ c.from_residual-in_err-add_all.ensures.1 (is_not_full c.args.lexicon.rows _ c.in_err-add_all.ensures.kinds)

pub returns-in_err-add_all-clause-kinds : goal.returns-in_err-add_all-clause-kinds
returns-in_err-add_all-clause-kinds c = passed_on c.from_residual-in_err-add_all.result _ c.from_residual-in_err-add_all.ensures.1 (is_writer_fault _ c.in_err-add_all.ensures.kinds)

pub returns-in_err-add_unknown-clause-full : goal.returns-in_err-add_unknown-clause-full
returns-in_err-add_unknown-clause-full c = passed_on c.from_residual-in_err-add_unknown.result _ c.from_residual-in_err-add_unknown.ensures.1 (is_not_full c.args.lexicon.rows _ c.in_err-add_unknown.ensures.kinds)

pub returns-in_err-add_unknown-clause-kinds : goal.returns-in_err-add_unknown-clause-kinds
returns-in_err-add_unknown-clause-kinds c = passed_on c.from_residual-in_err-add_unknown.result _ c.from_residual-in_err-add_unknown.ensures.1 (is_writer_fault _ c.in_err-add_unknown.ensures.kinds)
