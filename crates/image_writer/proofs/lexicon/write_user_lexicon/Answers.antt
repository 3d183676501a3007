use Rattle.std.proofs.Common.{◌≡◌, List, ℕ, [], ◌++◌, ap, append-nil, sym, ◌∙◌, subst}
use Rattle.mj_model.specs.Lexicon.{Row, rows_of}
use Rattle.image_writer.specs.declared.feature_use.FeatureUse.{FeatureUse}
use Rattle.image_writer.specs.FirstUses.{AreFirstUses, features_used}
use Rattle.image_writer.specs.Sections.{AreTokenBytes, AreWritten, features_of}
use Rattle.image_writer.proofs.ErrorLemmas.{is_not_full, is_writer_fault}
use Rattle.image_writer.proofs.Results.{passed_on}
use Rattle.image_writer.proofs.lexicon.write_user_lexicon.Goals as goal

pub returns-in_err-add_all-clause-large : goal.returns-in_err-add_all-clause-large
returns-in_err-add_all-clause-large c =
    let rows : List Row = c.args.lexicon.rows in
    let given = rows_of c.records-records.result.now in
    let parts : rows ≡ given ++ [] = sym c.records-records.ensures.rows ∙ sym (append-nil given) in
    let used = c.in_ok-append_uses.ensures.features ∙ ap (λ (us : List FeatureUse). features_used us ++ features_of given) c.in_ok-uses.ensures.items ∙ ap features_of c.records-records.ensures.rows in
    let started = c.in_ok-writer.ensures rows (subst (λ (texts : List (List ℕ)). AreFirstUses texts c.in_ok-firsts.firsts.items) used c.in_ok-firsts.ensures) in
    passed_on c.from_residual-in_err-add_all.result _ c.from_residual-in_err-add_all.ensures.1 (c.in_err-add_all.ensures.large rows [] [] parts started)

pub returns-clause-sections : goal.returns-clause-sections
returns-clause-sections c =
    let rows : List Row = c.args.lexicon.rows in
    let given = rows_of c.records-records.result.now in
    let parts : rows ≡ given ++ [] = sym c.records-records.ensures.rows ∙ sym (append-nil given) in
    let used = c.in_ok-append_uses.ensures.features ∙ ap (λ (us : List FeatureUse). features_used us ++ features_of given) c.in_ok-uses.ensures.items ∙ ap features_of c.records-records.ensures.rows in
    let started = c.in_ok-writer.ensures rows (subst (λ (texts : List (List ℕ)). AreFirstUses texts c.in_ok-firsts.firsts.items) used c.in_ok-firsts.ensures) in
    let written = subst (λ (rs : List Row). AreWritten rows rs c.add_all.new.self) c.records-records.ensures.rows (c.in_ok-add_all.ensures.written rows [] [] parts started) in
    c.sections.ensures rows [] c.in_ok-keys.ensures.keys
    (subst (λ (rs : List Row). AreTokenBytes rs c.into_bytes.result) (sym (append-nil rows)) (c.into_bytes.ensures rows written))

pub returns-in_err-add_all-clause-full : goal.returns-in_err-add_all-clause-full
returns-in_err-add_all-clause-full c = passed_on c.from_residual-in_err-add_all.result _ c.from_residual-in_err-add_all.ensures.1 (is_not_full c.args.lexicon.rows _ c.in_err-add_all.ensures.kinds)

pub returns-in_err-add_all-clause-kinds : goal.returns-in_err-add_all-clause-kinds
returns-in_err-add_all-clause-kinds c = passed_on c.from_residual-in_err-add_all.result _ c.from_residual-in_err-add_all.ensures.1 (is_writer_fault _ c.in_err-add_all.ensures.kinds)
