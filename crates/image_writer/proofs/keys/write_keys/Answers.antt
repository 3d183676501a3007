use Rattle.std.proofs.Common.{◌≡◌, ◌<◌, ◌+◌, ◌*◌, ℕ, List, length, get_or, ap, sym, ◌∙◌, rules, arith, subst}
use Rattle.std.specs.Prelude.{IsUtf8}
use Rattle.std.proofs.lemmas.List.{length-map}
use Rattle.image_format.specs.ImageSections.{index_at}
use Rattle.mj_model.specs.Lexicon.{Row, row_of}
use Rattle.image_writer.specs.Entries.{surface_at}
use Rattle.image_writer.proofs.KeyLemmas.{key_bytes, texts_of}
use Rattle.image_writer.proofs.keys.write_keys.Goals as goal

pub returns-clause-keys : goal.returns-clause-keys
returns-clause-keys c =
    let rows : List Row = c.args.lexicon.now.rows in
    let records = c.records-entries.result.now in
    let are = c.records-entries.ensures.rows in
    let texts = subst (λ (rs : List Row). (i : ℕ) → i < length rs → IsUtf8 (surface_at rs i)) are (texts_of records) in
    let starts = c.in_ok-groups.groups.starts.items in
    let index = c.in_ok-write_starts.field-0.items in
    let listed = c.deref.ensures.value in
    let fill = c.in_ok-write_starts.ensures.fill ∙ ap (λ (s : List ℕ). 4 * (length s + 1)) listed in
    let entries : length records ≡ length rows = sym (length-map records row_of) ∙ ap length are in
    let numbers : (g : ℕ) → g < length starts + 1 → index_at index g ≡ get_or starts g (length rows) = λ g less.
    c.in_ok-write_starts.ensures.numbers g (let e = ap length listed in omega (arith, e, less)) ∙ ap (λ (s : List ℕ). get_or s g (length records)) listed ∙ ap (get_or starts g) entries in
    let w = c.in_ok-write_cells.ensures in
    let count : c.len.result ≡ length starts = search rules in
    key_bytes c.args.lexicon.now.sizes rows c.records-entries.ensures.formed.entries.each texts c.in_ok-groups.groups _ c.in_ok-groups.ensures.grouped w.cells w.fill w.most w.rules w.keys fill numbers count
