use Rattle.std.proofs.Common.{arith, rules, ◌≡◌, List, drop, ap, refl, subst, ◌∙◌}
use Rattle.std.specs.Prelude.{chars, OnOk}
use Rattle.std.specs.Char.{len_utf8}
use Rattle.mj_model.specs.declared.word.Word.{Word}
use Rattle.word_lookup.specs.Overlays.{overlay_of}
use Rattle.word_lookup.specs.Surfaces.{GrowsByWords}
use Rattle.word_lookup.proofs.DictionaryLaws.{is_system}
use Rattle.word_lookup.proofs.FirstLemmas.{found}
use Rattle.word_lookup.proofs.PlaceLemmas.{unknown_are}
use Rattle.word_lookup.proofs.TableLemmas.{first_category}
use Rattle.word_lookup.proofs.dictionaries.Dictionaries.append_unknown.Goals as goal

pub invariant_of-start : goal.invariant_of-start
unfolding overlay_of
invariant_of-start c =
    let d = c.args.self.now in
    let f = found (overlay_of d).system.info c.args.at.rest.now c.args.first c.args.at.is_text c.requires.first in
    record { is_system = is_system d; is_first = f.first; bytes_are = f.bytes; info_is = f.is; has_category = first_category d c.args.first f.is }

pub returns-clause-appended : goal.returns-clause-appended
unfolding overlay_of
returns-clause-appended c =
    let o = overlay_of c.args.self.now in
    let first = c.args.first in
    let f = found o.system.info c.args.at.rest.now first c.args.at.is_text c.requires.first in
    let is_head : c.from.result ≡ first.info.head = search rules in
    let head : c.from.result ≡ (o.system.info first.character).head = is_head ∙ ap (λ (i : _). i.head) f.is in
    let P : List Word → Type 0 = λ ws. OnOk c.append_spans.result (GrowsByWords o ws c.args.out.now.items c.append_spans.new.out.items) in
    let are = unknown_are o c.args.none_known c.args.at.place c.args.at.start first.character c.from.result (chars c.args.at.rest.now) (chars (drop (len_utf8 first.character) c.args.at.rest.now)) _ _ f.first.split head refl c.spans-spans.ensures.spans in
    subst P are c.append_spans.ensures.appended

pub invariant_of-entries : goal.invariant_of-entries
unfolding overlay_of
invariant_of-entries c =
    let d = c.args.self.now in
    let f = found (overlay_of d).system.info c.args.at.rest.now c.args.first c.args.at.is_text c.requires.first in
    let first = first_category d c.args.first f.is in
    let head : c.from.result ≡ c.args.first.info.head = search rules in
    omega (arith, first, head)

pub spans-spans-requires : goal.spans-spans-requires
unfolding overlay_of
spans-spans-requires c = record { here = c.requires.last.here; after_blanks = c.requires.last.after_blanks }

pub returns-clause-last : goal.returns-clause-last
unfolding overlay_of
returns-clause-last c = c.spans-spans.ensures.last
