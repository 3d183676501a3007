use Rattle.std.proofs.Common.{rules, ◌≡◌, ◌≤◌, ◌<◌, ℕ, List, length, set, slice_get, Some, refl, sym, ◌∙◌, subst}
use Rattle.std.proofs.lemmas.Option.{slice_get_read}
use Rattle.dict_image.specs.declared.numbered_ids.TheConstants.{NUMBERED_MAX}
use Rattle.dict_image.specs.NumberedIds.{AreNumbered}
use Rattle.dict_image.proofs.NumberedIdLemmas.{numbered_more}
use Rattle.dict_image.proofs.numbered_ids.NumberedIds.add.Goals as goal

pub invariant_of-self-2 : goal.invariant_of-self-2
invariant_of-self-2 c =
    let ids = c.self.inside.ids.items in
    let numbers = c.self.inside.numbers.items in
    let id = c.args.id in
    let at : c.from-at.result ≡ id = c.from-at.ensures in
    let count : c.len-number.result ≡ length ids = c.len-number.ensures ∙ c.self.inside.ids.ok.0 in
    let most = c.self.invariant.most in
    let within : id < length numbers = search (rules, at) in
    let room : length ids < NUMBERED_MAX = search (rules, most, count) in
    let number = c.index.result.now in
    let read = slice_get_read numbers (length numbers) c.from-at.result number refl (subst (λ (i : ℕ). i < length numbers) (sym at) within) c.index.ensures in
    let there : slice_get numbers id ≡ Some number = subst (λ (i : ℕ). slice_get numbers i ≡ Some number) at read in
    let past : length ids ≤ number = search (rules, count) in
    let more = numbered_more ids numbers id number c.self.invariant room there past in
    subst (λ (n : ℕ). AreNumbered c.push.new.self.items (set numbers c.from-at.result n)) (sym count)
    (subst (λ (i : ℕ). AreNumbered c.push.new.self.items (set numbers i (length ids))) (sym at)
    (subst (λ (xs : List ℕ). AreNumbered xs (set numbers id (length ids))) (sym c.in_ok-push.ensures.items) more))
