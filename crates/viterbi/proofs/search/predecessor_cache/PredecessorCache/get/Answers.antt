use Rattle.std.proofs.Common.{◌≡◌, ◌≤◌, ℕ, List, length, None, Option, Some, refl, sym, subst, slice_get}
use Rattle.std.proofs.lemmas.Option.{slice_get_read}
use Rattle.viterbi.specs.declared.search.node.Predecessor.{Predecessor}
use Rattle.viterbi.specs.declared.search.predecessor_cache.CachedPredecessor.{CachedPredecessor}
use Rattle.viterbi.specs.Search.PredecessorCache.{IsCacheResult}
use Rattle.viterbi.proofs.PredecessorLemmas.{returned, no_result, none_other, none_past, none_without_slot}
use Rattle.viterbi.proofs.search.predecessor_cache.PredecessorCache.get.Goals as goal

pub returns-in_err-slot : goal.returns-in_err-slot
returns-in_err-slot c =
    let found = c.self.inside.found.items in
    let slots = c.self.inside.slots.items in
    let left = c.args.left in
    let past : length slots ≤ left = subst (λ (xs : List ℕ). length xs ≤ left) c.deref.ensures.value (subst (λ (i : ℕ). length c.deref.result.now ≤ i) c.from.ensures c.in_err-slot.ensures.lookup.3) in
    subst (λ (o : Option Predecessor). IsCacheResult c.args.self.now left o) (sym c.from_residual.ensures)
    (subst (λ (fs : List CachedPredecessor). IsCacheResult fs left None) c.self.view_is (no_result found left (none_without_slot found slots c.self.invariant left past)))

pub returns-in_err-kept : goal.returns-in_err-kept
returns-in_err-kept c =
    let found = c.self.inside.found.items in
    let slots = c.self.inside.slots.items in
    let left = c.args.left in
    let slot = c.in_ok-slot.field-0.now in
    let read = slice_get_read c.deref.result.now (length c.deref.result.now) c.from.result slot refl c.in_ok-slot.ensures.lookup.3.0 c.in_ok-slot.ensures.lookup.1 in
    let at_slot = subst (λ (xs : List ℕ). slice_get xs left ≡ Some slot) c.deref.ensures.value (subst (λ (i : ℕ). slice_get c.deref.result.now i ≡ Some slot) c.from.ensures read) in
    let past : length found ≤ slot = subst (λ (xs : List CachedPredecessor). length xs ≤ slot) c.deref-2.ensures.value c.in_err-kept.ensures.lookup.3 in
    subst (λ (o : Option Predecessor). IsCacheResult c.args.self.now left o) (sym c.from_residual-in_err-kept.ensures)
    (subst (λ (fs : List CachedPredecessor). IsCacheResult fs left None) c.self.view_is (no_result found left (none_past found slots c.self.invariant left slot at_slot past)))

pub returns-then-kept-left : goal.returns-then-kept-left
returns-then-kept-left c =
    let found = c.self.inside.found.items in
    let slots = c.self.inside.slots.items in
    let left = c.args.left in
    let slot = c.in_ok-slot.field-0.now in
    let kept = c.in_ok-kept.kept.now in
    let read = slice_get_read c.deref.result.now (length c.deref.result.now) c.from.result slot refl c.in_ok-slot.ensures.lookup.3.0 c.in_ok-slot.ensures.lookup.1 in
    let at_slot = subst (λ (xs : List ℕ). slice_get xs left ≡ Some slot) c.deref.ensures.value (subst (λ (i : ℕ). slice_get c.deref.result.now i ≡ Some slot) c.from.ensures read) in
    let got = slice_get_read c.deref-2.result.now (length c.deref-2.result.now) slot kept refl c.in_ok-kept.ensures.lookup.3.0 c.in_ok-kept.ensures.lookup.1 in
    let at_kept = subst (λ (xs : List CachedPredecessor). slice_get xs slot ≡ Some kept) c.deref-2.ensures.value got in
    subst (λ (fs : List CachedPredecessor). IsCacheResult fs left (Some kept.predecessor)) c.self.view_is (returned found slots c.self.invariant left slot kept at_slot at_kept c.if-kept-left.true)

pub returns-else-kept-left : goal.returns-else-kept-left
returns-else-kept-left c =
    let found = c.self.inside.found.items in
    let slots = c.self.inside.slots.items in
    let left = c.args.left in
    let slot = c.in_ok-slot.field-0.now in
    let kept = c.in_ok-kept.kept.now in
    let read = slice_get_read c.deref.result.now (length c.deref.result.now) c.from.result slot refl c.in_ok-slot.ensures.lookup.3.0 c.in_ok-slot.ensures.lookup.1 in
    let at_slot = subst (λ (xs : List ℕ). slice_get xs left ≡ Some slot) c.deref.ensures.value (subst (λ (i : ℕ). slice_get c.deref.result.now i ≡ Some slot) c.from.ensures read) in
    let got = slice_get_read c.deref-2.result.now (length c.deref-2.result.now) slot kept refl c.in_ok-kept.ensures.lookup.3.0 c.in_ok-kept.ensures.lookup.1 in
    let at_kept = subst (λ (xs : List CachedPredecessor). slice_get xs slot ≡ Some kept) c.deref-2.ensures.value got in
    subst (λ (fs : List CachedPredecessor). IsCacheResult fs left None) c.self.view_is (no_result found left (none_other found slots c.self.invariant left slot kept at_slot at_kept c.if-kept-left.false))
