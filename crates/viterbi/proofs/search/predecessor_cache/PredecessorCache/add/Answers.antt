use Rattle.std.proofs.Common.{ℕ, ◌<◌, List, length, set, ◌∙◌, sym, subst}
use Rattle.viterbi.specs.declared.search.predecessor_cache.CachedPredecessor.{CachedPredecessor}
use Rattle.viterbi.specs.Search.PredecessorCache.{HaveSlots, IsUncached}
use Rattle.viterbi.proofs.PredecessorLemmas.{have_kept, have_more}
use Rattle.viterbi.proofs.search.predecessor_cache.PredecessorCache.add.Goals as goal

pub invariant_of-self : goal.invariant_of-self
invariant_of-self c = have_kept c.self.inside.found.items c.self.inside.slots.items c.self.invariant c.ensure_slot.new.slots.items c.in_err-ensure_slot.ensures.unchanged

pub invariant_of-self-in_err-push : goal.invariant_of-self-in_err-push
invariant_of-self-in_err-push c =
    let slots = c.ensure_slot.new.slots.items in
    subst (λ (fs : List CachedPredecessor). HaveSlots fs slots) (sym c.in_err-push.ensures.items) (have_kept c.self.inside.found.items c.self.inside.slots.items c.self.invariant slots c.in_ok-ensure_slot.ensures.unchanged)

pub invariant_of-self-2 : goal.invariant_of-self-2
invariant_of-self-2 c =
    let found = c.self.inside.found.items in
    let slots = c.ensure_slot.new.slots.items in
    let after = c.push.new.self.items in
    let have = have_kept found c.self.inside.slots.items c.self.invariant slots c.in_ok-ensure_slot.ensures.unchanged in
    let new = subst (λ (fs : List CachedPredecessor). IsUncached fs c.args.left) (sym c.self.view_is) c.requires in
    let there = subst (λ (i : ℕ). i < length slots) c.from-slot.ensures c.in_ok-ensure_slot.ensures.there in
    let more = have_more found slots have after c.args.left c.args.predecessor there new c.in_ok-push.ensures.items in
    subst (λ (n : ℕ). HaveSlots after (set slots c.from-slot.result n)) (sym (c.len-number.ensures ∙ c.self.inside.found.ok.0))
    (subst (λ (i : ℕ). HaveSlots after (set slots i (length found))) (sym c.from-slot.ensures) more)
