use Rattle.std.proofs.Common.{◌≡◌, ℕ, List, length}
use Rattle.image_writer.specs.FirstUses.{AreSortedUses, AreUses}
use Rattle.image_writer.proofs.FirstUseLemmas.{AreFirstUpTo}
use Rattle.image_writer.proofs.first_uses.first_numbers.Given as goal

-- the first uses of the features so far are stored
abbrev pub invariant-loop-k : goal.invariant-loop-k
invariant-loop-k l = (length l.firsts.items ≡ length l.uses) × ((texts : List (List ℕ)) → AreUses texts l.uses → AreSortedUses l.uses → AreFirstUpTo texts l.uses l.k l.first l.firsts.items)
