use Rattle.std.proofs.Common.{◌≡◌, ℕ, ◌-◌, ◌≤◌, List, [], length, drop, ap, arith, Some}
use Rattle.std.specs.Prelude.{Option}
use Rattle.std.proofs.lemmas.Bool.Decides.{nat_tests}
use Rattle.std.proofs.lemmas.List.{drop_all, length-drop}
use Rattle.jseg_lib.proofs.peeked_read.PeekedRead.are_bytes_replayed.Goals as goal

no_more : (bytes : List ℕ) (at : ℕ) → ◌≡◌ {A = Option (List ℕ)} (Some (drop at bytes)) (Some []) → length bytes ≤ at
no_more bytes at empty =
    let none : drop at bytes ≡ [] = cc in
    let count : length bytes - at ≡ 0 = grind (arith, length-drop at bytes, ap length none) in
    omega arith

pub returns : goal.returns
returns c =
    let bytes = c.args.self.now.bytes.inner.items in
    let at = c.args.self.now.bytes.pos in
    (λ yes. (let over : length bytes ≤ at = grind (arith, nat_tests) in ap Some (drop_all at bytes over)), λ empty. (let over : length bytes ≤ at = no_more bytes at empty in grind (arith, nat_tests)))
