use Rattle.std.proofs.Common.{◌≡◌, ℕ, ◌≤◌, List, [], length, subst, sym, inr, ◌∙◌, arith}
use Rattle.std.specs.Prelude.{IfSome}
use Rattle.std.specs.Io.KnownBytes.{IsAtEnd}
use Rattle.std.proofs.lemmas.Result.{err_from_is_err_and}
use Rattle.programs.specs.ImageHeads.{IsFaultOfEach, IsForLength, IsHead, IsErrorOrLengthAt, IsErrorOrLengthOfEach, IsReadHead, IsErrorAt, IsRejectedEarly, IsRestError}
use Rattle.programs.specs.Reading.{IsReadOn}
use Rattle.programs.proofs.ImageHeadLemmas.{head_after, tested_at, tested_after, late, rejected_at, rejected_after}
use Rattle.programs.proofs.ReadOn.{started, consumed, gives_further, read_further, read_is_all}
use Rattle.programs.proofs.Results.{if_err_so, if_ok_both}
use Rattle.programs.proofs.image_reading.read_image.Goals as goal

pub returns-in_err-first-in-Ok-clause-rejected : goal.returns-in_err-first-in-Ok-clause-rejected
returns-in_err-first-in-Ok-clause-rejected g c =
    let p = err_from_is_err_and c.from_residual-in_err-first-in-Ok.result c.from_residual-in_err-first-in-Ok.ensures.1 in
    rw (p.1, p.2) tt

pub read_remainder-requires-clause-head : goal.read_remainder-requires-clause-head
read_remainder-requires-clause-head g c =
    subst (λ (first : List ℕ). IsHead first c.in-Ok.reported) (c.deref.ensures.value ∙ sym c.in_ok-first-in-Ok.ensures) c.in-Ok.ensures.header

pub returns-in-Ok-clause-whole : goal.returns-in-Ok-clause-whole
returns-in-Ok-clause-whole g c =
    let a = g.R.Read.remaining c.args.reader.now in
    let b = g.R.Read.remaining c.read_prefix.new.reader in
    let e = g.R.Read.remaining c.read_remainder.new.reader in
    let first = c.in_ok-first-in-Ok.first.items in
    let start = started 103 c.args.reads _ c.in-Ok-More.left a b c.in-Ok-More.field-0 c.in-Ok-More.bytes c.in-Ok-More.field-0-is (c.in-Ok-More.ensures.prefix [] c.new.ensures.items) in
    let read = subst (IsReadOn [] a b) (sym c.in_ok-first-in-Ok.ensures) start.0 in
    if_ok_both (λ image. IsReadOn first b e image.bytes.items) (λ image. IsAtEnd e) (λ image. IfSome a (λ known. image.bytes.items ≡ known)) c.read_remainder.result
    (λ image more at_end. read_is_all a e image.bytes.items (read_further a b e [] first image.bytes.items read more) at_end)
    c.read_remainder.ensures.whole c.read_remainder.ensures.end

pub returns-in-Ok-clause-head : goal.returns-in-Ok-clause-head
returns-in-Ok-clause-head g c =
    let a = g.R.Read.remaining c.args.reader.now in
    let b = g.R.Read.remaining c.read_prefix.new.reader in
    let e = g.R.Read.remaining c.read_remainder.new.reader in
    let reported = c.in-Ok.reported in
    let first = c.in_ok-first-in-Ok.first.items in
    let head = subst (λ (first : List ℕ). IsHead first reported) (c.deref.ensures.value ∙ sym c.in_ok-first-in-Ok.ensures) c.in-Ok.ensures.header in
    if_ok_both (λ image. IsReadOn first b e image.bytes.items) (λ image. length image.bytes.items ≤ reported) (λ image. IsReadHead image.bytes.items) c.read_remainder.result
    (λ image more few. inr (head_after first image.bytes.items reported b e head more few))
    c.read_remainder.ensures.whole c.read_remainder.ensures.few

pub returns-in-Ok-clause-endless : goal.returns-in-Ok-clause-endless
returns-in-Ok-clause-endless g c =
    let a = g.R.Read.remaining c.args.reader.now in
    let b = g.R.Read.remaining c.read_prefix.new.reader in
    let e = g.R.Read.remaining c.read_remainder.new.reader in
    let start = started 103 c.args.reads _ c.in-Ok-More.left a b c.in-Ok-More.field-0 c.in-Ok-More.bytes c.in-Ok-More.field-0-is (c.in-Ok-More.ensures.prefix [] c.new.ensures.items) in
    λ endless. gives_further c.args.reads c.in-Ok-More.left a b e c.in-Ok-More.bytes.items start.0 start.2 (c.read_remainder.ensures.endless endless)

pub returns-in-Ok-clause-rejected : goal.returns-in-Ok-clause-rejected
returns-in-Ok-clause-rejected g c =
    let a = g.R.Read.remaining c.args.reader.now in
    let b = g.R.Read.remaining c.read_prefix.new.reader in
    let first = c.in_ok-first-in-Ok.first.items in
    let start = started 103 c.args.reads _ c.in-Ok-More.left a b c.in-Ok-More.field-0 c.in-Ok-More.bytes c.in-Ok-More.field-0-is (c.in-Ok-More.ensures.prefix [] c.new.ensures.items) in
    let read = subst (IsReadOn [] a b) (sym c.in_ok-first-in-Ok.ensures) start.0 in
    if_err_so (IsRestError first b) (IsErrorAt c.args.known a) c.read_remainder.result
    (λ fault rest. rejected_after c.args.known a b first fault (consumed a b first read) rest)
    c.read_remainder.ensures.rejected

pub returns-in-Ok-clause-checked : goal.returns-in-Ok-clause-checked
returns-in-Ok-clause-checked g c =
    let a = g.R.Read.remaining c.args.reader.now in
    let b = g.R.Read.remaining c.read_prefix.new.reader in
    let first = c.in_ok-first-in-Ok.first.items in
    let start = started 103 c.args.reads _ c.in-Ok-More.left a b c.in-Ok-More.field-0 c.in-Ok-More.bytes c.in-Ok-More.field-0-is (c.in-Ok-More.ensures.prefix [] c.new.ensures.items) in
    let read = subst (IsReadOn [] a b) (sym c.in_ok-first-in-Ok.ensures) start.0 in
    if_err_so (IsRestError first b) (IsErrorOrLengthAt c.args.known a) c.read_remainder.result
    (λ fault rest. tested_after c.args.known a b first fault (consumed a b first read) rest)
    c.read_remainder.ensures.rejected

pub returns-in_err-first-in-Ok-clause-checked : goal.returns-in_err-first-in-Ok-clause-checked
returns-in_err-first-in-Ok-clause-checked g c =
    let p = err_from_is_err_and c.from_residual-in_err-first-in-Ok.result c.from_residual-in_err-first-in-Ok.ensures.1 in
    rw (p.1, p.2) tt

pub returns-in-Ok-More-clause-checked : goal.returns-in-Ok-More-clause-checked
returns-in-Ok-More-clause-checked g c =
    let a = g.R.Read.remaining c.args.reader.now in
    let b = g.R.Read.remaining c.read_prefix.new.reader in
    let fault = c.in-Err-check_head.fault in
    let start = started 103 c.args.reads _ c.in-Ok-More.left a b c.in-Ok-More.field-0 c.in-Ok-More.bytes c.in-Ok-More.field-0-is (c.in-Ok-More.ensures.prefix [] c.new.ensures.items) in
    tested_at c.args.known a b c.in-Ok-More.bytes.items fault (consumed a b c.in-Ok-More.bytes.items start.0)
    (subst (λ (first : List ℕ). IsErrorOrLengthOfEach c.args.known first fault) c.deref.ensures.value c.in-Err-check_head.ensures.checked)

pub returns-in-Ok-More-clause-rejected : goal.returns-in-Ok-More-clause-rejected
returns-in-Ok-More-clause-rejected g c =
    let a = g.R.Read.remaining c.args.reader.now in
    let b = g.R.Read.remaining c.read_prefix.new.reader in
    let fault = c.in-Err-check_head.fault in
    let start = started 103 c.args.reads _ c.in-Ok-More.left a b c.in-Ok-More.field-0 c.in-Ok-More.bytes c.in-Ok-More.field-0-is (c.in-Ok-More.ensures.prefix [] c.new.ensures.items) in
    rejected_at c.args.known a b c.in-Ok-More.bytes.items fault (consumed a b c.in-Ok-More.bytes.items start.0)
    (subst (λ (first : List ℕ). IsFaultOfEach c.args.known first fault) c.deref.ensures.value c.in-Err-check_head.ensures.rejected)

pub returns-in-Ok-More-clause-early : goal.returns-in-Ok-More-clause-early
returns-in-Ok-More-clause-early g c =
    let a = g.R.Read.remaining c.args.reader.now in
    let b = g.R.Read.remaining c.read_prefix.new.reader in
    let start = started 103 c.args.reads _ c.in-Ok-More.left a b c.in-Ok-More.field-0 c.in-Ok-More.bytes c.in-Ok-More.field-0-is (c.in-Ok-More.ensures.prefix [] c.new.ensures.items) in
    let near = start.3 in
    let width = c.in_ok-buffer.ensures.1 in
    inr (c.in-Ok-More.bytes.items, consumed a b c.in-Ok-More.bytes.items start.0, omega (arith, near, width))

pub returns-in_err-first-in-Ok-clause-early : goal.returns-in_err-first-in-Ok-clause-early
returns-in_err-first-in-Ok-clause-early g c =
    let p = err_from_is_err_and c.from_residual-in_err-first-in-Ok.result c.from_residual-in_err-first-in-Ok.ensures.1 in
    rw (p.1, p.2) tt

pub returns-in-Ok-clause-early : goal.returns-in-Ok-clause-early
returns-in-Ok-clause-early g c =
    let a = g.R.Read.remaining c.args.reader.now in
    let e = g.R.Read.remaining c.read_remainder.new.reader in
    if_err_so IsForLength (IsRejectedEarly a e) c.read_remainder.result (λ fault longer. late a e fault longer) c.read_remainder.ensures.longer
