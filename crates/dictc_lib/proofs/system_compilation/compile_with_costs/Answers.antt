use Rattle.std.proofs.Common.{inr}
use Rattle.dictc_lib.proofs.system_compilation.compile_with_costs.Goals as goal

pub returns-in_ok-header-in-Err-clause-rejected : goal.returns-in_ok-header-in-Err-clause-rejected
returns-in_ok-header-in-Err-clause-rejected c = λ costs table.
    let reported = rw (c.as_str.ensures.value, c.deref_mut.ensures.value) at c.rejection.ensures in
    inr (c.in-Err.fault, c.in-Err.ensures.rejected costs table, reported)
