use Rattle.double_array.specs.Built.{values}
use Rattle.double_array.proofs.EmptyLemmas.{empty_map, empty_is_built}
use Rattle.double_array.proofs.double_array.DoubleArray.new.Goals as goal

pub invariant_of-result : goal.invariant_of-result
invariant_of-result c = empty_is_built c.in_ok-new.field-0 c.in_ok-new.ensures

pub returns-clause-map : goal.returns-clause-map
returns-clause-map c = λ key. empty_map c.in_ok-new.field-0 key c.in_ok-new.ensures

pub returns-clause-rules : goal.returns-clause-rules
returns-clause-rules c = (values, (empty_is_built c.in_ok-new.field-0 c.in_ok-new.ensures).rules)
