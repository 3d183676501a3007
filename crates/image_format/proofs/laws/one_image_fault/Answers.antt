use Rattle.image_format.proofs.ImageFaultLaws.{no_fault, some_fault, fault_is_one}
use Rattle.image_format.proofs.laws.one_image_fault.Goals as goal

pub returns : goal.returns
returns c = λ digest bytes. record { none_where_accepted = no_fault digest bytes; one_where_not = some_fault digest bytes; at_most_one = fault_is_one digest bytes }
