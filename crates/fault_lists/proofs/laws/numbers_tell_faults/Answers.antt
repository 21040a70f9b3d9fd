use Rattle.fault_lists.proofs.NumbersTold.{numbers_tell}
use Rattle.fault_lists.proofs.laws.numbers_tell_faults.Goals as goal

pub returns : goal.returns
returns c = λ d r out rest f t faces told. numbers_tell d r out rest f t faces told
