use Rattle.itf_lines.proofs.Counts.{few_lines}
use Rattle.itf_lines.proofs.Numbers.{logical_rise, logical_within, later_rise, later_within}
use Rattle.itf_lines.proofs.laws.numbers_rise.Goals as goal

pub returns-clause-rise : goal.returns-clause-rise
returns-clause-rise c code text = logical_rise code text

pub returns-clause-within : goal.returns-clause-within
returns-clause-within c code text = logical_within code text

pub returns-clause-later : goal.returns-clause-later
returns-clause-later c code text more lines feed h = later_rise code text more lines feed h

pub returns-clause-later_within : goal.returns-clause-later_within
returns-clause-later_within c code text more lines feed h = later_within code text more lines feed h

pub returns-clause-few : goal.returns-clause-few
returns-clause-few c code text = few_lines text
