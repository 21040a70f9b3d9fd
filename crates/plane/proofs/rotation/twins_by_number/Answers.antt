use Rattle.plane.proofs.Turning.FanNumbers.{number_twin, number_one, number_below, below_number}
use Rattle.plane.proofs.rotation.twins_by_number.Goals as goal

pub returns-clause-twin : goal.returns-clause-twin
returns-clause-twin given = number_twin

pub returns-clause-one : goal.returns-clause-one
returns-clause-one given = number_one

pub returns-clause-within : goal.returns-clause-within
returns-clause-within given h m = ((λ l. number_below h m l), (λ l. below_number h m l))
