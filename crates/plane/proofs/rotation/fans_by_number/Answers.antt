use Rattle.plane.proofs.Turning.FanNumbers.{fan_length, over_at, under_at, numbers_in, in_numbers}
use Rattle.plane.proofs.Turning.FanNumbers.{fan_is, numbers_once, round_is}
use Rattle.plane.proofs.rotation.fans_by_number.Goals as goal

pub returns-clause-size : goal.returns-clause-size
returns-clause-size given = fan_length

pub returns-clause-starting : goal.returns-clause-starting
returns-clause-starting given = over_at

pub returns-clause-ending : goal.returns-clause-ending
returns-clause-ending given = under_at

pub returns-clause-holds : goal.returns-clause-holds
returns-clause-holds given = numbers_in

pub returns-clause-place : goal.returns-clause-place
returns-clause-place given = in_numbers

pub returns-clause-is : goal.returns-clause-is
returns-clause-is given m E s h good = fan_is m E s good h

pub returns-clause-once : goal.returns-clause-once
returns-clause-once given m E s j k edges good a b e = numbers_once m E s edges good j k a b e

pub returns-clause-turn : goal.returns-clause-turn
returns-clause-turn given = round_is
