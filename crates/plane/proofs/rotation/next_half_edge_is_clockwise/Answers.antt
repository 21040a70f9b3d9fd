use Rattle.plane.proofs.Turning.NextOnly.{next_clockwise_is, clockwise_is_next, some_next, next_one}
use Rattle.plane.proofs.Turning.NextOnly.{some_previous, previous_one}
use Rattle.plane.proofs.rotation.next_half_edge_is_clockwise.Goals as goal

pub returns-clause-is : goal.returns-clause-is
returns-clause-is given w m E steps h g run lh lg = (
  (λ n. next_clockwise_is w m E steps run h g n),
  (λ c. clockwise_is_next w m E steps run h g lh lg c),
)

pub returns-clause-some : goal.returns-clause-some
returns-clause-some given w m E steps h run l = some_next w m E steps run h l

pub returns-clause-one : goal.returns-clause-one
returns-clause-one given w m E steps h g f run a b = next_one w m E steps run h g f a b

pub returns-clause-some_previous : goal.returns-clause-some_previous
returns-clause-some_previous given w m E steps h run l = some_previous w m E steps run h l

pub returns-clause-one_previous : goal.returns-clause-one_previous
returns-clause-one_previous given w m E steps h f g run a b = previous_one w m E steps run h f g a b
