use Rattle.delivery.proofs.NumberedObjects.{numbers_are}
use Rattle.delivery.proofs.laws.numbers_are_of_points.Goals as goal

pub returns : goal.returns
returns c l rows n a d t i k r v clean g w e h q =
    numbers_are l rows v clean n a g d t i k r w e h q
