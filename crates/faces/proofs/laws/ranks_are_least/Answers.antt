use Rattle.faces.proofs.LeastRanks.{rank_least, rank_reached}
use Rattle.faces.proofs.laws.ranks_are_least.Goals as goal

pub returns-clause-least : goal.returns-clause-least
returns-clause-least given mesh cells roots ranks is known a n h r l k j =
    rank_least mesh cells roots ranks is known a n h r l k j

pub returns-clause-reached : goal.returns-clause-reached
returns-clause-reached given mesh cells roots ranks is known a n h l e =
    rank_reached mesh cells roots ranks is known a n h l e
