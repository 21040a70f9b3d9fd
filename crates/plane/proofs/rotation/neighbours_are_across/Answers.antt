use Rattle.plane.specs.Faces.Replays.{replay}
use Rattle.plane.proofs.Turning.Numbering.{neighbours_across, first_touches, last_touches}
use Rattle.plane.proofs.rotation.neighbours_are_across.Goals as goal

pub returns-clause-across : goal.returns-clause-across
returns-clause-across given w m E steps k i d e l a b =
    neighbours_across (replay w m E steps) k l i d e a b

pub returns-clause-first : goal.returns-clause-first
returns-clause-first given w m E steps k e l a = first_touches (replay w m E steps) k l e a

pub returns-clause-last : goal.returns-clause-last
returns-clause-last given w m E steps k i e l q a = last_touches (replay w m E steps) k l i e q a
