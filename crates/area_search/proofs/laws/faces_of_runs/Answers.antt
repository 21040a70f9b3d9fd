use Rattle.area_search.proofs.SettledLemmas.RunFaces.{are_faces}
use Rattle.area_search.proofs.laws.faces_of_runs.Goals as goal

pub returns : goal.returns
returns c w m E vs mesh faces run fit turned known f =
    are_faces w m E vs mesh run fit turned known faces f
