use Rattle.plane.proofs.FaceLemmas.FacesOfRuns.{run_next_face}
use Rattle.plane.proofs.rotation.next_half_edge_has_one_face.Goals as goal

pub returns : goal.returns
returns given = run_next_face
