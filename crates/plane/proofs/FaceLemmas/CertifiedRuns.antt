-- A run over the straights of a drawing and a certificate prove the partition rule.
-- The weight in the replay may be any: what a certificate says does not read it, and the proof
-- takes one of its own.
use Rattle.std.proofs.Common.{length, ℕ, ◌<◌, List, [], ℤ, inl, inr}
use Rattle.plane.specs.Forms.Vectors.{Edge}
use Rattle.plane.specs.Runs.Steps.{Step}
use Rattle.plane.specs.Faces.Replays.{Replay}
use Rattle.plane.specs.Faces.Labels.{Labels}
use Rattle.plane.specs.Faces.Halves.{Half, edge_of, mark}
use Rattle.plane.specs.Faces.Classes.{Lead, root, across, Across, numbers, next, previous}
use Rattle.plane.specs.Rule.Plans.{Plan, object}
use Rattle.plane.specs.Rule.Partition.{IsPartition}
use Rattle.plane.specs.Faces.Certified.{IsRoot, Certified, IsComplete, FoundLead}
use Rattle.plane.specs.Faces.DrawnRuns.{IsRunOf, drawn}
use Rattle.plane.proofs.Turning.AnyWeight.{across_to, touches_to, placed_to, link_to, faces_to}
use Rattle.plane.proofs.Turning.AnyWeight.{next_to}
use Rattle.plane.proofs.Runs.RunWeights.{RunWeight, run_weight, points_of, points_has}
use Rattle.plane.proofs.Runs.Numbered.{swept_run}
use Rattle.plane.proofs.Runs.Lawful.{swept_lawful}
use Rattle.plane.proofs.FaceLemmas.Completeness.{all_reached, complete}
use Rattle.plane.proofs.FaceLemmas.Partition.{partition}

module _ (v w : ℤ) (d : Plan) (E : ℕ → Edge) (steps : List Step) (lab : Labels) (rank : Half → ℕ)
    (link : Half → Lead) where
  abbrev from : Replay
  from = drawn v d E steps

  abbrev to : Replay
  to = drawn w d E steps

  pub root_to : (strip index : ℕ → ℕ) (h : Half) → IsRoot d from lab strip index h
      → IsRoot d to lab strip index h
  root_to strip index h (inl a) = inl (a.0, touches_to v w (length d.curves) E steps h a.1)
  root_to strip index h (inr a) = inr a

  pub reweighed : Certified d from lab rank link → Certified d to lab rank link
  reweighed c = record {
    matched = c.matched;
    strip = c.strip;
    index = c.index;
    placed = λ j l. placed_to v w (length d.curves) E steps (object d j) (c.strip j) (c.index j)
        (c.placed j l);
    lower_label = c.lower_label;
    upper_label = c.upper_label;
    links = λ h l. link_to v w (length d.curves) E steps (mark lab) rank
        (IsRoot d from lab c.strip c.index) (IsRoot d to lab c.strip c.index)
        (root_to c.strip c.index) h (link h) (c.links h l);
  }

pub run_partition : (d : Plan) (E : ℕ → Edge) (steps : List Step) (lab : Labels) (rank : Half → ℕ)
    (link : Half → Lead) (v : ℤ)
    → IsRunOf d E steps → Certified d (drawn v d E steps) lab rank link → IsPartition d
run_partition d E steps lab rank link v run cert =
    let more = points_of (object d) (length d.points) in
    let u = run_weight (length d.curves) E steps more run.run in
    partition u.weight u.points d E steps lab rank link u.positive u.heavy u.events
    (λ (j : ℕ) (l : j < length d.points). u.known (object d j)
    (points_has (object d) (length d.points) j l))
    run.edges run.run (reweighed v u.weight d E steps lab rank link cert)

-- ---- the other way: from complete face numbers
pub complete_to : (v w : ℤ) (d : Plan) (E : ℕ → Edge) (steps : List Step) (face : Half → ℕ)
    (strip index : ℕ → ℕ)
    → IsComplete d (drawn v d E steps) face strip index
    → IsComplete d (drawn w d E steps) face strip index
complete_to v w d E steps face strip index c = record {
  faces = faces_to v w (length d.curves) E steps face c.faces;
  placed = λ j l. placed_to v w (length d.curves) E steps (object d j) (strip j) (index j)
      (c.placed j l);
  label = c.label;
  filled = c.filled;
}

module _ (v : ℤ) (d : Plan) (E : ℕ → Edge) (steps : List Step) (run : IsRunOf d E steps)
    (face : Half → ℕ) (strip index : ℕ → ℕ)
    (c : IsComplete d (drawn v d E steps) face strip index) where
  abbrev u : RunWeight (length d.curves) E steps []
  u = run_weight (length d.curves) E steps [] run.run

  abbrev there : Replay
  there = drawn u.weight d E steps

  complete_there : IsComplete d there face strip index
  complete_there = complete_to v u.weight d E steps face strip index c

  abbrev Root : Half → Type 0
  Root = IsRoot d (drawn v d E steps) (numbers face) strip index

  pub run_reached : (Reached : Half → Type 0)
      → ((h : Half) → edge_of h < length d.curves → Root h → Reached h)
      → ((g h : Half) → Reached g → Across (drawn v d E steps) h g → Reached h) → (h : Half)
      → edge_of h < length d.curves → Reached h
  run_reached Reached roots closed =
      all_reached d there (swept_run u.weight (length d.curves) E steps u.swept)
      (swept_lawful u.weight (length d.curves) E steps u.swept) face strip index complete_there
      Reached
      (λ h l o. roots h l
      (root_to u.weight v d E steps (numbers face) face (λ h. root) strip index h o))
      (λ g h k a. closed g h k (across_to u.weight v (length d.curves) E steps h g a))

  pub run_complete : (rank : Half → ℕ) (link : Half → Lead)
      → ((h : Half) → edge_of h < length d.curves
      → FoundLead (drawn v d E steps) rank Root h (link h))
      → Certified d (drawn v d E steps) (numbers face) rank link
  run_complete rank link found =
      reweighed u.weight v d E steps (numbers face) rank link
      (complete d there (swept_run u.weight (length d.curves) E steps u.swept)
      (swept_lawful u.weight (length d.curves) E steps u.swept) face strip index complete_there
      rank link
      (λ h l. found_to h (link h) (found h l)))
    where
      found_to : (h : Half) (k : Lead) → FoundLead (drawn v d E steps) rank Root h k
          → FoundLead there rank (IsRoot d there (numbers face) strip index) h k
      found_to h root o =
          root_to v u.weight d E steps (numbers face) face (λ h. root) strip index h o
      found_to h (next g) o = (next_to v u.weight (length d.curves) E steps h g o.0, o.1)
      found_to h (previous g) o = (next_to v u.weight (length d.curves) E steps g h o.0, o.1)
      found_to h (across g) o = (across_to v u.weight (length d.curves) E steps h g o.0, o.1)
