-- Classes of a complete run by numbers alone: connected half-edges, cells at the border, labels,
-- and links that lead to a root.
-- The weight in the replay may be any.
use Rattle.std.proofs.Common.{◌≡◌, ◌↔◌, ℕ, suc, ◌<◌, ◌⊎◌, ℤ, List, [], arith, subst}
use Rattle.plane.specs.Lists.{Each}
use Rattle.plane.specs.Forms.Vectors.{Edge}
use Rattle.plane.specs.Runs.Steps.{Step, Run}
use Rattle.plane.specs.Faces.Labels.{Labels, MatchesAt}
use Rattle.plane.specs.Faces.Replays.{Replay, replay}
use Rattle.plane.proofs.Runs.RunWords.{IsRun, IsLawful}
use Rattle.plane.specs.Faces.Cells.{Sector, IsSector, IsBorder, corner, Linked, label_of}
use Rattle.plane.specs.Faces.Halves.{Half, edge_of, Beside, IsMatched}
use Rattle.plane.specs.Faces.Classes.{Connected, Lead, AreLeads}
use Rattle.plane.proofs.ListLemmas.Lists.{each_has, each_from}
use Rattle.plane.proofs.Runs.Numbered.{nth, has_nth, index_of, swept_run}
use Rattle.plane.proofs.Runs.Lawful.{swept_lawful}
use Rattle.plane.proofs.Turning.OneSide.{some_beside}
use Rattle.plane.proofs.Strips.Borders.{border_linked}
use Rattle.plane.proofs.Turning.CellWalls.{wall}
use Rattle.plane.proofs.Turning.InnerClasses.{connected_is_linked, rooted}
use Rattle.plane.proofs.LabelLemmas.HalfLabels.{linked_label}
use Rattle.plane.proofs.Turning.AnyWeight.{cell_to, linked_to, connected_to, link_to}
use Rattle.plane.proofs.Runs.RunWeights.{run_weight}

-- ---- labels by list and by number
pub matched_numbers : (w : ℤ) (m : ℕ) (E : ℕ → Edge) (steps : List Step) (a : Labels)
    → Each (MatchesAt a) steps ↔ IsMatched (replay w m E steps) a
matched_numbers w m E steps a = (
  (λ h k l. each_has (λ t. MatchesAt a t) steps (nth steps k) h (has_nth steps k l)),
  (λ h. each_from (λ t. MatchesAt a t) steps (λ s i. let k = index_of steps s i in
      subst (λ (t : Step). MatchesAt a t) k.2 (h k.0 k.1))),
)

module _ (v : ℤ) (m : ℕ) (E : ℕ → Edge) (steps : List Step) (run : Run m E steps) where
  abbrev r : Replay
  r = replay v m E steps

  -- the weight that the laws take
  abbrev w : ℤ
  w = (run_weight m E steps [] run).weight

  abbrev s : Replay
  s = replay w m E steps

  there : IsRun s
  there = swept_run w m E steps (run_weight m E steps [] run).swept

  lawful : IsLawful s
  lawful = swept_lawful w m E steps (run_weight m E steps [] run).swept

  pub connected_is : (g h : Half) (c d : Sector) → IsSector r c → IsSector r d → Beside r g c
      → Beside r h d → Connected r g h ↔ Linked r c d
  connected_is g h c d C D b k =
      let f = connected_is_linked s there lawful g h c d (cell_to v w m E steps c C)
      (cell_to v w m E steps d D) b k in (
        (λ x. linked_to w v m E steps c d (f.0 (connected_to v w m E steps g h x))),
        (λ x. connected_to w v m E steps g h (f.1 (linked_to v w m E steps c d x))),
      )

  pub border_is : (c : Sector) → IsSector r c → IsBorder r c → Linked r c corner
  border_is c C b =
      linked_to w v m E steps c corner
      (border_linked s there lawful c (cell_to v w m E steps c C) b)

  -- each half-edge has a cell beside it, each cell has a wall or is at the border
  pub has_cell : (h : Half) → edge_of h < m → (c : Sector) × IsSector r c × Beside r h c
  has_cell h l = let (c, C, b) = some_beside s there lawful h l in (c, cell_to w v m E steps c C, b)

  pub has_wall : (c : Sector) → IsSector r c → IsBorder r c ⊎ ((h : Half) × Beside r h c)
  has_wall c C = wall s there lawful c (cell_to v w m E steps c C)

  pub label_is : (a : Labels) → Each (MatchesAt a) steps → (c d : Sector) → Linked r c d
      → label_of a r c ≡ label_of a r d
  label_is a h c d l =
      linked_label s there lawful a ((matched_numbers w m E steps a).0 h) c d
      (linked_to v w m E steps c d l)

  -- links along which the label stays and the rank falls lead to a root of the same label, in the
  -- same class
  pub link_root : (lab rank : Half → ℕ) (link : Half → Lead) (Root : Half → Type 0)
      → AreLeads r lab rank link Root → (h : Half) → edge_of h < m
      → (g : Half) × (edge_of g < m) × Root g × (lab g ≡ lab h) × Connected r h g
  link_root lab rank link Root links h l =
      let g = rooted s there lawful lab rank link Root
      (λ x k. link_to v w m E steps lab rank Root Root (λ y o. o) x (link x) (links x k))
      (suc (rank h)) h l (omega arith) in
      let (c, C, b) = some_beside s there lawful h l in
      let (d, D, k) = some_beside s there lawful g.0 g.1.fits in (
        g.0,
        g.1.fits,
        g.1.good,
        g.1.label,
        connected_to w v m E steps h g.0
            ((connected_is_linked s there lawful h g.0 c d C D b k).1 (g.1.linked c d C D b k)),
      )
