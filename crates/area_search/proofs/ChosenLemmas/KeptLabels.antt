-- Where labels match at each event, each of them stays along a link, and is 0 at the border.
use Rattle.std.proofs.Common.{◌≡◌, ℕ, ◌<◌, ℤ, List, [], refl, sym, ◌∙◌}
use Rattle.plane.specs.declared.kinds.Edge.{Edge}
use Rattle.plane.specs.Faces.Cells.{IsSector, Sector, label_of}
use Rattle.plane.specs.Faces.Classes.{Across, Next, Touches, go, same}
use Rattle.plane.specs.Faces.Halves.{Beside, Half, IsMatched, edge_of, mark, over, twin, under}
use Rattle.plane.specs.Faces.Labels.{Labels}
use Rattle.plane.specs.Faces.Replays.{Replay, replay}
use Rattle.plane.specs.Runs.Steps.{Run, Step}
use Rattle.plane.proofs.FaceLemmas.FaceNumbers.{label_before, label_under}
use Rattle.plane.proofs.LabelLemmas.HalfLabels.{border_label, linked_label, upper_label}
use Rattle.plane.proofs.Runs.Lawful.{swept_lawful}
use Rattle.plane.proofs.Runs.Numbered.{swept_run}
use Rattle.plane.proofs.Runs.RunWeights.{RunWeight, run_weight}
use Rattle.plane.proofs.Runs.RunWords.{IsLawful, IsRun}
use Rattle.plane.proofs.Turning.AnyWeight.{cell_to, linked_to}
use Rattle.plane.proofs.Turning.CellWalls.{beside_fits}
use Rattle.plane.proofs.Turning.Classes.{connected_is, has_cell}
use Rattle.plane.proofs.Turning.NextOnly.{next_has}

twin_fits : (m : ℕ) (h : Half) → edge_of (twin h) < m → edge_of h < m
twin_fits m (under e) l = l
twin_fits m (over e) l = l

module _ (v : ℤ) (m : ℕ) (E : ℕ → Edge) (steps : List Step) (run : Run m E steps) where
  abbrev r : Replay
  r = replay v m E steps

  u : RunWeight m E steps []
  u = run_weight m E steps [] run

  -- the same with a weight of the run
  abbrev q : Replay
  q = replay u.weight m E steps

  there : IsRun q
  there = swept_run u.weight m E steps u.swept

  lawful : IsLawful q
  lawful = swept_lawful u.weight m E steps u.swept

  -- half-edges that a link joins are half-edges of the run
  pub next_fits : (g h : Half) → Next r g h → edge_of h < m
  next_fits g h k = (next_has v m E steps run g h k).0

  pub previous_fits : (g h : Half) → Next r g h → edge_of g < m
  previous_fits g h k = twin_fits m g (next_has v m E steps run g h k).1

  pub across_fits : (g h : Half) → Across r g h → edge_of h < m
  across_fits g h (c, C, x, y) = beside_fits q there lawful h c (cell_to v u.weight m E steps c C) y

  module _ (lab : Labels) (matched : IsMatched r lab) where
    pub beside_label : (h : Half) (c : Sector) → IsSector r c → Beside r h c
        → label_of lab r c ≡ mark lab h
    beside_label (under e) c C b = upper_label q there lawful lab matched c
        (cell_to v u.weight m E steps c C) ∙ label_under lab 0 c.index (r.list c.strip) e b
    beside_label (over e) c C b = label_before lab 0 c.index (r.list c.strip) e b

    pub border_is : (h : Half) → Touches r h → mark lab h ≡ 0
    border_is h (c, C, b, o) = sym (beside_label h c C b)
        ∙ border_label q there lawful lab matched c (cell_to v u.weight m E steps c C) o

    pub across_keeps : (g h : Half) → Across r g h → mark lab g ≡ mark lab h
    across_keeps g h (c, C, x, y) = sym (beside_label g c C x) ∙ beside_label h c C y

    pub next_keeps : (g h : Half) → Next r g h → mark lab g ≡ mark lab h
    next_keeps g h k =
        let c = has_cell v m E steps run g (previous_fits g h k) in
        let d = has_cell v m E steps run h (next_fits g h k) in
        let l = (connected_is v m E steps run g h c.0 d.0 c.1 d.1 c.2 d.2).0
        (go g h h k (same h h refl)) in
        sym (beside_label g c.0 c.1 c.2) ∙ linked_label q there lawful lab matched c.0 d.0
        (linked_to v u.weight m E steps c.0 d.0 l) ∙ beside_label h d.0 d.1 d.2
