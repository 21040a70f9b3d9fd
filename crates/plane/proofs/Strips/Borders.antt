-- The cells under all edges, and those over all edges, are linked to the first cell.
-- At each event the border goes on under it and over it.
use Rattle.std.proofs.Common.{ℕ, zero, suc, ◌<◌, ◌≤◌, List, length, refl, arith, ap, sym, inl, inr}
use Rattle.std.proofs.Common.{subst}
use Rattle.plane.specs.Faces.Replays.{Replay}
use Rattle.plane.proofs.Runs.RunWords.{IsRun, IsLawful}
use Rattle.plane.specs.Faces.Cells.{Sector, IsSector, corner, IsBorder, Linked, stays, back}
use Rattle.plane.proofs.Strips.ToTheRight.{cells_eq}
use Rattle.plane.proofs.Strips.Joins.{lengths_before, lengths_after}

module _ (r : Replay) (run : IsRun r) (law : IsLawful r) where
  -- the cells under all edges
  pub under_all : (k : ℕ) → k ≤ r.steps → Linked r (record { strip = k; index = 0 }) corner
  under_all zero h = stays _ _ refl
  under_all (suc k) h =
      back (record { strip = suc k; index = 0 }) (record { strip = k; index = 0 }) corner
      (inl record { fits = omega arith; next = refl; low = omega arith; kept = refl })
      (under_all k (omega arith))

  -- the cells over all edges
  pub over_all : (k : ℕ) → k ≤ r.steps
      → Linked r (record { strip = k; index = length (r.list k) }) corner
  over_all zero h = stays _ _ (cells_eq _ _ refl (ap (λ (es : List ℕ). length es) run.first))
  over_all (suc k) h =
      let l : k < r.steps = omega arith in
      let n = lengths_before r run law k l in
      let m = lengths_after r run law k l in
      back (record { strip = suc k; index = length (r.list (suc k)) }) (record {
        strip = k;
        index = length (r.list k);
      }) corner
      (inr record {
        fits = l;
        next = refl;
        top = omega arith;
        high = omega (arith, n);
        kept = omega (arith, n, m);
      }) (over_all k (omega arith))

  -- a cell at the border
  pub border_linked : (c : Sector) → IsSector r c → IsBorder r c → Linked r c corner
  border_linked c C (inl e) =
      subst (λ (x : Sector). Linked r x corner)
      (cells_eq (record { strip = c.strip; index = 0 }) c refl (sym e)) (under_all c.strip C.strip)
  border_linked c C (inr e) =
      subst (λ (x : Sector). Linked r x corner)
      (cells_eq (record { strip = c.strip; index = length (r.list c.strip) }) c refl (sym e))
      (over_all c.strip C.strip)
