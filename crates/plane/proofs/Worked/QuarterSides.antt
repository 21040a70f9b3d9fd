-- The quarter of a disc has no curve with one face on both sides.
use Rattle.std.proofs.Common.{◌≡◌, ℕ, zero, suc, ◌<◌, pos, arith}
use Rattle.plane.specs.declared.window.Window2.{Window2}
use Rattle.plane.specs.Rule.Cuts.{HasNoCut}
use Rattle.plane.specs.CurveRuns.TubedRuns.{whole, owned}
use Rattle.plane.proofs.CurveAreas.CutCurves.{all_uncut}
use Rattle.plane.proofs.Worked.QuarterDisc.{edge, steps, bays, labels, within, inside, outside}
use Rattle.plane.proofs.Worked.QuarterDisc.{quarter, quarter_run, quarter_labels}

module _ (w : Window2) where
  sides : (e : ℕ) → e < 7 → (owned (quarter w) bays e).part ≡ whole
      → labels.above e ≡ labels.below e → ⊥
  sides zero l p k = absurd (omega (arith, k))
  sides (suc zero) l p k = absurd (omega (arith, k))
  sides (suc (suc zero)) l p k = absurd (omega (arith, k))
  sides (suc (suc (suc zero))) l p k = absurd (omega (arith, k))
  sides (suc (suc (suc (suc zero)))) l p k = absurd (omega (arith, k))
  sides (suc (suc (suc (suc (suc zero))))) l p k = absurd (omega (arith, k))
  sides (suc (suc (suc (suc (suc (suc zero)))))) l p k = absurd (omega (arith, k))
  sides (suc (suc (suc (suc (suc (suc (suc e))))))) l p k = absurd (omega (arith, l))

  pub quarter_uncut : HasNoCut (quarter w)
  quarter_uncut =
      all_uncut (pos 0) (quarter w) bays 7 edge steps labels within inside outside (quarter_run w)
      (quarter_labels w (pos 0)) sides (λ i fits bent k. absurd (omega (arith, k)))
