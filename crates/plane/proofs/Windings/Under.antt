-- Which edges pass under a place: those of its live list whose sides are above 0.
use Rattle.std.proofs.Common.{◌≡◌, ℕ, zero, suc, ◌<◌, ◌≤◌, Bool, true, false, List, ◌++◌, map, ℤ}
use Rattle.std.proofs.Common.{pos, ◌*ℤ◌, ◌<ℤ◌, ◌≤ℤ◌, inl, inr, arith, ap, sym, ◌∙◌, subst}
use Rattle.std.proofs.lemmas.Int.{ints, by_lt_z}
use Rattle.plane.specs.declared.kinds.Point.{Point}
use Rattle.plane.specs.Lists.{Has, Once}
use Rattle.plane.specs.Forms.Vectors.{Vector, Place, point, Edge, side, sweep}
use Rattle.plane.specs.Faces.Replays.{Replay}
use Rattle.plane.proofs.Runs.RunWords.{IsRun, IsLawful, IsStrip}
use Rattle.plane.specs.Faces.Cells.{is_positive}
use Rattle.plane.specs.Faces.Halves.{Half, IsMatched}
use Rattle.plane.specs.Faces.Labels.{Labels, Match, last_label}
use Rattle.plane.specs.Tubes.Windings.{lead, turned, turning, total}
use Rattle.plane.specs.Tubes.Facing.{way, IsFaced}
use Rattle.plane.proofs.Windings.FacingWords.{one_at}
use Rattle.plane.proofs.ListLemmas.Lists.{has_front, has_append, once_front}
use Rattle.plane.proofs.Linear.Vectors.{rise-is}
use Rattle.plane.proofs.Runs.Moments.{scaled}
use Rattle.plane.proofs.Strips.CountBelow.{positive_is, not_positive}
use Rattle.plane.proofs.Windings.Turns.{right_one, right_none}
use Rattle.plane.proofs.LabelLemmas.HalfLabels.{labelled}
use Rattle.plane.proofs.LabelLemmas.Matches.{match_front}
use Rattle.plane.proofs.Windings.Facing.{faced_turning}

pub by_order : {P : Type 0} (i k : ℕ) → (i < k → P) → (k ≤ i → P) → P
by_order i zero f g = g (omega arith)
by_order zero (suc k) f g = f (omega arith)
by_order (suc i) (suc k) f g =
    by_order i k (λ (h : i < k). f (omega arith)) (λ (h : k ≤ i). g (omega arith))

turning_spans : (w : ℤ) (z : Vector) (e : Edge) → lead w e.low z ≤ℤ pos 0 → pos 0 <ℤ lead w e.high z
    → turning w z e ≡ turned false true (side e z)
unfolding turning
turning_spans w z e a b =
    ap (λ (s : Bool). turned s (is_positive (lead w e.high z)) (side e z))
    (not_positive (lead w e.low z) a)
    ∙ ap (λ (s : Bool). turned false s (side e z)) (positive_is (lead w e.high z) b)

turning_later : (w : ℤ) (z : Vector) (e : Edge) → pos 0 <ℤ lead w e.low z → pos 0 <ℤ lead w e.high z
    → turning w z e ≡ pos 0
unfolding turning
turning_later w z e a b =
    ap (λ (s : Bool). turned s (is_positive (lead w e.high z)) (side e z))
    (positive_is (lead w e.low z) a)
    ∙ ap (λ (s : Bool). turned true s (side e z)) (positive_is (lead w e.high z) b)

turning_past : (w : ℤ) (z : Vector) (e : Edge) → lead w e.low z ≤ℤ pos 0 → lead w e.high z ≤ℤ pos 0
    → turning w z e ≡ pos 0
unfolding turning
turning_past w z e a b =
    ap (λ (s : Bool). turned s (is_positive (lead w e.high z)) (side e z))
    (not_positive (lead w e.low z) a)
    ∙ ap (λ (s : Bool). turned false s (side e z)) (not_positive (lead w e.high z) b)

pub lead_not_after : (w : ℤ) (p : Point) (z : Vector) → (sweep w (point p) *ℤ z.n) ≤ℤ sweep w z
    → lead w p z ≤ℤ pos 0
unfolding lead
lead_not_after w p z h = omega (arith, ints, h)

pub lead_after : (w : ℤ) (p : Point) (z : Vector) → sweep w z <ℤ (sweep w (point p) *ℤ z.n)
    → pos 0 <ℤ lead w p z
unfolding lead
lead_after w p z h = omega (arith, ints, h)

lead_rises : (w : ℤ) (p q : Point) (z : Vector) → Place z → sweep w (point p) <ℤ sweep w (point q)
    → lead w p z <ℤ lead w q z
unfolding lead
lead_rises w p q z Z h =
    let s = scaled (sweep w (point p)) (sweep w (point q)) z.n Z h in omega (arith, ints, s)

module _ (r : Replay) (run : IsRun r) (law : IsLawful r) (no_repeats : (k : ℕ) → k ≤ r.steps
    → Once (r.list k)) where
  low_lead : (k e : ℕ) (z : Vector) → IsStrip r k z → Has e (r.list k)
      → lead r.weight (r.edge e).low z ≤ℤ pos 0
  low_lead k e z strip m =
      let b = law.begun k e strip.fits m in
      lead_not_after r.weight (r.edge e).low z
      (subst (λ (p : Point). (sweep r.weight (point p) *ℤ z.n) ≤ℤ sweep r.weight z) b.2
      (strip.from b.0 b.1))

  high_lead : (k e : ℕ) (z : Vector) → IsStrip r k z → Has e (r.list k)
      → pos 0 <ℤ lead r.weight (r.edge e).high z
  high_lead k e z strip m =
      let b = law.open_still k e strip.fits m in
      lead_after r.weight (r.edge e).high z
      (subst (λ (p : Point). sweep r.weight z <ℤ (sweep r.weight (point p) *ℤ z.n)) b.3
      (strip.to b.0 b.1 b.2))

  live_turning : (k e : ℕ) (z : Vector) → IsStrip r k z → Has e (r.list k)
      → turning r.weight z (r.edge e) ≡ turned false true (side (r.edge e) z)
  live_turning k e z strip m =
      turning_spans r.weight z (r.edge e) (low_lead k e z strip m) (high_lead k e z strip m)

  -- an edge that spans the place is live
  pub spans_live : (k e : ℕ) (z : Vector) → IsStrip r k z → e < r.edges
      → lead r.weight (r.edge e).low z ≤ℤ pos 0 → pos 0 <ℤ lead r.weight (r.edge e).high z
      → Has e (r.list k)
  spans_live k e z strip l a b =
      let i = run.begins e l in
      let j = run.ends e l in
      law.alive k e i.0 j.0 l
      (by_order i.0 k (λ (h : i.0 < k). h) (λ (h : k ≤ i.0).
      let c = lead_after r.weight (r.edge e).low z
      (subst (λ (p : Point). sweep r.weight z <ℤ (sweep r.weight (point p) *ℤ z.n)) i.2
      (strip.to i.0 h i.1)) in
      absurd (omega (arith, ints, a, c))))
      i.2
      (by_order j.0 k (λ (h : j.0 < k).
      let c = lead_not_after r.weight (r.edge e).high z
      (subst (λ (p : Point). (sweep r.weight (point p) *ℤ z.n) ≤ℤ sweep r.weight z) j.2
      (strip.from j.0 h)) in
      absurd (omega (arith, ints, b, c)))
      (λ (h : k ≤ j.0). h))
      j.1 j.2

  -- at a cut of the live list: below it the edges pass under the place, and no others
  module _ (k : ℕ) (z : Vector) (Z : Place z) (strip : IsStrip r k z) (lower rest : List ℕ)
      (cut : r.list k ≡ lower ++ rest)
      (under : (e : ℕ) → Has e lower → pos 0 <ℤ side (r.edge e) z) (over : (e : ℕ) → Has e rest
      → side (r.edge e) z ≤ℤ pos 0) where
    lower_live : (e : ℕ) → Has e lower → Has e (r.list k)
    lower_live e m = subst (λ (es : List ℕ). Has e es) (sym cut) (has_front e lower rest m)

    passed : (e : ℕ) → Has e lower → (e < r.edges) × (turning r.weight z (r.edge e) ≡ pos 1)
    passed e m = (
      law.live k e strip.fits (lower_live e m),
      live_turning k e z strip (lower_live e m)
          ∙ right_one (side (r.edge e) z) (under e m),
    )

    live_not : (e : ℕ) → (Has e lower → ⊥) → Has e (r.list k)
        → turning r.weight z (r.edge e) ≡ pos 0
    live_not e none m = elim (has_append e lower rest (subst (λ (es : List ℕ). Has e es) cut m)) [
      | inl h ↦ absurd (none h)
      | inr h ↦ live_turning k e z strip m ∙ right_none (side (r.edge e) z) (over e h)
    ]

    not_passed : (e : ℕ) → e < r.edges → (Has e lower → ⊥) → turning r.weight z (r.edge e) ≡ pos 0
    not_passed e l none =
        let u = run.rise e l in
        let q = rise-is r.weight (r.edge e) in
        let x = lead_rises r.weight (r.edge e).low (r.edge e).high z Z
        (omega (arith, ints, u, q)) in
        by_lt_z (pos 0) (lead r.weight (r.edge e).low z)
        (λ (a : pos 0 <ℤ lead r.weight (r.edge e).low z). turning_later r.weight z (r.edge e) a
        (omega (arith, ints, a, x)))
        (λ (a : lead r.weight (r.edge e).low z ≤ℤ pos 0). by_lt_z (pos 0)
        (lead r.weight (r.edge e).high z)
        (λ (b : pos 0 <ℤ lead r.weight (r.edge e).high z). live_not e none
        (spans_live k e z strip l a b))
        (λ (b : lead r.weight (r.edge e).high z ≤ℤ pos 0). turning_past r.weight z (r.edge e) a b))

    -- a tube's bounds go round the place as the label over the lower edges says
    pub cut_turning : (lab : Labels) (t : ℕ) (hs : List Half) → IsMatched r lab
        → IsFaced r.edges lab t hs
        → total (turning r.weight z) (map (way r.edge) hs) ≡ one_at t (last_label lab 0 lower)
    cut_turning lab t hs matched faced =
        let all = labelled r run law lab matched k strip.fits in
        let carries = match_front lab 0 0 lower rest
        (subst (λ (es : List ℕ). Match lab 0 es 0) cut all) in
        faced_turning r.weight r.edges r.edge z lab t hs faced lower
        (once_front lower rest (subst (λ (es : List ℕ). Once es) cut (no_repeats k strip.fits)))
        passed not_passed carries
