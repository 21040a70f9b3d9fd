-- A half arc from its other end has the same circle, the same side of its chord, and is hit by the
-- same segments.
use Rattle.std.proofs.Common.{◌≡◌, ◌⊎◌, inl, inr, ℤ, pos, ◌≤ℤ◌, ap, sym, ◌∙◌, subst}
use Rattle.plane.specs.Forms.Vectors.{Vector, Place}
use Rattle.plane.specs.Forms.Arcs.{HalfArc, power, bow}
use Rattle.plane.proofs.HalfArcs.HitWords.{HitsArc}
use Rattle.plane.specs.Rule.HalfArcs.{HitsHalfArc}
use Rattle.plane.proofs.Settling.EdgesAndTubes.{turned}
use Rattle.plane.proofs.Linear.Straights.{straight_between}
use Rattle.plane.proofs.Covers.SameArc.{power-back, bow-back}

-- ---- one half arc, from one end or from the other
abbrev pub OneArc : HalfArc → HalfArc → Type 0
OneArc g h = (g ≡ h) ⊎ (g ≡ turned h)

pub power_one : (g h : HalfArc) (v : Vector) → OneArc g h → power g v ≡ power h v
power_one g h v (inl e) = ap (λ (x : HalfArc). power x v) e
power_one g h v (inr e) = ap (λ (x : HalfArc). power x v) e ∙ power-back h v

pub bow_one : (g h : HalfArc) (v : Vector) → OneArc g h → bow g v ≡ bow h v
bow_one g h v (inl e) = ap (λ (x : HalfArc). bow x v) e
bow_one g h v (inr e) = ap (λ (x : HalfArc). bow x v) e ∙ bow-back h v

pub hits_one : (g h : HalfArc) (p q : Vector) → OneArc g h → Place p → Place q → HitsHalfArc h p q
    → HitsArc g p q
hits_one g h p q o P Q k = record {
  u = k.u;
  v = k.v;
  u_place = k.u_place;
  v_place = k.v_place;
  u_between = straight_between p q k.u P Q k.u_place k.u_of_segment;
  v_between = straight_between p q k.v P Q k.v_place k.v_of_segment;
  u_away = subst (λ (x : ℤ). pos 0 ≤ℤ x) (sym (bow_one g h k.u o)) k.u_away;
  v_away = subst (λ (x : ℤ). pos 0 ≤ℤ x) (sym (bow_one g h k.v o)) k.v_away;
  u_in = subst (λ (x : ℤ). x ≤ℤ pos 0) (sym (power_one g h k.u o)) k.u_not_outside;
  v_out = subst (λ (x : ℤ). pos 0 ≤ℤ x) (sym (power_one g h k.v o)) k.v_not_inside;
}
