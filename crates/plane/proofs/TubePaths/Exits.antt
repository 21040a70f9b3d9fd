-- Across an edge into the cell beyond it, away from all other edges.
use Rattle.std.proofs.Common.{◌≡◌, ℕ, ◌<◌, ℤ, pos, ◌+ℤ◌, ◌*ℤ◌, ◌-ℤ◌, ◌<ℤ◌, ◌≤ℤ◌, [], ◌∷◌, refl}
use Rattle.std.proofs.Common.{arith, ap, sym, ◌∙◌, inl, inr, subst}
use Rattle.std.proofs.lemmas.Int.{ints}
use Rattle.plane.specs.Forms.Vectors.{Vector, Place, Same, Between, mix, side, On}
use Rattle.plane.specs.Faces.Replays.{Replay, IsOffEdges}
use Rattle.plane.proofs.Runs.RunWords.{IsRun, IsLawful}
use Rattle.plane.specs.Faces.Cells.{sector, IsFree}
use Rattle.plane.specs.Faces.Halves.{Half, under, over, edge_of, twin, Beside}
use Rattle.plane.proofs.FaceLemmas.EdgeCrossings.{IsCrossing}
use Rattle.plane.specs.CurveRuns.Extended.{IsOnWay}
use Rattle.plane.proofs.Algebra.Laws.{weight_at_most}
use Rattle.plane.proofs.Algebra.Scaling.{cancel_zero, product_of_zero}
use Rattle.plane.proofs.Linear.Vectors.{side-mix}
use Rattle.plane.proofs.Linear.Signs.{mix_place}
use Rattle.plane.proofs.Linear.Clear.{mix_clear, on_same}
use Rattle.plane.proofs.FaceLemmas.Crossings.{crossing_segment}
use Rattle.plane.proofs.Windings.CommonPlaces.{decide_number}
use Rattle.plane.proofs.Windings.Ways.{way_mix, way_start, way_end, way_place}
use Rattle.plane.proofs.Algebra.Ring.{at, plus, minus, times, vars, ring}

-- x is on the edge of h, o is in a cell on the other side; between them only the edge of h is met,
-- and only at x itself
pub record IsExit (r : Replay) (h : Half) (x o : Vector) : Type 0 where
  pub x_place : Place x
  pub o_place : Place o
  pub on : On r.weight (r.edge (edge_of h)) x
  pub off : IsOffEdges r o
  pub beside : Beside r (twin h) (sector r o)
  pub only : (z : Vector) → IsOnWay x o z → (f : ℕ) → f < r.edges → On r.weight (r.edge f) z
      → f ≡ edge_of h
  pub leaves : (z : Vector) (w : IsOnWay x o z) → pos 0 <ℤ w.t → IsFree r z o

-- a mix with the second weight 0 is the first place
pub same_start : (s t : ℤ) (x o : Vector) → t ≡ pos 0 → Same (mix s x t o) x
same_start s t x o e = record { x = one s t x.x x.n o.x o.n e; y = one s t x.y x.n o.y o.n e }
  where
    one : (s t a m b n : ℤ) → t ≡ pos 0 → ((s *ℤ a) +ℤ (t *ℤ b)) *ℤ m ≡ a *ℤ ((s *ℤ m) +ℤ (t *ℤ n))
    one s t a m b n e =
        let i = ring
        (minus (times (plus (times (at 0) (at 2)) (times (at 1) (at 4))) (at 3))
        (times (at 2) (plus (times (at 0) (at 3)) (times (at 1) (at 5)))))
        (times (minus (times (at 4) (at 3)) (times (at 2) (at 5))) (at 1))
        (vars (s ∷ t ∷ a ∷ m ∷ b ∷ n ∷ [])) refl in
        let j = product_of_zero ((b *ℤ m) -ℤ (a *ℤ n)) t e in
        omega (arith, ints, i, j)

pub way_between : (p q z : Vector) → IsOnWay p q z → Between z p q
way_between p q z w =
    subst (λ (v : Vector). Between v p q) (sym w.is) (record {
      s = w.s;
      t = w.t;
      s_least = w.s_least;
      t_least = w.t_least;
      some = w.some;
      is = record { x = refl; y = refl };
    })

not_zero : (s t u v : ℤ) → pos 0 ≤ℤ s → pos 0 ≤ℤ t → pos 0 <ℤ (s +ℤ t) → pos 0 <ℤ u
    → (v ≡ pos 0 → ⊥) → (s *ℤ (u *ℤ v)) +ℤ (t *ℤ v) ≡ pos 0 → ⊥
not_zero s t u v hs ht some hu n e =
    let a = weight_at_most s u hs hu in
    let i = ring (plus (times (at 0) (times (at 2) (at 3))) (times (at 1) (at 3)))
    (times (plus (times (at 0) (at 2)) (at 1)) (at 3)) (vars (s ∷ t ∷ u ∷ v ∷ [])) refl in
    n (cancel_zero ((s *ℤ u) +ℤ t) v (omega (arith, ints, a, some)) (sym i ∙ e))

on_the_line : (s a t b : ℤ) → a ≡ pos 0 → (s *ℤ a) +ℤ (t *ℤ b) ≡ t *ℤ b
on_the_line s a t b e = let i = product_of_zero s a e in omega (arith, ints, i)

module _ (r : Replay) (run : IsRun r) (law : IsLawful r) where
  module _ (e : ℕ) (p q : Vector) (cross : IsCrossing r e p q) where
    P : Place p
    P = cross.p_place

    Q : Place q
    Q = cross.q_place

    -- from the crossing place x to an end o of the segment
    exit_to : (h : Half) (x o : Vector) → edge_of h ≡ e → IsOnWay p q x → IsOnWay p q o → Place o
        → IsOffEdges r o → On r.weight (r.edge e) x → (side (r.edge e) o ≡ pos 0 → ⊥)
        → Beside r (twin h) (sector r o) → IsExit r h x o
    exit_to h x o name wx wo O off on n beside = record {
      x_place = X;
      o_place = O;
      on = subst (λ (d : ℕ). On r.weight (r.edge d) x) (sym name) on;
      off = off;
      beside = beside;
      only = λ z w f l k. only z w f l k ∙ sym name;
      leaves = free;
    }
      where
        X : Place x
        X = way_place p q x P Q wx

        longer : (z : Vector) → IsOnWay x o z → IsOnWay p q z
        longer z w =
            subst (λ (v : Vector). IsOnWay p q v) (sym w.is)
            (way_mix p q x o w.s w.t w.s_least w.t_least w.some wx wo)

        only : (z : Vector) → IsOnWay x o z → (f : ℕ) → f < r.edges → On r.weight (r.edge f) z
            → f ≡ e
        only z w f l k = elim (decide_number f e) [
          | inl i ↦ i
          | inr i ↦ (let y = longer z w in
              absurd (cross.clear f l i record {
                z = z;
                place = way_place p q z P Q y;
                between = way_between p q z y;
                on = k;
              }))
        ]

        side_at : (z : Vector) (w : IsOnWay x o z) → side (r.edge e) z ≡ w.t *ℤ side (r.edge e) o
        side_at z w = ap (λ (v : Vector). side (r.edge e) v) w.is ∙ side-mix (r.edge e) w.s x w.t o
            ∙ on_the_line w.s (side (r.edge e) x) w.t (side (r.edge e) o) on.line

        free : (z : Vector) (w : IsOnWay x o z) → pos 0 <ℤ w.t → IsFree r z o
        free z w t f l =
            mix_clear r.weight (r.edge f) z o (way_place x o z X O w) O (λ s u hs hu some k.
            let y = way_mix x o z o s u hs hu some w (way_end x o) in
            let i = only (mix s z u o) y f l k in
            let on_e = subst (λ (d : ℕ). On r.weight (r.edge d) (mix s z u o)) i k in
            let m = side-mix (r.edge e) s z u o in
            let g = ap (λ (v : ℤ). (s *ℤ v) +ℤ (u *ℤ side (r.edge e) o)) (side_at z w) in
            not_zero s u w.t (side (r.edge e) o) hs hu some t n (sym g ∙ sym m ∙ on_e.line))

    -- the place of the segment that is on the edge
    met : (x : Vector) × IsOnWay p q x × On r.weight (r.edge e) x
    met =
        let b = cross.hits.between in
        let x = mix b.s p b.t q in (
          x,
          record {
            s = b.s;
            t = b.t;
            s_least = b.s_least;
            t_least = b.t_least;
            some = b.some;
            is = refl;
          },
          on_same r.weight (r.edge e) cross.hits.z x b.is cross.hits.place
              (mix_place b.s p b.t q P Q b.s_least b.t_least b.some) cross.hits.on,
        )

  -- from each edge a way leads out on either side
  pub exit : (h : Half) → edge_of h < r.edges → (x : Vector) × (o : Vector) × IsExit r h x o
  exit (under e) l =
      let c = crossing_segment r run law e l in
      let m = met e c.0 c.1 c.2 in
      let up = c.2.above in (
        m.0,
        c.0,
        exit_to e c.0 c.1 c.2 (under e) m.0 c.0 refl m.1
            (way_start c.0 c.1) c.2.p_place c.2.p_off m.2 (λ z. omega (arith, ints, up, z)) c.3,
      )
  exit (over e) l =
      let c = crossing_segment r run law e l in
      let m = met e c.0 c.1 c.2 in
      let down = c.2.below in (
        m.0,
        c.1,
        exit_to e c.0 c.1 c.2 (over e) m.0 c.1 refl m.1
            (way_end c.0 c.1) c.2.q_place c.2.q_off m.2 (λ z. omega (arith, ints, down, z)) c.4,
      )
