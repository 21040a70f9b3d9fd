-- A common place of two tubes is a control point of both.
use Rattle.std.proofs.Common.{◌≡◌, ℕ, ◌<◌, List, [], ◌∷◌, ℤ, pos, ◌*ℤ◌, ◌<ℤ◌, ◌≤ℤ◌, ◌⊎◌, inl, inr}
use Rattle.std.proofs.Common.{refl, arith, ap, sym, ◌∙◌, subst}
use Rattle.std.proofs.lemmas.Int.{ints, by_lt_z}
use Rattle.std.proofs.lemmas.Bool.Decides.{eqb_tells}
use Rattle.plane.specs.declared.kinds.Point.{Point}
use Rattle.plane.specs.Lists.{Has}
use Rattle.plane.specs.Forms.Vectors.{Vector, Place, Same, point, Edge, side, sweep, On}
use Rattle.plane.specs.Faces.Replays.{Replay}
use Rattle.plane.specs.Faces.Halves.{Half, edge_of, IsMatched}
use Rattle.plane.specs.Faces.Labels.{Labels}
use Rattle.plane.specs.Tubes.Windings.{Tile, Bay, weighed, tiles, InSomeTile}
use Rattle.plane.specs.Tubes.Facing.{IsDrawnTube, IsClean, tip}
use Rattle.plane.proofs.Algebra.Scaling.{cancel_le}
use Rattle.plane.proofs.Algebra.Ring.{at, times, vars, ring}
use Rattle.plane.proofs.Windings.Whole.{IsWhole}
use Rattle.plane.proofs.Windings.TubeCells.{in_tube}
use Rattle.plane.proofs.Windings.Enters.{Decided, decide_z, decide_same, look, look_below}
use Rattle.plane.proofs.Windings.Enters.{edge_outside, event_corner}

-- ---- one place by two vectors
pub same_from : (z v u : Vector) → Place z → Same z v → Same z u → Same v u
same_from z v u Z a b = record {
  x = one z.x z.n v.x v.n u.x u.n Z a.x b.x;
  y = one z.y z.n v.y v.n u.y u.n Z a.y b.y;
}
  where
    one : (x n p m q k : ℤ) → pos 0 <ℤ n → x *ℤ m ≡ p *ℤ n → x *ℤ k ≡ q *ℤ n → p *ℤ k ≡ q *ℤ m
    one x n p m q k N h j =
        let a = ap (λ (v : ℤ). v *ℤ k) h in
        let b = ap (λ (v : ℤ). v *ℤ m) j in
        let c = ring (times (times (at 0) (at 1)) (at 2)) (times (times (at 0) (at 2)) (at 1))
        (vars (x ∷ m ∷ k ∷ [])) refl in
        let d = ring (times (times (at 0) (at 1)) (at 2)) (times (at 1) (times (at 0) (at 2)))
        (vars (p ∷ n ∷ k ∷ [])) refl in
        let e = ring (times (times (at 0) (at 1)) (at 2)) (times (at 1) (times (at 0) (at 2)))
        (vars (q ∷ n ∷ m ∷ [])) refl in
        let f = cancel_le n (p *ℤ k) (q *ℤ m) N (omega (arith, ints, a, b, c, d, e)) in
        let g = cancel_le n (q *ℤ m) (p *ℤ k) N (omega (arith, ints, a, b, c, d, e)) in
        omega (arith, ints, f, g)

pub in_some_same : (ts : List Tile) (z v : Vector) → Place z → Same z v → InSomeTile ts z
    → InSomeTile ts v
in_some_same ts z v Z h s =
    let i = s.2 in (
      s.0,
      s.1,
      record {
        of_a = i.of_a;
        of_b = i.of_b;
        of_c = i.of_c;
        a_least = i.a_least;
        b_least = i.b_least;
        c_least = i.c_least;
        some = i.some;
        is = same_from z v (weighed i.of_a s.0.a i.of_b s.0.b i.of_c s.0.c) Z h i.is;
      },
    )

decide_le : (a b : ℤ) → Decided (a ≤ℤ b)
decide_le a b =
    by_lt_z b a (λ (l : b <ℤ a). inr (λ (h : a ≤ℤ b). omega (arith, ints, l, h))) (λ l. inl l)

pub decide_on : (w : ℤ) (e : Edge) (z : Vector) → Decided (On w e z)
decide_on w e z = elim (decide_z (side e z) (pos 0)) [
  | inr n ↦ inr (λ h. n h.line)
  | inl line ↦ elim (decide_le (sweep w (point e.low) *ℤ z.n) (sweep w z)) [
    | inr n ↦ inr (λ h. n h.low)
    | inl low ↦ elim (decide_le (sweep w z) (sweep w (point e.high) *ℤ z.n)) [
      | inr n ↦ inr (λ h. n h.high)
      | inl high ↦ inl (record { line = line; low = low; high = high })
    ]
  ]
]

pub decide_number : (a b : ℕ) → Decided (a ≡ b)
decide_number a b = elim (eqb_tells a b) [ inl k ↦ inl k.1 | inr k ↦ inr k.1 ]

-- no edge is of both tubes
abbrev pub AreApart : List Half → List Half → Type 0
AreApart gs hs = (g h : Half) → Has g gs → Has h hs → edge_of g ≡ edge_of h → ⊥

module _ (r : Replay) (whole : IsWhole r) (lab : Labels) (matched : IsMatched r lab) where
  pub common_place : (t : ℕ) (a : Point) (b : Bay) (bs : List Bay) (hs : List Half) (u : ℕ)
      (c : Point) (d : Bay) (ds : List Bay) (gs : List Half)
      → IsDrawnTube r lab t a b bs hs → IsDrawnTube r lab u c d ds gs → (t ≡ u → ⊥) → AreApart hs gs
      → IsClean r a b bs hs
      → (z : Vector) → Place z → InSomeTile (tiles a (b ∷ bs)) z → InSomeTile (tiles c (d ∷ ds)) z
      → Same z (point a) ⊎ Same z (point (tip b bs))
  common_place t a b bs hs u c d ds gs one two differ apart clean z Z in_one in_two =
      elim (look_below (λ j. Same z (point (r.step j).at)) r.steps
      (λ j. decide_same z (point (r.step j).at))) [
        | inl s ↦ event s.0 s.1 s.2
        | inr none ↦ absurd (plain (λ j l s. none (j, l, s)))
      ]
    where
      event : (j : ℕ) → j < r.steps → Same z (point (r.step j).at)
          → Same z (point a) ⊎ Same z (point (tip b bs))
      event j l s =
          let p = event_corner r whole lab matched t a b bs hs one j l
          (in_some_same (tiles a (b ∷ bs)) z (point (r.step j).at) Z s in_one) in
          let q = event_corner r whole lab matched u c d ds gs two j l
          (in_some_same (tiles c (d ∷ ds)) z (point (r.step j).at) Z s in_two) in
          elim (clean.clean j l p) [
            | inl e ↦ inl (subst (λ (v : Point). Same z (point v)) e s)
            | inr m ↦ elim m [
              | inl e ↦ inr (subst (λ (v : Point). Same z (point v)) e s)
              | inr f ↦ let h = f (edge_of q.0) (two.faced.fits q.0 q.1) q.2 in
                  absurd (apart h.0 q.0 h.1 q.1 h.2)
            ]
          ]

      on_edge : ((j : ℕ) → j < r.steps → Same z (point (r.step j).at) → ⊥) → (f : ℕ) → f < r.edges
          → On r.weight (r.edge f) z → ⊥
      on_edge no_event f l on =
          elim (look Half (λ h. edge_of h ≡ f) hs (λ h. decide_number (edge_of h) f)) [
            | inl h ↦ edge_outside r whole lab matched u c d ds gs two f z l
                (λ g m e. apart h.0 g h.1 m (h.2 ∙ sym e)) Z no_event on in_two
            | inr none ↦ edge_outside r whole lab matched t a b bs hs one f z l
                (λ h m e. none (h, m, e)) Z no_event on in_one
          ]

      plain : ((j : ℕ) → j < r.steps → Same z (point (r.step j).at) → ⊥) → ⊥
      plain no_event =
          elim (look_below (λ f. On r.weight (r.edge f) z) r.edges
          (λ f. decide_on r.weight (r.edge f) z)) [
            | inl f ↦ on_edge no_event f.0 f.1 f.2
            | inr none ↦
                let p = in_tube r whole.run whole.law whole.once lab matched t a b bs hs one z Z
                (λ e l o. none (e, l, o)) in
                let q = in_tube r whole.run whole.law whole.once lab matched u c d ds gs two z Z
                (λ e l o. none (e, l, o)) in
                differ (sym (p.0 in_one) ∙ q.0 in_two)
          ]
