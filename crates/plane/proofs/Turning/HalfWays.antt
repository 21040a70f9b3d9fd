-- Half-edges of a run as arrows: an arrow tells its edge, and where two half-edges alone start, the
-- one is the next one after the twin of the other.
use Rattle.std.proofs.Common.{◌≡◌, ℕ, ◌<◌, ◌⊎◌, inl, inr, List, ℤ, refl, arith, ap, sym, subst}
use Rattle.std.proofs.lemmas.Int.{ints}
use Rattle.plane.specs.declared.kinds.Point.{Point}
use Rattle.plane.specs.Forms.Vectors.{point, Edge, sweep}
use Rattle.plane.specs.Runs.Steps.{Step, Run, WeighedRun}
use Rattle.plane.specs.Faces.Replays.{Replay, replay}
use Rattle.plane.specs.Faces.Halves.{Half, under, over, edge_of, twin}
use Rattle.plane.specs.Faces.Classes.{Next}
use Rattle.plane.specs.Faces.Directions.{origin, direction, IsClockwiseNext}
use Rattle.plane.specs.Tubes.Facing.{way}
use Rattle.plane.proofs.Windings.CommonPlaces.{decide_number}
use Rattle.plane.proofs.Runs.Meeting.{ends_differ}
use Rattle.plane.proofs.Linear.Vectors.{rise-is}
use Rattle.plane.proofs.Turning.NextExists.{next_some}
use Rattle.plane.proofs.Turning.NextOnly.{precedes_once, next_has}
use Rattle.plane.proofs.Turning.RunFans.{next_is_clockwise}
use Rattle.plane.proofs.Windings.Whole.{IsWhole, swept_whole}

-- ---- one half-edge is not the next one of itself, where another starts
pub not_itself : (m : ℕ) (E : ℕ → Edge) (t y : Half) → IsClockwiseNext m E t t → edge_of y < m
    → origin E y ≡ origin E t → (y ≡ t → ⊥) → ⊥
not_itself m E t y c f o n = elim c.turn [
  | inl k ↦ precedes_once (direction E t) (direction E t) k.0 k.0
  | inr k ↦ let p = k y f o in elim p.0 [
    | inl e ↦ n e
    | inr a ↦ elim p.1 [ inl e ↦ n e | inr b ↦ precedes_once (direction E y) (direction E t) a b ]
  ]
]

pub edge_twin : (g : Half) → edge_of (twin g) ≡ edge_of g
edge_twin (over a) = refl
edge_twin (under a) = refl

pub twin_twin : (g : Half) → twin (twin g) ≡ g
twin_twin (over a) = refl
twin_twin (under a) = refl

module _ (m : ℕ) (E : ℕ → Edge) (steps : List Step) (complete : Run m E steps) (w : ℤ)
    (swept : WeighedRun w m E steps) where
  abbrev r : Replay
  r = replay w m E steps

  whole : IsWhole r
  whole = swept_whole w m E steps swept

  -- ---- arrows tell their edges
  flat : (e : ℕ) → e < m → (E e).low ≡ (E e).high → ⊥
  flat e f q =
      let x = rise-is w (E e) in
      let up = whole.run.rise e f in
      let y = ap (λ (p : Point). sweep w (point p)) q in omega (arith, ints, x, up, y)

  pub way_flat : (g : Half) → edge_of g < m → (way E g).low ≡ (way E g).high → ⊥
  way_flat (over e) f q = flat e f q
  way_flat (under e) f q = flat e f (sym q)

  pub crossed : (a b : ℕ) → a < m → b < m → (E a).low ≡ (E b).high → (E a).high ≡ (E b).low → ⊥
  crossed a b la lb h k =
      let x = rise-is w (E a) in let y = rise-is w (E b) in
      let ra = whole.run.rise a la in let rb = whole.run.rise b lb in
      let u = ap (λ (p : Point). sweep w (point p)) h in
      let v = ap (λ (p : Point). sweep w (point p)) k in
      omega (arith, ints, ra, rb, x, y, u, v)

  pub one_edge : (a b : ℕ) → a < m → b < m → (E a).low ≡ (E b).low → (E a).high ≡ (E b).high → a ≡ b
  one_edge a b la lb h k = elim (decide_number a b) [
    | inl e ↦ e
    | inr n ↦ absurd
        (ends_differ w m E steps a b swept la lb n (λ i. record { low = h i; high = k i }))
  ]

  pub way_one : (f g : Half) → edge_of f < m → edge_of g < m → way E f ≡ way E g
      → edge_of f ≡ edge_of g
  way_one (over a) (over b) la lb e =
      one_edge a b la lb (ap (λ (x : Edge). x.low) e) (ap (λ (x : Edge). x.high) e)
  way_one (under a) (under b) la lb e =
      one_edge a b la lb (ap (λ (x : Edge). x.high) e) (ap (λ (x : Edge). x.low) e)
  way_one (over a) (under b) la lb e =
      absurd (crossed a b la lb (ap (λ (x : Edge). x.low) e) (ap (λ (x : Edge). x.high) e))
  way_one (under a) (over b) la lb e =
      absurd (crossed a b la lb (ap (λ (x : Edge). x.high) e) (ap (λ (x : Edge). x.low) e))

  -- ---- where two half-edges alone start, the one comes after the other's twin
  pub next_two : (h f : Half) → edge_of h < m → edge_of f < m → origin E f ≡ origin E (twin h)
      → (f ≡ twin h → ⊥)
      → ((x : Half) → edge_of x < m → origin E x ≡ origin E (twin h) → (x ≡ twin h) ⊎ (x ≡ f))
      → Next r h f
  next_two h f lh lf o n all =
      let k = next_some r whole.run whole.law h lh in
      let c = next_is_clockwise w m E steps h k.0 complete swept k.1 in
      let fits = (next_has w m E steps complete h k.0 k.1).0 in
      elim (all k.0 fits c.start) [
        | inr e ↦ subst (λ (x : Half). Next r h x) e k.1
        | inl e ↦ absurd
            (not_itself m E (twin h) f (subst (λ (x : Half). IsClockwiseNext m E (twin h) x) e c) lf
            o n)
      ]
