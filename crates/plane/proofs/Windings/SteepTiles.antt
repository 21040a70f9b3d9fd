-- The triangles of a tube in a run are steep: their corners are events, and no two events have one
-- sweep value.
use Rattle.std.proofs.Common.{◌≡◌, ℕ, ◌<◌, ◌≤◌, List, [], ◌∷◌, map, ℤ, pos, ◌<ℤ◌, refl, arith, ap}
use Rattle.std.proofs.Common.{sym, ◌∙◌, subst, inl, inr}
use Rattle.std.proofs.lemmas.Int.{ints}
use Rattle.plane.specs.declared.kinds.Point.{Point}
use Rattle.plane.specs.Lists.{Each, Has}
use Rattle.plane.specs.Forms.Vectors.{Vector, point, Edge, side, sweep}
use Rattle.plane.specs.Faces.Replays.{Replay, reach}
use Rattle.plane.proofs.Runs.RunWords.{IsRun}
use Rattle.plane.specs.Faces.Halves.{Half, under, over, edge_of}
use Rattle.plane.specs.Tubes.Bays.{Bay}
use Rattle.plane.specs.Tubes.Windings.{arrow, Tile, IsLeftTile, IsSteep, IsTiled, strips, tiles}
use Rattle.plane.specs.Tubes.Windings.{fence, bounds}
use Rattle.plane.specs.Tubes.Facing.{way}
use Rattle.plane.proofs.Algebra.Ring.{at, num, minus, times, vars, ring}
use Rattle.plane.proofs.Linear.Vectors.{side-low, side-high}
use Rattle.plane.proofs.Windings.Under.{by_order}

-- ---- what holds where bounds begin holds at all corners
module _ (Q : Point → Type 0) where
  abbrev HasCorners : Tile → Type 0
  HasCorners t = Q t.a × Q t.b × Q t.c

  starts : (p u : Point) (ks : List Bay) → ((e : Edge) → Has e (fence p u ks) → Q e.low) → Q p
  starts p u [] h = h (arrow p u) (inl refl)
  starts p u (k ∷ ks) h = h (arrow p k.inner) (inl refl)

  strips_corners : (p u : Point) (ks : List Bay) → Q u
      → ((e : Edge) → Has e (fence p u ks) → Q e.low) → Each HasCorners (strips p u ks)
  strips_corners p u [] q h = tt
  strips_corners p u (k ∷ ks) q h =
      let later : (e : Edge) → Has e (fence k.inner k.outer ks)
      → Q e.low = λ e m. h e (inr (inr m)) in
      let o : Q k.outer = h (arrow k.outer u) (inr (inl refl)) in
      let s = starts p u (k ∷ ks) h in (
        (q, s, o),
        (
          (s, starts k.inner k.outer ks later, o),
          strips_corners k.inner k.outer ks o later,
        ),
      )

  pub tiles_corners : (a : Point) (ks : List Bay) → ((e : Edge) → Has e (bounds a ks) → Q e.low)
      → Each (λ t. Q t.a × Q t.b × Q t.c) (tiles a ks)
  tiles_corners a [] h = tt
  tiles_corners a (k ∷ ks) h =
      let later : (e : Edge) → Has e (fence k.inner k.outer ks)
      → Q e.low = λ e m. h e (inr (inr m)) in
      let o : Q k.outer = h (arrow k.outer a) (inr (inl refl)) in (
        (starts a a (k ∷ ks) h, starts k.inner k.outer ks later, o),
        strips_corners k.inner k.outer ks o later,
      )

-- ---- a triangle that turns left has three different corners
side_flat : (p : Point) (z : Vector) → side (arrow p p) z ≡ pos 0
unfolding side
side_flat p z =
    ring (minus (times (minus (at 0) (at 0)) (minus (at 3) (times (at 1) (at 4))))
    (times (minus (at 1) (at 1)) (minus (at 2) (times (at 0) (at 4))))) (num (pos 0))
    (vars (p.x ∷ p.y ∷ z.x ∷ z.y ∷ z.n ∷ [])) refl

not_flat : (s : ℤ) → pos 0 <ℤ s → s ≡ pos 0 → ⊥
not_flat s l e = omega (arith, ints, l, e)

ab_differ : (t : Tile) → IsLeftTile t → t.a ≡ t.b → ⊥
ab_differ t l e =
    not_flat _ l (ap (λ (p : Point). side (arrow t.a p) (point t.c)) (sym e)
    ∙ side_flat t.a (point t.c))

bc_differ : (t : Tile) → IsLeftTile t → t.b ≡ t.c → ⊥
bc_differ t l e =
    not_flat _ l (ap (λ (p : Point). side (arrow t.a t.b) (point p)) (sym e)
    ∙ side-high (arrow t.a t.b))

ca_differ : (t : Tile) → IsLeftTile t → t.c ≡ t.a → ⊥
ca_differ t l e =
    not_flat _ l (ap (λ (p : Point). side (arrow t.a t.b) (point p)) e ∙ side-low (arrow t.a t.b))

-- ---- events
module _ (r : Replay) (run : IsRun r) where
  abbrev pub IsEvent : Point → Type 0
  IsEvent p = (j : ℕ) × (j < r.steps) × ((r.step j).at ≡ p)

  ahead : (a b c d : ℤ) → a ≡ c → b ≡ d → a <ℤ b → c ≡ d → ⊥
  ahead a b c d e f l g = omega (arith, ints, e, f, l, g)

  -- two events with one sweep value are one
  event_level : (p q : Point) → IsEvent p → IsEvent q
      → sweep r.weight (point p) ≡ sweep r.weight (point q) → p ≡ q
  event_level p q a b e =
      by_order a.0 b.0
      (λ (l : a.0 < b.0). absurd
      (ahead (reach r a.0) (reach r b.0) _ _ (value a) (value b) (run.rising a.0 b.0 l b.1) e))
      (λ (l : b.0 ≤ a.0). by_order b.0 a.0
      (λ (k : b.0 < a.0). absurd
      (ahead (reach r b.0) (reach r a.0) _ _ (value b) (value a) (run.rising b.0 a.0 k a.1)
      (sym e)))
      (λ (k : a.0 ≤ b.0). sym a.2 ∙ ap (λ (j : ℕ). (r.step j).at) (omega (arith, l, k)) ∙ b.2))
    where
      value : {v : Point} → (c : IsEvent v) → reach r c.0 ≡ sweep r.weight (point v)
      value c = ap (λ (x : Point). sweep r.weight (point x)) c.2

  pub way_event : (h : Half) → edge_of h < r.edges → IsEvent (way r.edge h).low
  way_event (under e) l = run.ends e l
  way_event (over e) l = run.begins e l

  steep : (t : Tile) → IsLeftTile t → IsEvent t.a × IsEvent t.b × IsEvent t.c → IsSteep r.weight t
  steep t l h = record {
    ab = λ e. ab_differ t l (event_level t.a t.b h.0 h.1 e);
    bc = λ e. bc_differ t l (event_level t.b t.c h.1 h.2 e);
    ca = λ e. ca_differ t l (event_level t.c t.a h.2 h.0 e);
  }

  all_steep : (ts : List Tile) → Each (λ t. IsLeftTile t) ts
      → Each (λ t. IsEvent t.a × IsEvent t.b × IsEvent t.c) ts → IsTiled r.weight ts
  all_steep [] l h = tt
  all_steep (t ∷ ts) l h = ((l.0, steep t l.0 h.0), all_steep ts l.1 h.1)

  -- where the bounds are half-edges of the run, and the triangles turn left
  pub tiled : (a : Point) (ks : List Bay) (hs : List Half) → bounds a ks ≡ map (way r.edge) hs
      → ((h : Half) → Has h hs → edge_of h < r.edges) → Each (λ t. IsLeftTile t) (tiles a ks)
      → IsTiled r.weight (tiles a ks)
  tiled a ks hs e fits left =
      all_steep (tiles a ks) left
      (tiles_corners IsEvent a ks
      (λ f m. begin f hs fits (subst (λ (es : List Edge). Has f es) e m)))
    where
      begin : (f : Edge) (gs : List Half) → ((h : Half) → Has h gs → edge_of h < r.edges)
          → Has f (map (way r.edge) gs) → IsEvent f.low
      begin f [] fs m = absurd m
      begin f (g ∷ gs) fs (inl q) =
          subst (λ (x : Edge). IsEvent x.low) (sym q) (way_event g (fs g (inl refl)))
      begin f (g ∷ gs) fs (inr m) = begin f gs (λ h n. fs h (inr n)) m
