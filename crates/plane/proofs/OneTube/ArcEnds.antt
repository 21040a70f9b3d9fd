-- Each end of a half arc is an end of two edges of its tube; a tube has no edge twice.
use Rattle.std.proofs.Common.{◌≡◌, ℕ, ◌<◌, List, [], ◌∷◌, map, ℤ, pos, ◌+ℤ◌, ◌*ℤ◌, inl, inr, refl}
use Rattle.std.proofs.Common.{arith, ap, sym, ◌∙◌, subst}
use Rattle.std.proofs.lemmas.Int.{ints}
use Rattle.plane.specs.declared.kinds.Point.{Point}
use Rattle.plane.specs.Lists.{Has, Once}
use Rattle.plane.specs.Forms.Vectors.{Vector, Place, Same, Between, point, Edge, sweep, On}
use Rattle.plane.specs.Faces.Replays.{Replay}
use Rattle.plane.proofs.Runs.RunWords.{IsRun}
use Rattle.plane.specs.Faces.Halves.{Half, under, over, twin, edge_of}
use Rattle.plane.specs.Faces.Labels.{Labels}
use Rattle.plane.specs.Tubes.Windings.{arrow, Tile, IsLeftTile, IsSteep, Bay, strips, tiles, fence}
use Rattle.plane.specs.Tubes.Windings.{bounds}
use Rattle.plane.specs.Tubes.Facing.{way, tip, IsDrawnTube}
use Rattle.plane.proofs.ListLemmas.Lists.{each_has}
use Rattle.plane.proofs.Windings.TubeCells.{from_map, way_on}
use Rattle.plane.proofs.Algebra.Ring.{at, num, plus, times, vars, ring}

pub has_map : {X Y : Type 0} (f : X → Y) (x : X) (xs : List X) → Has x xs → Has (f x) (map f xs)
has_map f x [] h = absurd h
has_map f x (y ∷ xs) (inl e) = inl (ap f e)
has_map f x (y ∷ xs) (inr h) = inr (has_map f x xs h)

-- in a list whose images do not repeat, an element is told by its image
pub one_of : {X : Type 0} (f : X → ℕ) (xs : List X) (x y : X) → Once (map f xs) → Has x xs
    → Has y xs → f x ≡ f y → x ≡ y
one_of f [] x y once h k e = absurd h
one_of f (z ∷ xs) x y once (inl h) (inl k) e = h ∙ sym k
one_of f (z ∷ xs) x y once (inl h) (inr k) e =
    absurd (once.0 (subst (λ (n : ℕ). Has n (map f xs)) (sym e ∙ ap f h) (has_map f y xs k)))
one_of f (z ∷ xs) x y once (inr h) (inl k) e =
    absurd (once.0 (subst (λ (n : ℕ). Has n (map f xs)) (e ∙ ap f k) (has_map f x xs h)))
one_of f (z ∷ xs) x y once (inr h) (inr k) e = one_of f xs x y once.1 h k e

abbrev side_number : Half → ℕ
side_number (under e) = 0
side_number (over e) = 1

pub not_twin : (h : Half) → h ≡ twin h → ⊥
not_twin (under e) k = let n = ap side_number k in omega (arith, n)
not_twin (over e) k = let n = ap side_number k in omega (arith, n)

pub edge_twin : (h : Half) → edge_of (twin h) ≡ edge_of h
edge_twin (under e) = refl
edge_twin (over e) = refl

-- ---- the arrows at the last inner point
record IsTip (t : Point) (es : List Edge) (ts : List Tile) (v o : Point) : Type 0 where
  comes : Has (arrow v t) es
  leaves : Has (arrow t o) es
  triangle : Has (record { a = v; b = t; c = o }) ts

fence_tip : (p u : Point) (k : Bay) (ks : List Bay)
    → (v : Point) × (o : Point) × IsTip (tip k ks) (fence p u (k ∷ ks)) (strips p u (k ∷ ks)) v o
fence_tip p u k [] = (
  p,
  k.outer,
  record {
    comes = inl refl;
    leaves = inr (inr (inl refl));
    triangle = inr (inl refl);
  },
)
fence_tip p u k (d ∷ ds) =
    let i = fence_tip k.inner k.outer d ds in (
      i.0,
      i.1,
      record {
        comes = inr (inr i.2.comes);
        leaves = inr (inr i.2.leaves);
        triangle = inr (inr i.2.triangle);
      },
    )

tube_tip : (a : Point) (k : Bay) (ks : List Bay)
    → (v : Point) × (o : Point) × IsTip (tip k ks) (bounds a (k ∷ ks)) (tiles a (k ∷ ks)) v o
tube_tip a k [] =
    (a, k.outer, record { comes = inl refl; leaves = inr (inr (inl refl)); triangle = inl refl })
tube_tip a k (d ∷ ds) =
    let i = fence_tip k.inner k.outer d ds in (
      i.0,
      i.1,
      record {
        comes = inr (inr i.2.comes);
        leaves = inr (inr i.2.leaves);
        triangle = inr i.2.triangle;
      },
    )

first_between : (z p q : Vector) → Same z p → Between z p q
first_between z p q h = record {
  s = pos 1;
  t = pos 0;
  s_least = omega (arith, ints);
  t_least = omega (arith, ints);
  some = omega (arith, ints);
  is = record { x = one z.x z.n p.x p.n q.x q.n h.x; y = one z.y z.n p.y p.n q.y q.n h.y };
}
  where
    one : (x n a m b k : ℤ) → x *ℤ m ≡ a *ℤ n
        → x *ℤ ((pos 1 *ℤ m) +ℤ (pos 0 *ℤ k)) ≡ ((pos 1 *ℤ a) +ℤ (pos 0 *ℤ b)) *ℤ n
    one x n a m b k e =
        ring (times (at 0) (plus (times (num (pos 1)) (at 3)) (times (num (pos 0)) (at 5))))
        (times (at 0) (at 3)) (vars (x ∷ n ∷ a ∷ m ∷ b ∷ k ∷ [])) refl
        ∙ e ∙ ring (times (at 2) (at 1))
        (times (plus (times (num (pos 1)) (at 2)) (times (num (pos 0)) (at 4))) (at 1))
        (vars (x ∷ n ∷ a ∷ m ∷ b ∷ k ∷ [])) refl

second_between : (z p q : Vector) → Same z q → Between z p q
second_between z p q h = record {
  s = pos 0;
  t = pos 1;
  s_least = omega (arith, ints);
  t_least = omega (arith, ints);
  some = omega (arith, ints);
  is = record { x = one z.x z.n p.x p.n q.x q.n h.x; y = one z.y z.n p.y p.n q.y q.n h.y };
}
  where
    one : (x n a m b k : ℤ) → x *ℤ k ≡ b *ℤ n
        → x *ℤ ((pos 0 *ℤ m) +ℤ (pos 1 *ℤ k)) ≡ ((pos 0 *ℤ a) +ℤ (pos 1 *ℤ b)) *ℤ n
    one x n a m b k e =
        ring (times (at 0) (plus (times (num (pos 0)) (at 3)) (times (num (pos 1)) (at 5))))
        (times (at 0) (at 5)) (vars (x ∷ n ∷ a ∷ m ∷ b ∷ k ∷ [])) refl
        ∙ e ∙ ring (times (at 4) (at 1))
        (times (plus (times (num (pos 0)) (at 2)) (times (num (pos 1)) (at 4))) (at 1))
        (vars (x ∷ n ∷ a ∷ m ∷ b ∷ k ∷ [])) refl

module _ (r : Replay) (run : IsRun r) (lab : Labels) (t : ℕ) (a : Point) (b : Bay) (bs : List Bay)
    (hs : List Half) (tube : IsDrawnTube r lab t a b bs hs) where
  wall_of : (e : Edge) → Has e (bounds a (b ∷ bs)) → (h : Half) × Has h hs × (e ≡ way r.edge h)
  wall_of e m = from_map (way r.edge) e hs (subst (λ (es : List Edge). Has e es) tube.bounds m)

  on_wall : (z : Vector) → Place z → (e : Edge) (h : Half) → Has h hs → e ≡ way r.edge h
      → Between z (point e.low) (point e.high) → On r.weight (r.edge (edge_of h)) z
  on_wall z Z e h m q k =
      way_on r.weight r.edge h z (run.rise (edge_of h) (tube.faced.fits h m)) Z
      (subst (λ (f : Edge). Between z (point f.low) (point f.high)) q k)

  -- two arrows that meet head to tail at z are not one edge
  two_arrows : (z : Vector) → Place z → (u v o : Point) → Has (arrow u v) (bounds a (b ∷ bs))
      → Has (arrow v o) (bounds a (b ∷ bs))
      → (sweep r.weight (point u) ≡ sweep r.weight (point v) → ⊥) → Same z (point v)
      → (f : ℕ) → ((e : ℕ) → e < r.edges → On r.weight (r.edge e) z → e ≡ f) → ⊥
  two_arrows z Z u v o comes leaves steep same f only =
      let g = wall_of (arrow u v) comes in
      let h = wall_of (arrow v o) leaves in
      let i = only (edge_of g.0) (tube.faced.fits g.0 g.1)
      (on_wall z Z (arrow u v) g.0 g.1 g.2 (second_between z (point u) (point v) same)) in
      let j = only (edge_of h.0) (tube.faced.fits h.0 h.1)
      (on_wall z Z (arrow v o) h.0 h.1 h.2 (first_between z (point v) (point o) same)) in
      let one = one_of edge_of hs g.0 h.0 tube.faced.once g.1 h.1 (i ∙ sym j) in
      let q : arrow u v ≡ arrow v o = g.2 ∙ ap (way r.edge) one ∙ sym h.2 in
      steep (ap (λ (e : Edge). sweep r.weight (point e.low)) q)

  -- so a place on one edge alone is no end of the half arc
  pub not_arc_end : (z : Vector) → Place z → (f : ℕ)
      → ((e : ℕ) → e < r.edges → On r.weight (r.edge e) z → e ≡ f) → Same z (point a) → ⊥
  not_arc_end z Z f only same =
      two_arrows z Z b.outer a b.inner (inr (inl refl)) (inl refl) tube.tiled.0.1.ca same f only

  pub not_arc_tip : (z : Vector) → Place z → (f : ℕ)
      → ((e : ℕ) → e < r.edges → On r.weight (r.edge e) z → e ≡ f) → Same z (point (tip b bs)) → ⊥
  not_arc_tip z Z f only same =
      let i = tube_tip a b bs in
      two_arrows z Z i.0 (tip b bs) i.1 i.2.comes i.2.leaves
      (each_has (λ t. IsLeftTile t × IsSteep r.weight t) (tiles a (b ∷ bs)) (record {
        a = i.0;
        b = tip b bs;
        c = i.1;
      }) tube.tiled i.2.triangle).1.ab same f only

  -- a half-edge that faces the tube and its twin do not both face it
  pub twin_other : (h : Half) → Has h hs → Has (twin h) hs → ⊥
  twin_other h m k =
      not_twin h (one_of edge_of hs h (twin h) tube.faced.once m k (sym (edge_twin h)))
