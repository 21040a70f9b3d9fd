-- The edges of a tube are in the tube.
use Rattle.std.proofs.Common.{◌≡◌, ℕ, List, [], ◌∷◌, map, ℤ, pos, ◌*ℤ◌, ◌<ℤ◌, ◌⊎◌, inl, inr, refl}
use Rattle.std.proofs.Common.{arith, ap, sym, ◌∙◌, subst}
use Rattle.std.proofs.lemmas.Int.{ints}
use Rattle.plane.specs.declared.kinds.Point.{Point}
use Rattle.plane.specs.Lists.{Has}
use Rattle.plane.specs.Forms.Vectors.{Vector, Place, Between, point, Edge, rise, On}
use Rattle.plane.specs.Faces.Replays.{Replay}
use Rattle.plane.specs.Faces.Halves.{Half, under, over, edge_of}
use Rattle.plane.specs.Faces.Labels.{Labels}
use Rattle.plane.specs.Tubes.Windings.{arrow, Tile, round, InTile, Bay, strips, tiles, fence}
use Rattle.plane.specs.Tubes.Windings.{bounds, InSomeTile}
use Rattle.plane.specs.Tubes.Facing.{way, IsDrawnTube}
use Rattle.plane.proofs.Linear.Signs.{on_between, between_back}

-- each bound is an arrow of a triangle
strips_bound : (p u : Point) (ks : List Bay) (e : Edge) → Has e (fence p u ks)
    → ((t : Tile) × Has t (strips p u ks) × Has e (round t)) ⊎ (e ≡ arrow p u)
strips_bound p u [] e (inl h) = inr h
strips_bound p u [] e (inr h) = absurd h
strips_bound p u (k ∷ ks) e (inl h) = inl (_, inr (inl refl), inl h)
strips_bound p u (k ∷ ks) e (inr (inl h)) = inl (_, inl refl, inr (inr (inl h)))
strips_bound p u (k ∷ ks) e (inr (inr h)) = elim (strips_bound k.inner k.outer ks e h) [
  | inl m ↦ inl (m.0, inr (inr m.1), m.2)
  | inr q ↦ inl (_, inr (inl refl), inr (inl q))
]

tube_bound : (a : Point) (k : Bay) (ks : List Bay) (e : Edge) → Has e (bounds a (k ∷ ks))
    → (t : Tile) × Has t (tiles a (k ∷ ks)) × Has e (round t)
tube_bound a k ks e (inl h) = (_, inl refl, inl h)
tube_bound a k ks e (inr (inl h)) = (_, inl refl, inr (inr (inl h)))
tube_bound a k ks e (inr (inr h)) = elim (strips_bound k.inner k.outer ks e h) [
  | inl m ↦ (m.0, inr m.1, m.2)
  | inr q ↦ (_, inl refl, inr (inl q))
]

-- a place of an arrow is in the triangle
arrow_in : (t : Tile) (e : Edge) (z : Vector) → Has e (round t)
    → Between z (point e.low) (point e.high) → InTile t z
arrow_in t e z (inl q) h =
    let b = subst (λ (f : Edge). Between z (point f.low) (point f.high)) q h in
    let s = b.some in
    record {
      of_a = b.s;
      of_b = b.t;
      of_c = pos 0;
      a_least = b.s_least;
      b_least = b.t_least;
      c_least = omega (arith, ints);
      some = omega (arith, ints, s);
      is = record {
        x = ap (λ (n : ℤ). z.x *ℤ n) (omega (arith, ints)) ∙ b.is.x
            ∙ ap (λ (n : ℤ). n *ℤ z.n) (omega (arith, ints));
        y = ap (λ (n : ℤ). z.y *ℤ n) (omega (arith, ints)) ∙ b.is.y
            ∙ ap (λ (n : ℤ). n *ℤ z.n) (omega (arith, ints));
      };
    }
arrow_in t e z (inr (inl q)) h =
    let b = subst (λ (f : Edge). Between z (point f.low) (point f.high)) q h in
    let s = b.some in
    record {
      of_a = pos 0;
      of_b = b.s;
      of_c = b.t;
      a_least = omega (arith, ints);
      b_least = b.s_least;
      c_least = b.t_least;
      some = omega (arith, ints, s);
      is = record {
        x = ap (λ (n : ℤ). z.x *ℤ n) (omega (arith, ints)) ∙ b.is.x
            ∙ ap (λ (n : ℤ). n *ℤ z.n) (omega (arith, ints));
        y = ap (λ (n : ℤ). z.y *ℤ n) (omega (arith, ints)) ∙ b.is.y
            ∙ ap (λ (n : ℤ). n *ℤ z.n) (omega (arith, ints));
      };
    }
arrow_in t e z (inr (inr (inl q))) h =
    let b = subst (λ (f : Edge). Between z (point f.low) (point f.high)) q h in
    let s = b.some in
    record {
      of_a = b.t;
      of_b = pos 0;
      of_c = b.s;
      a_least = b.t_least;
      b_least = omega (arith, ints);
      c_least = b.s_least;
      some = omega (arith, ints, s);
      is = record {
        x = ap (λ (n : ℤ). z.x *ℤ n) (omega (arith, ints)) ∙ b.is.x
            ∙ ap (λ (n : ℤ). n *ℤ z.n) (omega (arith, ints));
        y = ap (λ (n : ℤ). z.y *ℤ n) (omega (arith, ints)) ∙ b.is.y
            ∙ ap (λ (n : ℤ). n *ℤ z.n) (omega (arith, ints));
      };
    }
arrow_in t e z (inr (inr (inr q))) h = absurd q

way_in : {X Y : Type 0} (f : X → Y) (x : X) (xs : List X) → Has x xs → Has (f x) (map f xs)
way_in f x [] h = absurd h
way_in f x (y ∷ xs) (inl e) = inl (ap f e)
way_in f x (y ∷ xs) (inr h) = inr (way_in f x xs h)

way_between : (w : ℤ) (E : ℕ → Edge) (h : Half) (z : Vector)
    → Between z (point (E (edge_of h)).low) (point (E (edge_of h)).high)
    → Between z (point (way E h).low) (point (way E h).high)
way_between w E (over e) z b = b
way_between w E (under e) z b = between_back z _ _ b

-- a place of an edge of the tube is in the tube
pub wall_in : (r : Replay) (lab : Labels) (t : ℕ) (a : Point) (b : Bay) (bs : List Bay)
    (hs : List Half)
    → IsDrawnTube r lab t a b bs hs → (h : Half) → Has h hs → (z : Vector) → Place z
    → pos 0 <ℤ rise r.weight (r.edge (edge_of h)) → On r.weight (r.edge (edge_of h)) z
    → InSomeTile (tiles a (b ∷ bs)) z
wall_in r lab t a b bs hs tube h m z Z up on =
    let e = way r.edge h in
    let i = tube_bound a b bs e
    (subst (λ (es : List Edge). Has e es) (sym tube.bounds) (way_in (way r.edge) h hs m)) in (
      i.0,
      i.1,
      arrow_in i.0 e z i.2
          (way_between r.weight r.edge h z (on_between r.weight (r.edge (edge_of h)) z up Z on)),
    )
