-- The tube of a half arc as a list of triangles.
use Rattle.std.proofs.Common.{◌≡◌, List, [], ◌∷◌, ℤ, pos, ◌*ℤ◌, ◌-ℤ◌, ◌<ℤ◌, ◌⊎◌, inl, inr, refl}
use Rattle.std.proofs.Common.{arith, ap, ◌∙◌, subst}
use Rattle.std.proofs.lemmas.Int.{ints}
use Rattle.plane.specs.declared.kinds.Point.{Point}
use Rattle.plane.specs.Lists.{Each, Neighbours}
use Rattle.plane.specs.Forms.Vectors.{Vector, point, side}
use Rattle.plane.specs.Tubes.Windings.{arrow, Tile, IsLeftTile, strips, tiles, InSomeTile}
use Rattle.plane.specs.Forms.Arcs.{HalfArc, bend}
use Rattle.plane.proofs.Algebra.Laws.{positive_factor}
use Rattle.plane.proofs.Algebra.Ring.{at, num, minus, times, vars, ring}
use Rattle.plane.specs.Tubes.Bays.{Bay}
use Rattle.plane.specs.Tubes.Windings as here
use Rattle.plane.specs.Tubes.Bays as arcs

pub triangle_to : (t : Tile) (z : Vector) → here.InTile t z
    → arcs.InTriangle z (point t.a) (point t.b) (point t.c)
triangle_to t z h =
    let s = h.some in
    record {
      i = h.of_a;
      j = h.of_b;
      k = h.of_c;
      i_least = h.a_least;
      j_least = h.b_least;
      k_least = h.c_least;
      some = h.some;
      is = record {
        x = ap (λ (n : ℤ). z.x *ℤ n) (omega (arith, ints)) ∙ h.is.x;
        y = ap (λ (n : ℤ). z.y *ℤ n) (omega (arith, ints)) ∙ h.is.y;
      };
    }

pub triangle_from : (t : Tile) (z : Vector) → arcs.InTriangle z (point t.a) (point t.b) (point t.c)
    → here.InTile t z
triangle_from t z h = record {
  of_a = h.i;
  of_b = h.j;
  of_c = h.k;
  a_least = h.i_least;
  b_least = h.j_least;
  c_least = h.k_least;
  some = h.some;
  is = record {
    x = ap (λ (n : ℤ). z.x *ℤ n) (omega (arith, ints)) ∙ h.is.x;
    y = ap (λ (n : ℤ). z.y *ℤ n) (omega (arith, ints)) ∙ h.is.y;
  };
}

-- the first two corners in the other order
pub swapped : (z : Vector) (p q r : Point) → arcs.InTriangle z (point p) (point q) (point r)
    → arcs.InTriangle z (point q) (point p) (point r)
swapped z p q r h =
    let s = h.some in
    record {
      i = h.j;
      j = h.i;
      k = h.k;
      i_least = h.j_least;
      j_least = h.i_least;
      k_least = h.k_least;
      some = omega (arith, ints, s);
      is = record {
        x = ap (λ (n : ℤ). z.x *ℤ n) (omega (arith, ints)) ∙ h.is.x
            ∙ ap (λ (n : ℤ). n *ℤ z.n) (omega (arith, ints));
        y = ap (λ (n : ℤ). z.y *ℤ n) (omega (arith, ints)) ∙ h.is.y
            ∙ ap (λ (n : ℤ). n *ℤ z.n) (omega (arith, ints));
      };
    }

more : (t : Tile) (ts : List Tile) (z : Vector) → InSomeTile ts z → InSomeTile (t ∷ ts) z
more t ts z s = (s.0, inr s.1, s.2)

strips_to : (b : Bay) (bs : List Bay) (z : Vector) → InSomeTile (strips b.inner b.outer bs) z
    → arcs.InBays b.inner bs z ⊎ arcs.InGaps (b ∷ bs) z
strips_to b [] z s = absurd s.1
strips_to b (d ∷ bs) z s = elim s.1 [
  | inl e ↦ inr
      (inl (swapped z b.outer b.inner d.outer
      (triangle_to _ z (subst (λ (t : Tile). here.InTile t z) e s.2))))
  | inr m ↦ elim m [
    | inl e ↦ inl (inl (triangle_to _ z (subst (λ (t : Tile). here.InTile t z) e s.2)))
    | inr n ↦ elim (strips_to d bs z (s.0, n, s.2)) [ inl x ↦ inl (inr x) | inr x ↦ inr (inr x) ]
  ]
]

bays_from : (b : Bay) (bs : List Bay) (z : Vector) → arcs.InBays b.inner bs z
    → InSomeTile (strips b.inner b.outer bs) z
bays_from b [] z h = absurd h
bays_from b (d ∷ bs) z (inl h) =
    (record { a = b.inner; b = d.inner; c = d.outer }, inr (inl refl), triangle_from _ z h)
bays_from b (d ∷ bs) z (inr h) = let s = bays_from d bs z h in (s.0, inr (inr s.1), s.2)

gaps_from : (b : Bay) (bs : List Bay) (z : Vector) → arcs.InGaps (b ∷ bs) z
    → InSomeTile (strips b.inner b.outer bs) z
gaps_from b [] z h = absurd h
gaps_from b (d ∷ bs) z (inl h) = (
  record {
    a = b.outer;
    b = b.inner;
    c = d.outer;
  },
  inl refl,
  triangle_from _ z (swapped z b.inner b.outer d.outer h),
)
gaps_from b (d ∷ bs) z (inr h) = let s = gaps_from d bs z h in (s.0, inr (inr s.1), s.2)

-- a place of the list of triangles is in the tube
pub tiles_in_tube : (a : Point) (b : Bay) (bs : List Bay) (z : Vector)
    → InSomeTile (tiles a ((b ∷ bs))) z → arcs.InTube a (b ∷ bs) z
tiles_in_tube a b bs z s = elim s.1 [
  | inl e ↦ inl (inl (triangle_to _ z (subst (λ (t : Tile). here.InTile t z) e s.2)))
  | inr m ↦ elim (strips_to b bs z (s.0, m, s.2)) [ inl x ↦ inl (inr x) | inr x ↦ inr x ]
]

-- and back
pub tube_in_tiles : (a : Point) (b : Bay) (bs : List Bay) (z : Vector) → arcs.InTube a (b ∷ bs) z
    → InSomeTile (tiles a ((b ∷ bs))) z
tube_in_tiles a b bs z (inl (inl h)) =
    (record { a = a; b = b.inner; c = b.outer }, inl refl, triangle_from _ z h)
tube_in_tiles a b bs z (inl (inr h)) = more _ _ z (bays_from b bs z h)
tube_in_tiles a b bs z (inr h) = more _ _ z (gaps_from b bs z h)

-- ---- where `third` is on the right, the outer side is on the left, and the triangles turn left
pub outward_side : (h : HalfArc) (p q z : Point)
    → arcs.outward h p q z ≡ (pos 0 -ℤ bend h) *ℤ side (arrow p q) (point z)
unfolding arcs.outward side
outward_side h p q z =
    ring (minus (num (pos 0))
    (times (at 6)
    (minus (times (minus (at 2) (at 0)) (minus (at 5) (at 1)))
    (times (minus (at 3) (at 1)) (minus (at 4) (at 0))))))
    (times (minus (num (pos 0)) (at 6))
    (minus (times (minus (at 2) (at 0)) (minus (at 5) (times (at 1) (num (pos 1)))))
    (times (minus (at 3) (at 1)) (minus (at 4) (times (at 0) (num (pos 1)))))))
    (vars (p.x ∷ p.y ∷ q.x ∷ q.y ∷ z.x ∷ z.y ∷ bend h ∷ [])) refl

outward_left : (h : HalfArc) (p q z : Point) → bend h <ℤ pos 0 → pos 0 <ℤ arcs.outward h p q z
    → pos 0 <ℤ side (arrow p q) (point z)
outward_left h p q z b l =
    positive_factor (pos 0 -ℤ bend h) (side (arrow p q) (point z)) (omega (arith, ints, b))
    (let e = outward_side h p q z in omega (arith, ints, e, l))

pub outward_swap : (h : HalfArc) (p q z : Point)
    → arcs.outward h p z q ≡ pos 0 -ℤ arcs.outward h p q z
unfolding arcs.outward
outward_swap h p q z =
    ring (minus (num (pos 0))
    (times (at 6)
    (minus (times (minus (at 4) (at 0)) (minus (at 3) (at 1)))
    (times (minus (at 5) (at 1)) (minus (at 2) (at 0))))))
    (minus (num (pos 0))
    (minus (num (pos 0))
    (times (at 6)
    (minus (times (minus (at 2) (at 0)) (minus (at 5) (at 1)))
    (times (minus (at 3) (at 1)) (minus (at 4) (at 0)))))))
    (vars (p.x ∷ p.y ∷ q.x ∷ q.y ∷ z.x ∷ z.y ∷ bend h ∷ [])) refl

strips_left : (h : HalfArc) (b : Bay) (bs : List Bay) → bend h <ℤ pos 0 → arcs.AreBays h b.inner bs
    → Neighbours (arcs.AreNext h) (b ∷ bs) → Each (λ t. IsLeftTile t) (strips b.inner b.outer bs)
strips_left h b [] l are next = tt
strips_left h b (d ∷ bs) l are next =
    let u = next.0.under in
    let e = outward_swap h b.outer b.inner d.outer in (
      outward_left h b.outer b.inner d.outer l (omega (arith, ints, u, e)),
      (outward_left h b.inner d.inner d.outer l are.0.over, strips_left h d bs l are.1 next.1),
    )

pub tiles_left : (h : HalfArc) (b : Bay) (bs : List Bay) → bend h <ℤ pos 0 → arcs.IsTube h (b ∷ bs)
    → Each (λ t. IsLeftTile t) (tiles h.from ((b ∷ bs)))
tiles_left h b bs l tube = (
  outward_left h h.from b.inner b.outer l tube.are_bays.0.over,
  strips_left h b bs l tube.are_bays.1 tube.are_next,
)
