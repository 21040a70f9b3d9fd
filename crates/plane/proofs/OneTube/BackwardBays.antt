-- A tube seen from the other end of its half arc: the same triangles, which turn the other way.
use Rattle.std.proofs.Common.{◌≡◌, List, [], ◌∷◌, ◌++◌, ℤ, pos, ◌*ℤ◌, ◌-ℤ◌, ◌<ℤ◌, ◌⊎◌, inl, inr}
use Rattle.std.proofs.Common.{refl, arith, ap, sym, ◌∙◌, subst}
use Rattle.std.proofs.lemmas.Int.{ints}
use Rattle.plane.specs.declared.kinds.Point.{Point}
use Rattle.plane.specs.Lists.{Each, Last, Neighbours}
use Rattle.plane.specs.Forms.Vectors.{Vector, point, side}
use Rattle.plane.specs.Forms.Arcs.{HalfArc, bend}
use Rattle.plane.specs.Tubes.Bays.{Bay, InTriangle, InBays, InGaps, InTube, AreBays, AreNext}
use Rattle.plane.specs.Tubes.Bays.{outward}
use Rattle.plane.specs.Tubes.Windings.{arrow, Tile, IsLeftTile, strips, tiles}
use Rattle.plane.specs.Tubes.Facing.{tip}
use Rattle.plane.specs.CurveRuns.TubedRuns.{backward}
use Rattle.plane.proofs.Algebra.Laws.{positive_factor}
use Rattle.plane.proofs.ListLemmas.Lists.{each_append}
use Rattle.plane.proofs.Algebra.Ring.{at, num, minus, times, vars, ring}
use Rattle.plane.proofs.OneTube.ArcTubes.{swapped, outward_side, outward_swap}

-- the last inner corner from p on, and the last outer one from u on
abbrev pub last_inner : Point → List Bay → Point
last_inner p [] = p
last_inner p (b ∷ bs) = last_inner b.inner bs

abbrev pub last_outer : Point → List Bay → Point
last_outer u [] = u
last_outer u (b ∷ bs) = last_outer b.outer bs

pub last_inner_end : (p : Point) (ks : List Bay) (k : Bay) → last_inner p (ks ++ k ∷ []) ≡ k.inner
last_inner_end p [] k = refl
last_inner_end p (d ∷ ks) k = last_inner_end d.inner ks k

pub last_outer_end : (u : Point) (ks : List Bay) (k : Bay) → last_outer u (ks ++ k ∷ []) ≡ k.outer
last_outer_end u [] k = refl
last_outer_end u (d ∷ ks) k = last_outer_end d.outer ks k

-- the backward bays end at the start of the others
pub last_backward : (e a : Point) (bs : List Bay) → last_inner a bs ≡ e
    → last_inner e (backward a bs) ≡ a
last_backward e a [] h = sym h
last_backward e a (b ∷ bs) h =
    last_inner_end e (backward b.inner bs) (record { outer = b.outer; inner = a })

pub last_inner_tip : (a : Point) (b : Bay) (bs : List Bay) → last_inner a (b ∷ bs) ≡ tip b bs
last_inner_tip a b [] = refl
last_inner_tip a b (d ∷ bs) = last_inner_tip b.inner d bs

pub last_is : (a e : Point) (b : Bay) (bs : List Bay) → Last (λ d. d.inner ≡ e) (b ∷ bs)
    → last_inner a (b ∷ bs) ≡ e
last_is a e b [] h = h
last_is a e b (d ∷ bs) h = last_is b.inner e d bs h

-- ---- places
bays_end : (p : Point) (ks : List Bay) (k : Bay) (z : Vector) → InBays p (ks ++ k ∷ []) z
    → InBays p ks z ⊎ InTriangle z (point (last_inner p ks)) (point k.inner) (point k.outer)
bays_end p [] k z (inl h) = inr h
bays_end p [] k z (inr h) = absurd h
bays_end p (d ∷ ks) k z (inl h) = inl (inl h)
bays_end p (d ∷ ks) k z (inr h) =
    elim (bays_end d.inner ks k z h) [ inl i ↦ inl (inr i) | inr i ↦ inr i ]

end_bays : (p : Point) (ks : List Bay) (k : Bay) (z : Vector)
    → InBays p ks z ⊎ InTriangle z (point (last_inner p ks)) (point k.inner) (point k.outer)
    → InBays p (ks ++ k ∷ []) z
end_bays p [] k z (inl h) = absurd h
end_bays p [] k z (inr h) = inl h
end_bays p (d ∷ ks) k z (inl (inl h)) = inl h
end_bays p (d ∷ ks) k z (inl (inr h)) = inr (end_bays d.inner ks k z (inl h))
end_bays p (d ∷ ks) k z (inr h) = inr (end_bays d.inner ks k z (inr h))

pub backward_bays : (e a : Point) (bs : List Bay) (z : Vector) → last_inner a bs ≡ e
    → InBays e (backward a bs) z → InBays a bs z
backward_bays e a [] z q h = h
backward_bays e a (b ∷ bs) z q h =
    elim (bays_end e (backward b.inner bs) (record { outer = b.outer; inner = a }) z h) [
      | inl i ↦ inr (backward_bays e b.inner bs z q i)
      | inr i ↦ inl
          (swapped z b.inner a b.outer
          (subst (λ (p : Point). InTriangle z (point p) (point a) (point b.outer))
          (last_backward e b.inner bs q) i))
    ]

pub bays_backward : (e a : Point) (bs : List Bay) (z : Vector) → last_inner a bs ≡ e → InBays a bs z
    → InBays e (backward a bs) z
bays_backward e a [] z q h = h
bays_backward e a (b ∷ bs) z q (inl h) =
    end_bays e (backward b.inner bs) (record { outer = b.outer; inner = a }) z
    (inr (subst (λ (p : Point). InTriangle z (point p) (point a) (point b.outer))
    (sym (last_backward e b.inner bs q)) (swapped z a b.inner b.outer h)))
bays_backward e a (b ∷ bs) z q (inr h) =
    end_bays e (backward b.inner bs) (record { outer = b.outer; inner = a }) z
    (inl (bays_backward e b.inner bs z q h))

-- the gap before the last bay
gaps_end : (ks : List Bay) (j k : Bay) (z : Vector) → InGaps (ks ++ j ∷ k ∷ []) z
    → InGaps (ks ++ j ∷ []) z ⊎ InTriangle z (point j.inner) (point j.outer) (point k.outer)
gaps_end [] j k z (inl h) = inr h
gaps_end [] j k z (inr h) = absurd h
gaps_end (d ∷ []) j k z (inl h) = inl (inl h)
gaps_end (d ∷ []) j k z (inr h) = elim (gaps_end [] j k z h) [ inl i ↦ inl (inr i) | inr i ↦ inr i ]
gaps_end (d ∷ (f ∷ ks)) j k z (inl h) = inl (inl h)
gaps_end (d ∷ (f ∷ ks)) j k z (inr h) =
    elim (gaps_end (f ∷ ks) j k z h) [ inl i ↦ inl (inr i) | inr i ↦ inr i ]

end_gaps : (ks : List Bay) (j k : Bay) (z : Vector)
    → InGaps (ks ++ j ∷ []) z ⊎ InTriangle z (point j.inner) (point j.outer) (point k.outer)
    → InGaps (ks ++ j ∷ k ∷ []) z
end_gaps [] j k z (inl h) = absurd h
end_gaps [] j k z (inr h) = inl h
end_gaps (d ∷ []) j k z (inl (inl h)) = inl h
end_gaps (d ∷ []) j k z (inl (inr h)) = absurd h
end_gaps (d ∷ []) j k z (inr h) = inr (inl h)
end_gaps (d ∷ (f ∷ ks)) j k z (inl (inl h)) = inl h
end_gaps (d ∷ (f ∷ ks)) j k z (inl (inr h)) = inr (end_gaps (f ∷ ks) j k z (inl h))
end_gaps (d ∷ (f ∷ ks)) j k z (inr h) = inr (end_gaps (f ∷ ks) j k z (inr h))

regroup : (ks : List Bay) (j k : Bay) → (ks ++ j ∷ []) ++ k ∷ [] ≡ ks ++ j ∷ k ∷ []
regroup [] j k = refl
regroup (d ∷ ks) j k = ap (λ (xs : List Bay). d ∷ xs) (regroup ks j k)

-- the last two corners in the other order
turned : (z : Vector) (p q r : Point) → InTriangle z (point p) (point q) (point r)
    → InTriangle z (point p) (point r) (point q)
turned z p q r h =
    let s = h.some in
    record {
      i = h.i;
      j = h.k;
      k = h.j;
      i_least = h.i_least;
      j_least = h.k_least;
      k_least = h.j_least;
      some = omega (arith, ints, s);
      is = record {
        x = ap (λ (n : ℤ). z.x *ℤ n) (omega (arith, ints)) ∙ h.is.x
            ∙ ap (λ (n : ℤ). n *ℤ z.n) (omega (arith, ints));
        y = ap (λ (n : ℤ). z.y *ℤ n) (omega (arith, ints)) ∙ h.is.y
            ∙ ap (λ (n : ℤ). n *ℤ z.n) (omega (arith, ints));
      };
    }

pub backward_gaps : (a : Point) (bs : List Bay) (z : Vector) → InGaps (backward a bs) z
    → InGaps bs z
backward_gaps a [] z h = h
backward_gaps a (b ∷ []) z h = absurd h
backward_gaps a (b ∷ (d ∷ bs)) z h =
    let k : Bay = record { outer = b.outer; inner = a } in
    let j : Bay = record { outer = d.outer; inner = b.inner } in
    elim (gaps_end (backward d.inner bs) j k z
    (subst (λ (ks : List Bay). InGaps ks z) (regroup (backward d.inner bs) j k) h)) [
      | inl i ↦ inr (backward_gaps b.inner (d ∷ bs) z i)
      | inr i ↦ inl (turned z b.inner d.outer b.outer i)
    ]

pub gaps_backward : (a : Point) (bs : List Bay) (z : Vector) → InGaps bs z
    → InGaps (backward a bs) z
gaps_backward a [] z h = h
gaps_backward a (b ∷ []) z h = absurd h
gaps_backward a (b ∷ (d ∷ bs)) z h =
    let k : Bay = record { outer = b.outer; inner = a } in
    let j : Bay = record { outer = d.outer; inner = b.inner } in
    subst (λ (ks : List Bay). InGaps ks z) (sym (regroup (backward d.inner bs) j k))
    (end_gaps (backward d.inner bs) j k z (elim h [
      | inl i ↦ inr (turned z b.inner b.outer d.outer i)
      | inr i ↦ inl (gaps_backward b.inner (d ∷ bs) z i)
    ]))

pub backward_tube : (e a : Point) (bs : List Bay) (z : Vector) → last_inner a bs ≡ e
    → InTube e (backward a bs) z → InTube a bs z
backward_tube e a bs z q (inl h) = inl (backward_bays e a bs z q h)
backward_tube e a bs z q (inr h) = inr (backward_gaps a bs z h)

pub tube_backward : (e a : Point) (bs : List Bay) (z : Vector) → last_inner a bs ≡ e → InTube a bs z
    → InTube e (backward a bs) z
tube_backward e a bs z q (inl h) = inl (bays_backward e a bs z q h)
tube_backward e a bs z q (inr h) = inr (gaps_backward a bs z h)

-- ---- where `third` is on the left, the triangles turn left in the other direction
strips_end : (p u : Point) (ks : List Bay) (k : Bay)
    → strips p u (ks ++ k ∷ []) ≡ strips p u ks ++ record {
      a = last_outer u ks;
      b = last_inner p ks;
      c = k.outer;
    } ∷ record {
      a = last_inner p ks;
      b = k.inner;
      c = k.outer;
    } ∷ []
strips_end p u [] k = refl
strips_end p u (d ∷ ks) k =
    ap (λ (ts : List Tile). record { a = u; b = p; c = d.outer } ∷ record {
      a = p;
      b = d.inner;
      c = d.outer;
    } ∷ ts) (strips_end d.inner d.outer ks k)

tiles_end : (e : Point) (d : Bay) (ks : List Bay) (k : Bay)
    → tiles e ((d ∷ ks) ++ k ∷ []) ≡ tiles e (d ∷ ks) ++ record {
      a = last_outer d.outer ks;
      b = last_inner d.inner ks;
      c = k.outer;
    } ∷ record {
      a = last_inner d.inner ks;
      b = k.inner;
      c = k.outer;
    } ∷ []
tiles_end e d ks k =
    ap (λ (ts : List Tile). record { a = e; b = d.inner; c = d.outer } ∷ ts)
    (strips_end d.inner d.outer ks k)

outward_right : (h : HalfArc) (p q z : Point) → pos 0 <ℤ bend h → outward h p q z <ℤ pos 0
    → pos 0 <ℤ side (arrow p q) (point z)
outward_right h p q z b l =
    positive_factor (bend h) (side (arrow p q) (point z)) b (let e = outward_side h p q z in
    let f = back_sign (bend h) (side (arrow p q) (point z)) in omega (arith, ints, e, f, l))
  where
    back_sign : (b s : ℤ) → (pos 0 -ℤ b) *ℤ s ≡ pos 0 -ℤ (b *ℤ s)
    back_sign b s =
        ring (times (minus (num (pos 0)) (at 0)) (at 1)) (minus (num (pos 0)) (times (at 0) (at 1)))
        (vars (b ∷ s ∷ [])) refl

outward_turn : (h : HalfArc) (p q z : Point) → outward h q p z ≡ pos 0 -ℤ outward h p q z
unfolding outward
outward_turn h p q z =
    ring (minus (num (pos 0))
    (times (at 6)
    (minus (times (minus (at 0) (at 2)) (minus (at 5) (at 3)))
    (times (minus (at 1) (at 3)) (minus (at 4) (at 2))))))
    (minus (num (pos 0))
    (minus (num (pos 0))
    (times (at 6)
    (minus (times (minus (at 2) (at 0)) (minus (at 5) (at 1)))
    (times (minus (at 3) (at 1)) (minus (at 4) (at 0)))))))
    (vars (p.x ∷ p.y ∷ q.x ∷ q.y ∷ z.x ∷ z.y ∷ bend h ∷ [])) refl

-- the bay's triangle, and the triangle of a gap
bay_left : (h : HalfArc) (v i o : Point) → pos 0 <ℤ bend h → pos 0 <ℤ outward h v i o
    → pos 0 <ℤ side (arrow i v) (point o)
bay_left h v i o b l =
    outward_right h i v o b (let e = outward_turn h v i o in omega (arith, ints, e, l))

gap_left : (h : HalfArc) (o d v : Point) → pos 0 <ℤ bend h → outward h o d v <ℤ pos 0
    → pos 0 <ℤ side (arrow d v) (point o)
gap_left h o d v b l =
    outward_right h d v o b (let e = outward_turn h o d v in let f = outward_swap h d o v in
    omega (arith, ints, e, f, l))

pub backward_left : (h : HalfArc) (e a : Point) (b : Bay) (bs : List Bay) → pos 0 <ℤ bend h
    → last_inner a (b ∷ bs) ≡ e → AreBays h a (b ∷ bs) → Neighbours (AreNext h) (b ∷ bs)
    → Each (λ t. IsLeftTile t) (tiles e (backward a (b ∷ bs)))
backward_left h e a b [] l q are next = (
  subst (λ (p : Point). pos 0 <ℤ side (arrow p a) (point b.outer)) q
      (bay_left h a b.inner b.outer l are.0.over),
  tt,
)
backward_left h e a b (d ∷ bs) l q are next =
    longer (backward b.inner (d ∷ bs)) (backward_left h e b.inner d bs l q are.1 next.1)
    (last_backward e b.inner (d ∷ bs) q)
    (last_outer_end e (backward d.inner bs) (record { outer = d.outer; inner = b.inner }))
  where
    tile : Point → Point → Point → Tile
    tile p r s = record { a = p; b = r; c = s }

    longer : (ks : List Bay) → Each (λ t. IsLeftTile t) (tiles e ks) → last_inner e ks ≡ b.inner
        → last_outer e ks ≡ d.outer
        → Each (λ t. IsLeftTile t) (tiles e (ks ++ record { outer = b.outer; inner = a } ∷ []))
    longer [] each i o = (
      subst (λ (p : Point). pos 0 <ℤ side (arrow p a) (point b.outer)) (sym i)
          (bay_left h a b.inner b.outer l are.0.over),
      tt,
    )
    longer (k ∷ ks) each i o =
        subst (λ (ts : List Tile). Each (λ t. IsLeftTile t) ts)
        (sym (tiles_end e k ks (record { outer = b.outer; inner = a })))
        (each_append (λ t. IsLeftTile t) (tiles e (k ∷ ks)) _ each (
          subst (λ (p : Point). IsLeftTile (tile p (last_inner k.inner ks) b.outer)) (sym o)
              (subst (λ (p : Point). IsLeftTile (tile d.outer p b.outer)) (sym i)
              (gap_left h b.outer d.outer b.inner l next.0.under)),
          (
            subst (λ (p : Point). IsLeftTile (tile p a b.outer)) (sym i)
                (bay_left h a b.inner b.outer l are.0.over),
            tt,
          ),
        ))
