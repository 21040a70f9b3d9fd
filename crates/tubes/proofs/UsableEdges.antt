-- The edges of a drawing with tubes rise, and are close to each other and to the objects' points.
use Rattle.std.proofs.Common.{◌≡◌, inl, inr, ℕ, zero, suc, ◌+◌, ◌<◌, ◌^◌, List, [], ◌∷◌, ◌++◌, map}
use Rattle.std.proofs.Common.{length, get_or, pos, ℤ, ◌-ℤ◌, ◌<ℤ◌, ◌≤ℤ◌, arith, refl, sym, subst}
use Rattle.std.proofs.Common.{All}
use Rattle.std.proofs.lemmas.Int.{ints}
use Rattle.plane.specs.CurveRuns.TubedRuns as runs
use Rattle.plane.specs.Forms.Vectors.{Before}
use Rattle.plane.specs.Lists.{Each}
use Rattle.plane.specs.Numbers.{IsNear}
use Rattle.plane.specs.Rule.Curves.{arc}
use Rattle.plane.specs.Rule.Plans.{IsHalfArc, Plan, curve, object}
use Rattle.plane.specs.Rule.Turns.{AreNear}
use Rattle.plane.specs.Rule.Windows.{IsDrawn, IsInside, IsNarrow}
use Rattle.plane.specs.Tubes.Bays.{Bay}
use Rattle.plane.specs.declared.kinds.Curve.{Curve}
use Rattle.plane.specs.declared.kinds.CurveKind.{CurveKind}
use Rattle.plane.specs.declared.kinds.CurveKind.TheVariants as kind
use Rattle.plane.specs.declared.kinds.Edge.{Edge}
use Rattle.plane.specs.declared.kinds.Placed.{Placed}
use Rattle.plane.specs.declared.kinds.Point.{Point}
use Rattle.straight_predicates.specs.EdgeLists.{HasEnds, edge_of}
use Rattle.straight_predicates.specs.Meetings.{AreClose}
use Rattle.tubes.specs.DrawnEdges.{edge_from}
use Rattle.tubes.specs.TubedEdges.{AreDistinct, AreUsable, HasTube, bays_at, drawn_bays, edge_as}
use Rattle.tubes.proofs.ChainEdges.{chains_distinct, owned_are}
use Rattle.tubes.proofs.EdgeLemmas.{edge_ends}

-- the point is less than 2 ^ 28 units from some point of the window
pub record IsAbout (low high p : Point) : Type 0 where
  pub inside : Point
  pub there : IsInside low high inside
  pub near : AreNear (2 ^ 28) inside p

pub about_close : (low high p q : Point) → IsNarrow low high → IsAbout low high p
    → IsAbout low high q → AreClose p q
about_close low high p q n a b = record {
  x = close low.x high.x a.inside.x b.inside.x p.x q.x n.x a.there.left a.there.right b.there.left
      b.there.right a.near.x b.near.x;
  y = close low.y high.y a.inside.y b.inside.y p.y q.y n.y a.there.bottom a.there.top b.there.bottom
      b.there.top a.near.y b.near.y;
}
  where
    close : (l h v w p q : ℤ) → (h -ℤ l) <ℤ pos (2 ^ 40) → l ≤ℤ v → v ≤ℤ h → l ≤ℤ w → w ≤ℤ h
        → IsNear (2 ^ 28) v p → IsNear (2 ^ 28) w q → IsNear (2 ^ 41) p q
    close l h v w p q n a b c d e f =
        record {
          above = omega (arith, ints, n, a, b, c, d, e.above, e.below, f.above, f.below);
          below = omega (arith, ints, n, a, b, c, d, e.above, e.below, f.above, f.below);
        }

pub inside_about : (low high p : Point) → IsInside low high p → IsAbout low high p
inside_about low high p h = record {
  inside = p;
  there = h;
  near = record {
    x = record { above = omega (arith, ints); below = omega (arith, ints) };
    y = record { above = omega (arith, ints); below = omega (arith, ints) };
  };
}

-- ---- edges
pub record IsGood (low high : Point) (e : Edge) : Type 0 where
  pub sorted : Before e.low e.high
  pub first : IsAbout low high e.low
  pub second : IsAbout low high e.high

good_edge : (low high p q : Point) → (p ≡ q → ⊥) → IsAbout low high p → IsAbout low high q
    → IsGood low high (edge_from p q)
good_edge low high p q n a b = let r = edge_ends p q n in by_ends r.0 r.1
  where
    by_ends : Before (edge_from p q).low (edge_from p q).high → HasEnds (edge_from p q) p q
        → IsGood low high (edge_from p q)
    by_ends s (inl h) = record {
      sorted = s;
      first = subst (IsAbout low high) (sym h.0) a;
      second = subst (IsAbout low high) (sym h.1) b;
    }
    by_ends s (inr h) = record {
      sorted = s;
      first = subst (IsAbout low high) (sym h.0) b;
      second = subst (IsAbout low high) (sym h.1) a;
    }

pub each_app : {X : Type 0} (P : X → Type 0) (xs ys : List X) → Each P xs → Each P ys
    → Each P (xs ++ ys)
each_app P [] ys h k = k
each_app P (x ∷ xs) ys h k = (h.0, each_app P xs ys h.1 k)

pub each_map : {X Y : Type 0} (P : Y → Type 0) (f : X → Y) (xs : List X) → Each (λ x. P (f x)) xs
    → Each P (map f xs)
each_map P f [] h = tt
each_map P f (x ∷ xs) h = (h.0, each_map P f xs h.1)

-- by the curves from number i on
pub each_owned : (P : runs.Owned → Type 0) (B : ℕ → List Bay) (z : Curve) (cs : List Curve) (i : ℕ)
    → ((k : ℕ) → k < length cs
    → Each P (runs.edges_of (i + k) (get_or cs k z).kind (get_or cs k z) (B (i + k))))
    → Each P (runs.edge_list B i cs)
each_owned P B z [] i h = tt
each_owned P B z (c ∷ cs) i h =
    each_app P (runs.edges_of i c.kind c (B i)) (runs.edge_list B (suc i) cs)
    (subst (λ n. Each P (runs.edges_of n c.kind c (B n))) (none i) (h 0 (omega arith)))
    (each_owned P B z cs (suc i)
    (λ k l. subst (λ n. Each P (runs.edges_of n (get_or cs k z).kind (get_or cs k z) (B n)))
    (later i k) (h (suc k) (omega (arith, l)))))
  where
    none : (i : ℕ) → i + 0 ≡ i
    none i = omega arith

    later : (i k : ℕ) → i + suc k ≡ suc i + k
    later i k = omega arith

module _ (low high : Point) where
  abbrev pub IsGoodOwned : runs.Owned → Type 0
  IsGoodOwned o = IsGood low high (edge_as o)

  good_chain : (i : ℕ) (part : runs.Part) (p : Point) (qs : List Point) → AreDistinct p qs
      → IsAbout low high p → Each (IsAbout low high) qs → Each IsGoodOwned (runs.chain i part p qs)
  good_chain i part p [] d a h = tt
  good_chain i part p (q ∷ qs) d a h =
      (good_edge low high p q d.0 a h.0, good_chain i part q qs d.1 h.0 h.1)

  pub about_each : (p : Point) (vs : List Point) → IsInside low high p
      → Each (AreNear (2 ^ 28) p) vs → Each (IsAbout low high) vs
  about_each p [] i h = tt
  about_each p (v ∷ vs) i h = (record { inside = p; there = i; near = h.0 }, about_each p vs i h.1)

  pub good_curve : (i : ℕ) (c : Curve) (level : ℕ) → IsDrawn low high c
      → (c.kind ≡ kind.HalfArc → HasTube (arc c) level)
      → Each IsGoodOwned (runs.edges_of i c.kind c (bays_at (arc c) level))
  good_curve i c level d t = by_kind c.kind refl
    where
      by_kind : (k : CurveKind) → c.kind ≡ k
          → Each IsGoodOwned (runs.edges_of i k c (bays_at (arc c) level))
      by_kind kind.Straight e =
          good_chain i runs.whole c.from (c.to ∷ []) (d.distinct, tt)
          (inside_about low high c.from d.from) (inside_about low high c.to d.to, tt)
      by_kind kind.HalfArc e = by_tube (t e)
        where
          by_tube : HasTube (arc c) level
              → Each IsGoodOwned (runs.edges_of i kind.HalfArc c (bays_at (arc c) level))
          by_tube (vs, os, m) =
              let s = chains_distinct (arc c) level vs os m in
              let a = inside_about low high c.from d.from in
              subst (Each IsGoodOwned) (sym (owned_are i c level vs os m))
              (each_app IsGoodOwned (runs.chain i runs.inner c.from vs)
              (runs.chain i runs.outer c.from (os ++ c.to ∷ []))
              (good_chain i runs.inner c.from vs s.0 a (about_each c.from vs d.from m.inner_near))
              (good_chain i runs.outer c.from (os ++ c.to ∷ []) s.1 a
              (each_app (IsAbout low high) os (c.to ∷ [])
              (about_each c.from os d.from m.outer_near)
              (inside_about low high c.to d.to, tt))))

  pub edge_at : (es : List Edge) (e : ℕ) → e < length es → Each (IsGood low high) es
      → IsGood low high (edge_of es e)
  edge_at [] e l h = absurd (omega (arith, l))
  edge_at (x ∷ es) zero l h = h.0
  edge_at (x ∷ es) (suc e) l h = edge_at es e (omega (arith, l)) h.1

pub usable : (d : Plan) (level : ℕ → ℕ) (edges : List Edge)
    → All (λ (c : Curve). IsDrawn d.window.low d.window.high c) d.curves
    → All (λ (p : Placed). IsInside d.window.low d.window.high p.at) d.points
    → ((i : ℕ) → IsHalfArc d i → HasTube (arc (curve d i)) (level i))
    → edges ≡ map edge_as (runs.edge_list (drawn_bays d level) 0 d.curves) → AreUsable d edges
usable d level edges drawn points tubes e =
    let low = d.window.low in
    let high = d.window.high in
    let g = each_owned (IsGoodOwned low high) (drawn_bays d level) _ d.curves 0
    (λ k l. subst
    (λ n. Each (IsGoodOwned low high)
    (runs.edges_of n (curve d k).kind (curve d k) (drawn_bays d level n))) (first k)
    (good_curve low high k (curve d k) (level k) (drawn k _ l)
    (λ h. tubes k (record { there = l; kind = h })))) in
    let all : Each (IsGood low high) edges = subst (Each (IsGood low high)) (sym e)
    (each_map (IsGood low high) edge_as (runs.edge_list (drawn_bays d level) 0 d.curves) g) in
    let close = about_close low high in
    let n = d.window.narrow in record {
      sorted = λ i l. (edge_at low high edges i l all).sorted;
      close = λ i j l m.
          let a = edge_at low high edges i l all in
          let b = edge_at low high edges j m all in record {
            first = close _ _ n a.first a.second;
            second = close _ _ n b.first b.second;
            low_low = close _ _ n a.first b.first;
            low_high = close _ _ n a.first b.second;
            high_low = close _ _ n a.second b.first;
            high_high = close _ _ n a.second b.second;
          };
      points = λ j l. record {
        ends = λ i m. let a = edge_at low high edges i m all in close _ _ n a.first a.second;
        point = λ i m. let a = edge_at low high edges i m all in
            close _ _ n a.first (inside_about low high (object d j) (points j _ l));
      };
    }
  where
    first : (k : ℕ) → k ≡ 0 + k
    first k = omega arith
