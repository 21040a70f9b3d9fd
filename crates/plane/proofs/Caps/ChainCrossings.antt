-- A chain of straights that rises along x: a segment with one end not over it and the other not
-- under it has a place on it.
use Rattle.std.proofs.Common.{◌≡◌, ℤ, pos, ◌+ℤ◌, ◌*ℤ◌, ◌-ℤ◌, ◌<ℤ◌, ◌≤ℤ◌, ◌⊎◌, inl, inr, List, []}
use Rattle.std.proofs.Common.{◌∷◌, refl, arith, ◌∙◌, subst}
use Rattle.std.proofs.lemmas.Int.{ints, by_lt_z}
use Rattle.plane.specs.declared.kinds.Point.{Point}
use Rattle.plane.specs.Forms.Vectors.{Vector, Place, mix, Edge, side}
use Rattle.plane.specs.Tubes.CapStrips.{line, InColumn}
use Rattle.plane.specs.CurveRuns.Extended.{IsOnWay}
use Rattle.plane.proofs.Algebra.Laws.{product_nonnegative}
use Rattle.plane.proofs.Algebra.Ring.{at, num, plus, minus, times, vars, ring}
use Rattle.plane.proofs.Linear.Signs.{mix_place}
use Rattle.plane.proofs.Windings.Ways.{way_mix, way_start, way_end}
use Rattle.plane.proofs.Caps.CapStrips.{further}
use Rattle.plane.proofs.Caps.CapCrossings.{IsTilt, Most, Least, NotRight, side_tilt, under_tilt}
use Rattle.plane.proofs.Caps.CapCrossings.{under_side, wall_x, wall_left, not_right_low, column_mix}

abbrev pub Rises : Point → List Point → Type 0
Rises p [] = Unit {0}
Rises p (q ∷ rest) = (p.x <ℤ q.x) × Rises q rest

abbrev pub last : Point → List Point → Point
last p [] = p
last p (q ∷ rest) = last q rest

-- a test holds at z for each straight of the chain in whose column z is
abbrev pub AtChain : (Edge → Vector → Type 0) → Vector → Point → List Point → Type 0
AtChain R z p [] = Unit {0}
AtChain R z p (q ∷ rest) = (InColumn p q z → R (line p q) z) × AtChain R z q rest

abbrev pub OnChain : Vector → Point → List Point → Type 0
OnChain z p [] = ⊥
OnChain z p (q ∷ rest) = (InColumn p q z × (side (line p q) z ≡ pos 0)) ⊎ OnChain z q rest

-- a place of the segment from a to z that is on the chain
pub record Met (p : Point) (ps : List Point) (a z : Vector) : Type 0 where
  pub at : Vector
  pub way : IsOnWay a z at
  pub on : OnChain at p ps

pub at_chain : (R S : Edge → Vector → Type 0) (z : Vector) (p : Point) (ps : List Point)
    → ((e : Edge) → R e z → S e z) → AtChain R z p ps → AtChain S z p ps
at_chain R S z p [] f h = tt
at_chain R S z p (q ∷ rest) f h = ((λ k. f (line p q) (h.0 k)), at_chain R S z q rest f h.1)

last_least : (p : Point) (ps : List Point) → Rises p ps → p.x ≤ℤ (last p ps).x
last_least p [] h = omega (arith, ints)
last_least p (q ∷ rest) h =
    let k = last_least q rest h.1 in let l = h.0 in omega (arith, ints, k, l)

chain_left : (R : Edge → Vector → Type 0) (z : Vector) (p : Point) (ps : List Point) → Place z
    → Rises p ps → z.x <ℤ (p.x *ℤ z.n) → AtChain R z p ps
chain_left R z p [] hz h l = tt
chain_left R z p (q ∷ rest) hz h l =
    let m = further p.x q.x z.n hz h.0 in (
      (λ k. absurd (let a = k.low in omega (arith, ints, a, l))),
      chain_left R z q rest hz h.1 (omega (arith, ints, l, m)),
    )

chain_rest : (R : Edge → Vector → ℤ) (p q : Point) (rest : List Point) (a : Vector) → IsTilt R
    → Place a → p.x <ℤ q.x → Rises q rest → a.x ≤ℤ (q.x *ℤ a.n) → R (line p q) a ≤ℤ pos 0
    → AtChain (Most R) a q rest
chain_rest R p q [] a r ha h g l k = tt
chain_rest R p q (d ∷ rest) a r ha h g l k =
    by_lt_z a.x (q.x *ℤ a.n)
    (λ (m : a.x <ℤ (q.x *ℤ a.n)). chain_left (Most R) a q (d ∷ rest) ha g m)
    (λ (m : (q.x *ℤ a.n) ≤ℤ a.x).
    let e : a.x ≡ q.x *ℤ a.n = omega (arith, ints, l, m) in
    let n = further q.x d.x a.n ha g.0 in (
      (λ c. r.corner p q d a h g.0 e k),
      chain_left (Most R) a d rest ha g.1 (omega (arith, ints, e, n)),
    ))

-- a place is not over the chain, or not under it
pub chain_split : (z : Vector) (p : Point) (ps : List Point) → Place z → Rises p ps
    → AtChain (Most side) z p ps ⊎ AtChain (Least side) z p ps
chain_split z p [] hz h = inl tt
chain_split z p (q ∷ rest) hz h =
    by_lt_z (q.x *ℤ z.n) z.x
    (λ (r : (q.x *ℤ z.n) <ℤ z.x). elim (chain_split z q rest hz h.1) [
      | inl k ↦ inl ((λ c. absurd (right c r)), k)
      | inr k ↦ inr ((λ c. absurd (right c r)), k)
    ])
    (λ (r : z.x ≤ℤ (q.x *ℤ z.n)). by_lt_z (side (line p q) z) (pos 0)
    (λ (s : side (line p q) z <ℤ pos 0). let t : side (line p q) z ≤ℤ pos 0 = omega
    (arith, ints, s) in inl ((λ c. t), chain_rest side p q rest z side_tilt hz h.0 h.1 r t))
    (λ (s : pos 0 ≤ℤ side (line p q) z).
    inr (
      (λ c. s),
      at_chain (Most under_side) (Least side) z q rest (λ e y. omega (arith, ints, y))
          (chain_rest under_side p q rest z under_tilt hz h.0 h.1 r (omega (arith, ints, s))),
    )))
  where
    right : InColumn p q z → (q.x *ℤ z.n) <ℤ z.x → ⊥
    right c r = let k = c.high in omega (arith, ints, k, r)

-- ---- the walk, from a on the left to z on the right
later_met : (p q : Point) (rest : List Point) (a z : Vector) → Met q rest a z → Met p (q ∷ rest) a z
later_met p q rest a z m = record { at = m.at; way = m.way; on = inr m.on }

first_part : (p : Point) (ps : List Point) (a z o : Vector) → IsOnWay a z o → Met p ps a o
    → Met p ps a z
first_part p ps a z o w m = record {
  at = m.at;
  way = subst (λ (v : Vector). IsOnWay a z v) (back m.way.is)
      (way_mix a z a o m.way.s m.way.t m.way.s_least m.way.t_least m.way.some (way_start a z) w);
  on = m.on;
}
  where
    back : {x y : Vector} → x ≡ y → y ≡ x
    back {x} e = subst (λ (v : Vector). v ≡ x) e refl

last_part : (p : Point) (ps : List Point) (a z o : Vector) → IsOnWay a z o → Met p ps o z
    → Met p ps a z
last_part p ps a z o w m = record {
  at = m.at;
  way = subst (λ (v : Vector). IsOnWay a z v) (back m.way.is)
      (way_mix a z o z m.way.s m.way.t m.way.s_least m.way.t_least m.way.some w (way_end a z));
  on = m.on;
}
  where
    back : {x y : Vector} → x ≡ y → y ≡ x
    back {x} e = subst (λ (v : Vector). v ≡ x) e refl

met_here : (R : Edge → Vector → ℤ) (p q : Point) (rest : List Point) (a z : Vector) → IsTilt R
    → InColumn p q a → InColumn p q z → R (line p q) a ≤ℤ pos 0 → pos 0 ≤ℤ R (line p q) z
    → Met p (q ∷ rest) a z
met_here R p q rest a z r ka kz low high =
    by_lt_z (pos 0) (y -ℤ x)
    (λ (k : pos 0 <ℤ (y -ℤ x)). at_weights y (pos 0 -ℤ x) high (omega (arith, ints, low))
    (omega (arith, ints, k)) (balance x y))
    (λ (k : (y -ℤ x) ≤ℤ pos 0). at_weights (pos 1) (pos 0) (omega (arith, ints))
    (omega (arith, ints)) (omega (arith, ints)) (alone x y (omega (arith, ints, k, low, high))))
  where
    x : ℤ
    x = R (line p q) a

    y : ℤ
    y = R (line p q) z

    balance : (x y : ℤ) → (y *ℤ x) +ℤ ((pos 0 -ℤ x) *ℤ y) ≡ pos 0
    balance x y =
        ring (plus (times (at 1) (at 0)) (times (minus (num (pos 0)) (at 0)) (at 1))) (num (pos 0))
        (vars (x ∷ y ∷ [])) refl

    alone : (x y : ℤ) → x ≡ pos 0 → (pos 1 *ℤ x) +ℤ (pos 0 *ℤ y) ≡ pos 0
    alone x y e =
        ring (plus (times (num (pos 1)) (at 0)) (times (num (pos 0)) (at 1))) (at 0)
        (vars (x ∷ y ∷ [])) refl ∙ e

    at_weights : (s t : ℤ) → pos 0 ≤ℤ s → pos 0 ≤ℤ t → pos 0 <ℤ (s +ℤ t)
        → (s *ℤ R (line p q) a) +ℤ (t *ℤ R (line p q) z) ≡ pos 0 → Met p (q ∷ rest) a z
    at_weights s t hs ht some e = record {
      at = mix s a t z;
      way = record { s = s; t = t; s_least = hs; t_least = ht; some = some; is = refl };
      on = inl (
        column_mix p q s a t z hs ht ka kz,
        r.zero (line p q) (mix s a t z) (r.linear (line p q) s a t z ∙ e),
      );
    }

abbrev Onward : Point → Vector → Vector → Type 0
Onward p a z = ((p.x *ℤ a.n) <ℤ a.x) ⊎ ((p.x *ℤ z.n) <ℤ z.x)

abbrev Later : (Edge → Vector → ℤ) → Point → List Point → Vector → Type 0
Later R q rest z = (a : Vector) → Place a → (q.x *ℤ a.n) ≤ℤ a.x → a.x ≤ℤ ((last q rest).x *ℤ a.n)
    → NotRight a z → AtChain (Most R) a q rest → Onward q a z → Met q rest a z

crosses_at : (R : Edge → Vector → ℤ) (p q : Point) (rest : List Point) (a z : Vector) → IsTilt R
    → Place a → Place z → Rises p (q ∷ rest)
    → (p.x *ℤ a.n) ≤ℤ a.x → a.x ≤ℤ ((last q rest).x *ℤ a.n) → z.x ≤ℤ ((last q rest).x *ℤ z.n)
    → NotRight a z → AtChain (Most R) a p (q ∷ rest) → AtChain (Least R) z p (q ∷ rest)
    → Later R q rest z
    → Met p (q ∷ rest) a z
crosses_at R p q rest a z r ha hz h l ra rz nr most least later =
    by_lt_z (q.x *ℤ a.n) a.x
    (λ (k : (q.x *ℤ a.n) <ℤ a.x). later_met p q rest a z
    (later a ha (omega (arith, ints, k)) ra nr most.1 (inl k)))
    (λ (k : a.x ≤ℤ (q.x *ℤ a.n)).
    by_lt_z (q.x *ℤ z.n) z.x
    (λ (m : (q.x *ℤ z.n) <ℤ z.x). wall k m)
    (λ (m : z.x ≤ℤ (q.x *ℤ z.n)). met_here R p q rest a z r record {
      low = l;
      high = k;
    } record {
      low = z_low;
      high = m;
    } (most.0 record { low = l; high = k }) (least.0 record {
      low = z_low;
      high = m;
    })))
  where
    z_low : (p.x *ℤ z.n) ≤ℤ z.x
    z_low = not_right_low p.x a z ha hz nr l

    wall : a.x ≤ℤ (q.x *ℤ a.n) → (q.x *ℤ z.n) <ℤ z.x → Met p (q ∷ rest) a z
    wall k m =
        let s = z.x -ℤ (q.x *ℤ z.n) in
        let t = (q.x *ℤ a.n) -ℤ a.x in
        let hs : pos 0 ≤ℤ s = omega (arith, ints, m) in
        let ht : pos 0 ≤ℤ t = omega (arith, ints, k) in
        let some : pos 0 <ℤ (s +ℤ t) = omega (arith, ints, m, k) in
        let o = mix s a t z in
        let wo : IsOnWay a z o = record {
          s = s;
          t = t;
          s_least = hs;
          t_least = ht;
          some = some;
          is = refl;
        } in
        let ho = mix_place s a t z ha hz hs ht some in
        let e = wall_x q.x a z in
        let left = wall_left q.x o z ho e m in
        let w = further p.x q.x o.n ho h.0 in
        let col : InColumn p q o = record { low = low_of _ _ _ e w; high = equal_most _ _ e } in
        by_lt_z (R (line p q) o) (pos 0)
        (λ (n : R (line p q) o <ℤ pos 0).
        last_part p (q ∷ rest) a z o wo
        (later_met p q rest o z
        (later o ho (equal_least _ _ e) (bounded o ho e) left
        (chain_rest R p q rest o r ho h.0 h.1 (equal_most _ _ e) (omega (arith, ints, n)))
        (inr m))))
        (λ (n : pos 0 ≤ℤ R (line p q) o).
        first_part p (q ∷ rest) a z o wo
        (met_here R p q rest a o r record {
          low = l;
          high = k;
        } col (most.0 record { low = l; high = k }) n))
      where
        equal_most : (x y : ℤ) → x ≡ y → x ≤ℤ y
        equal_most x y e = omega (arith, ints)

        equal_least : (x y : ℤ) → x ≡ y → y ≤ℤ x
        equal_least x y e = omega (arith, ints)

        low_of : (x y u : ℤ) → x ≡ y → u <ℤ y → u ≤ℤ x
        low_of x y u e h = omega (arith, ints)

        bounded : (o : Vector) → Place o → o.x ≡ q.x *ℤ o.n → o.x ≤ℤ ((last q rest).x *ℤ o.n)
        bounded o ho e =
            let b = last_least q rest h.1 in
            let p = product_nonnegative o.n ((last q rest).x -ℤ q.x) (omega (arith, ints, ho))
            (omega (arith, ints, b)) in
            let i = ring (times (at 0) (minus (at 1) (at 2)))
            (minus (times (at 1) (at 0)) (times (at 2) (at 0)))
            (vars (o.n ∷ (last q rest).x ∷ q.x ∷ [])) refl in
            omega (arith, ints, p, i, e)

crosses : (R : Edge → Vector → ℤ) (p q : Point) (rest : List Point) (a z : Vector) → IsTilt R
    → Place a → Place z → Rises p (q ∷ rest)
    → (p.x *ℤ a.n) ≤ℤ a.x → a.x ≤ℤ ((last q rest).x *ℤ a.n) → z.x ≤ℤ ((last q rest).x *ℤ z.n)
    → NotRight a z → AtChain (Most R) a p (q ∷ rest) → AtChain (Least R) z p (q ∷ rest)
    → Met p (q ∷ rest) a z
crosses R p q [] a z r ha hz h l ra rz nr most least =
    crosses_at R p q [] a z r ha hz h l ra rz nr most least
    (λ o ho ol or_ onr omost w. absurd (ended o or_ w))
  where
    ended : (o : Vector) → o.x ≤ℤ (q.x *ℤ o.n) → Onward q o z → ⊥
    ended o k (inl m) = omega (arith, ints, k, m)
    ended o k (inr m) = omega (arith, ints, rz, m)
crosses R p q (d ∷ rest) a z r ha hz h l ra rz nr most least =
    crosses_at R p q (d ∷ rest) a z r ha hz h l ra rz nr most least
    (λ o ho ol or_ onr omost w. crosses R q d rest o z r ho hz h.1 ol or_ rz onr omost least.1)

-- from u, not over the chain, to v, not under it, both between its ends
pub chain_met : (p q : Point) (rest : List Point) (u v : Vector) → Place u → Place v
    → Rises p (q ∷ rest) → (p.x *ℤ u.n) ≤ℤ u.x → u.x ≤ℤ ((last q rest).x *ℤ u.n)
    → (p.x *ℤ v.n) ≤ℤ v.x → v.x ≤ℤ ((last q rest).x *ℤ v.n)
    → AtChain (Most side) u p (q ∷ rest) → AtChain (Least side) v p (q ∷ rest)
    → Met p (q ∷ rest) u v
chain_met p q rest u v hu hv h lu ru lv rv under over =
    by_lt_z (v.x *ℤ u.n) (u.x *ℤ v.n)
    (λ (l : (v.x *ℤ u.n) <ℤ (u.x *ℤ v.n)). turned
    (crosses under_side p q rest v u under_tilt hv hu h lv rv ru (omega (arith, ints, l))
    (at_chain (Least side) (Most under_side) v p (q ∷ rest) (λ e y. omega (arith, ints, y)) over)
    (at_chain (Most side) (Least under_side) u p (q ∷ rest) (λ e y. omega (arith, ints, y)) under)))
    (λ (l : (u.x *ℤ v.n) ≤ℤ (v.x *ℤ u.n)).
    crosses side p q rest u v side_tilt hu hv h lu ru rv l under over)
  where
    turned : Met p (q ∷ rest) v u → Met p (q ∷ rest) u v
    turned m = record {
      at = m.at;
      way = subst (λ (x : Vector). IsOnWay u v x) (back m.way.is)
          (way_mix u v v u m.way.s m.way.t m.way.s_least m.way.t_least m.way.some (way_end u v)
          (way_start u v));
      on = m.on;
    }
      where
        back : {x y : Vector} → x ≡ y → y ≡ x
        back {x} e = subst (λ (v : Vector). v ≡ x) e refl
