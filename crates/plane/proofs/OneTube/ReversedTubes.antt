-- The tube of a half arc, seen from its other end, is a tube of the turned half arc.
use Rattle.std.proofs.Common.{◌≡◌, ◌⊎◌, inl, inr, List, [], ◌∷◌, ◌++◌, ℤ, pos, ◌*ℤ◌, ◌-ℤ◌, ◌<ℤ◌}
use Rattle.std.proofs.Common.{◌≤ℤ◌, refl, arith, ap, sym, ◌∙◌, subst}
use Rattle.std.proofs.lemmas.Int.{ints}
use Rattle.plane.specs.declared.kinds.Point.{Point}
use Rattle.plane.specs.Lists.{Each, First, Last, Neighbours}
use Rattle.plane.specs.Forms.Vectors.{point}
use Rattle.plane.specs.Forms.Arcs.{HalfArc, bend, circle_x, circle_y, chord, facing, power, along}
use Rattle.plane.specs.Tubes.Bays.{Bay, IsBay, AreBays, AreNext, IsSome, IsTube, outward, distance}
use Rattle.plane.specs.Tubes.Bays.{ahead_of_from, ahead_of_to}
use Rattle.plane.specs.CurveRuns.TubedRuns.{backward}
use Rattle.plane.proofs.Settling.EdgesAndTubes.{turned}
use Rattle.plane.proofs.ListLemmas.Lists.{each_append}
use Rattle.plane.proofs.Algebra.Ring.{Expr, at, num, plus, minus, times, vars, ring}
use Rattle.plane.proofs.Covers.SameArc.{power-back}
use Rattle.plane.proofs.Caps.Pictures.{along-to}
use Rattle.plane.proofs.OneTube.TubeStrips.{IsRest, rest_of, before_end, tube_rest}
use Rattle.plane.proofs.OneTube.BackwardBays.{last_inner, last_backward, last_is}

-- ---- the forms of the turned half arc; from: 0 1, to: 2 3, third: 4 5
abbrev BEND : Expr → Expr → Expr → Expr → Expr → Expr → Expr
BEND fx fy tx ty hx hy =
    minus (times (minus tx fx) (minus hy fy)) (times (minus ty fy) (minus hx fx))

abbrev SQUARE : Expr → Expr → Expr
SQUARE x y = plus (times x x) (times y y)

abbrev CIRCLE_X : Expr → Expr → Expr → Expr → Expr → Expr → Expr
CIRCLE_X fx fy tx ty hx hy =
    minus (times (SQUARE (minus tx fx) (minus ty fy)) (minus hy fy))
    (times (SQUARE (minus hx fx) (minus hy fy)) (minus ty fy))

abbrev CIRCLE_Y : Expr → Expr → Expr → Expr → Expr → Expr → Expr
CIRCLE_Y fx fy tx ty hx hy =
    minus (times (minus tx fx) (SQUARE (minus hx fx) (minus hy fy)))
    (times (minus hx fx) (SQUARE (minus tx fx) (minus ty fy)))

abbrev Over : (Expr → Expr → Expr → Expr → Expr → Expr → Expr) → Expr
Over f = f (at 0) (at 1) (at 2) (at 3) (at 4) (at 5)

abbrev Back : (Expr → Expr → Expr → Expr → Expr → Expr → Expr) → Expr
Back f = f (at 2) (at 3) (at 0) (at 1) (at 4) (at 5)

pub bend-turned : (h : HalfArc) → bend (turned h) ≡ pos 0 -ℤ bend h
unfolding bend
bend-turned h =
    ring (Back BEND) (minus (num (pos 0)) (Over BEND))
    (vars (h.from.x ∷ h.from.y ∷ h.to.x ∷ h.to.y ∷ h.third.x ∷ h.third.y ∷ [])) refl

square-turned : (h : HalfArc) → bend (turned h) *ℤ bend (turned h) ≡ bend h *ℤ bend h
square-turned h = ap (λ (v : ℤ). v *ℤ v) (bend-turned h)
    ∙ ring (times (minus (num (pos 0)) (at 0)) (minus (num (pos 0)) (at 0))) (times (at 0) (at 0))
    (vars (bend h ∷ [])) refl

facing-turned : (h : HalfArc) → facing (turned h) ≡ facing h
unfolding facing
facing-turned h =
    let f : Expr → Expr → Expr → Expr → Expr → Expr
    → Expr = λ fx fy tx ty hx hy. plus (times (minus hx fx) (minus (minus hx fx) (minus tx fx)))
    (times (minus hy fy) (minus (minus hy fy) (minus ty fy))) in
    ring (Back f) (Over f)
    (vars (h.from.x ∷ h.from.y ∷ h.to.x ∷ h.to.y ∷ h.third.x ∷ h.third.y ∷ [])) refl

pub along-turned : (h : HalfArc) (p : Point)
    → along (turned h) (point p) ≡ chord h -ℤ along h (point p)
unfolding along chord
along-turned h p =
    let f : Expr → Expr → Expr → Expr
    → Expr = λ fx fy tx ty. plus (times (minus tx fx) (minus (at 4) (times fx (num (pos 1)))))
    (times (minus ty fy) (minus (at 5) (times fy (num (pos 1))))) in
    ring (f (at 2) (at 3) (at 0) (at 1))
    (minus (SQUARE (minus (at 2) (at 0)) (minus (at 3) (at 1))) (f (at 0) (at 1) (at 2) (at 3)))
    (vars (h.from.x ∷ h.from.y ∷ h.to.x ∷ h.to.y ∷ p.x ∷ p.y ∷ [])) refl

outward-turned : (h : HalfArc) (p q z : Point) → outward (turned h) q p z ≡ outward h p q z
unfolding outward
outward-turned h p q z =
    ap (λ (v : ℤ). pos 0
    -ℤ (v *ℤ (((p.x -ℤ q.x) *ℤ (z.y -ℤ q.y)) -ℤ ((p.y -ℤ q.y) *ℤ (z.x -ℤ q.x)))))
    (bend-turned h)
    ∙ ring (minus (num (pos 0))
    (times (minus (num (pos 0)) (at 6))
    (minus (times (minus (at 0) (at 2)) (minus (at 5) (at 3)))
    (times (minus (at 1) (at 3)) (minus (at 4) (at 2))))))
    (minus (num (pos 0))
    (times (at 6)
    (minus (times (minus (at 2) (at 0)) (minus (at 5) (at 1)))
    (times (minus (at 3) (at 1)) (minus (at 4) (at 0))))))
    (vars (p.x ∷ p.y ∷ q.x ∷ q.y ∷ z.x ∷ z.y ∷ bend h ∷ [])) refl

distance-back : (p q : Point) → distance q p ≡ distance p q
unfolding distance
distance-back p q =
    ring (plus (times (minus (at 2) (at 0)) (minus (at 2) (at 0)))
    (times (minus (at 3) (at 1)) (minus (at 3) (at 1))))
    (plus (times (minus (at 0) (at 2)) (minus (at 0) (at 2)))
    (times (minus (at 1) (at 3)) (minus (at 1) (at 3))))
    (vars (p.x ∷ p.y ∷ q.x ∷ q.y ∷ [])) refl

abbrev FROM : Expr → Expr → Expr → Expr → Expr → Expr → Expr
FROM fx fy tx ty hx hy =
    times (BEND fx fy tx ty hx hy)
    (plus (times (CIRCLE_X fx fy tx ty hx hy) (minus (at 6) fx))
    (times (CIRCLE_Y fx fy tx ty hx hy) (minus (at 7) fy)))

abbrev TO : Expr → Expr → Expr → Expr → Expr → Expr → Expr
TO fx fy tx ty hx hy =
    let b = BEND fx fy tx ty hx hy in
    times b (plus
    (times (minus (CIRCLE_X fx fy tx ty hx hy) (times (num (pos 2)) (times b (minus tx fx))))
    (minus (at 6) tx))
    (times (minus (CIRCLE_Y fx fy tx ty hx hy) (times (num (pos 2)) (times b (minus ty fy))))
    (minus (at 7) ty)))

from-turned : (h : HalfArc) (o : Point) → ahead_of_from (turned h) o ≡ ahead_of_to h o
unfolding ahead_of_from ahead_of_to bend circle_x circle_y
from-turned h o =
    ring (Back FROM) (Over TO)
    (vars (h.from.x ∷ h.from.y ∷ h.to.x ∷ h.to.y ∷ h.third.x ∷ h.third.y ∷ o.x ∷ o.y ∷ [])) refl

to-turned : (h : HalfArc) (o : Point) → ahead_of_to (turned h) o ≡ ahead_of_from h o
unfolding ahead_of_from ahead_of_to bend circle_x circle_y
to-turned h o =
    ring (Back TO) (Over FROM)
    (vars (h.from.x ∷ h.from.y ∷ h.to.x ∷ h.to.y ∷ h.third.x ∷ h.third.y ∷ o.x ∷ o.y ∷ [])) refl

-- ---- lists with one more at the end
bays_end : (h : HalfArc) (p : Point) (xs : List Bay) (k : Bay) → AreBays h p xs
    → IsBay h (last_inner p xs) k → AreBays h p (xs ++ k ∷ [])
bays_end h p [] k a b = (b, tt)
bays_end h p (x ∷ xs) k a b = (a.0, bays_end h x.inner xs k a.1 b)

last_end : {X : Type 0} (P : X → Type 0) (xs : List X) (k : X) → P k → Last P (xs ++ k ∷ [])
last_end P [] k p = p
last_end P (x ∷ []) k p = p
last_end P (x ∷ (y ∷ xs)) k p = last_end P (y ∷ xs) k p

neighbours_end : {X : Type 0} (R : X → X → Type 0) (xs : List X) (k : X) → Neighbours R xs
    → Last (λ x. R x k) xs → Neighbours R (xs ++ k ∷ [])
neighbours_end R [] k n l = (tt, tt)
neighbours_end R (x ∷ []) k n l = (l, (tt, tt))
neighbours_end R (x ∷ (y ∷ xs)) k n l = (n.0, neighbours_end R (y ∷ xs) k n.1 l)

some_end : (xs : List Bay) (k : Bay) → IsSome (xs ++ k ∷ [])
some_end [] k = tt
some_end (x ∷ xs) k = tt

first_front : (P : Bay → Type 0) (xs ys : List Bay) → IsSome xs → First P xs → First P (xs ++ ys)
first_front P [] ys s f = absurd s
first_front P (x ∷ xs) ys s f = f

-- ---- the conditions
back_bay : (h : HalfArc) (a : Point) (b : Bay) → IsBay h a b
    → IsBay (turned h) b.inner (record { outer = b.outer; inner = a })
back_bay h a b k =
    let u = along-turned h a in let v = along-turned h b.outer in let w = along-turned h b.inner in
    let up = k.up in let on = k.on in let over = k.over in
    let e = outward-turned h a b.inner b.outer in
    record {
      up = omega (arith, ints, v, w, on);
      on = omega (arith, ints, u, v, up);
      over = omega (arith, ints, e, over);
    }

back_bays : (h : HalfArc) (e a : Point) (bs : List Bay) → last_inner a bs ≡ e → AreBays h a bs
    → AreBays (turned h) e (backward a bs)
back_bays h e a [] q k = tt
back_bays h e a (b ∷ bs) q k =
    bays_end (turned h) e (backward b.inner bs) (record { outer = b.outer; inner = a })
    (back_bays h e b.inner bs q k.1)
    (subst (λ (p : Point). IsBay (turned h) p (record { outer = b.outer; inner = a }))
    (sym (last_backward e b.inner bs q)) (back_bay h a b k.0))

back_next : (h : HalfArc) (a : Point) (bs : List Bay) → Neighbours (AreNext h) bs
    → Neighbours (AreNext (turned h)) (backward a bs)
back_next h a [] n = tt
back_next h a (b ∷ []) n = (tt, tt)
back_next h a (b ∷ (d ∷ rest)) n =
    let k = n.0 in
    let e = outward-turned h b.outer d.outer b.inner in
    let u = k.under in
    let f = ap (λ (v : ℤ). v *ℤ distance d.outer b.outer) (square-turned h)
    ∙ ap (λ (v : ℤ). (bend h *ℤ bend h) *ℤ v) (distance-back b.outer d.outer) in
    let x = power-back h (point d.outer) in
    let y = power-back h (point b.outer) in
    let one = k.first_far in
    let two = k.second_far in
    neighbours_end (AreNext (turned h)) (backward b.inner (d ∷ rest)) (record {
      outer = b.outer;
      inner = a;
    }) (back_next h b.inner (d ∷ rest) n.1)
    (last_end (λ x. AreNext (turned h) x (record { outer = b.outer; inner = a }))
    (backward d.inner rest) (record { outer = d.outer; inner = b.inner })
    (record {
      under = omega (arith, ints, e, u);
      first_far = omega (arith, ints, f, x, two);
      second_far = omega (arith, ints, f, y, one);
    }))

abbrev IsGood : HalfArc → Point → Type 0
IsGood h q = (power (turned h) (point q) <ℤ pos 0) ⊎ (q ≡ h.from)

back_inside : (h : HalfArc) (a : Point) (b : Bay) (rest : List Bay) → IsRest h a b rest → IsGood h a
    → Each (λ k. IsGood h k.inner) (backward a (b ∷ rest))
back_inside h a b [] r g = (g, tt)
back_inside h a b (d ∷ rest) r g =
    let s = rest_of h a b d rest r in
    each_append (λ k. IsGood h k.inner) (backward b.inner (d ∷ rest)) (record {
      outer = b.outer;
      inner = a;
    } ∷ [])
    (back_inside h b.inner d rest s (elim r.inside.0 [
      | inl k ↦ let e = power-back h (point b.inner) in inl (omega (arith, ints, e, k))
      | inr e ↦
          let x = ap (λ (p : Point). along h (point p)) e in
          let y = along-to h in
          let end = before_end h b.inner d rest s in
          let up = s.are_bays.0.up in let on = s.are_bays.0.on in
          absurd (omega (arith, ints, x, y, end, up, on))
    ]))
    (g, tt)

back_first : (h : HalfArc) (a : Point) (bs : List Bay)
    → Last (λ b. ahead_of_to h b.outer ≤ℤ pos 0) bs
    → First (λ b. ahead_of_from (turned h) b.outer ≤ℤ pos 0) (backward a bs)
back_first h a [] l = tt
back_first h a (b ∷ []) l = let e = from-turned h b.outer in omega (arith, ints, e, l)
back_first h a (b ∷ (d ∷ rest)) l =
    first_front (λ b. ahead_of_from (turned h) b.outer ≤ℤ pos 0) (backward b.inner (d ∷ rest))
    (record { outer = b.outer; inner = a } ∷ [])
    (some_end (backward d.inner rest) (record { outer = d.outer; inner = b.inner }))
    (back_first h b.inner (d ∷ rest) l)

pub reversed_tube : (h : HalfArc) (b : Bay) (rest : List Bay) → IsTube h (b ∷ rest)
    → IsTube (turned h) (backward h.from (b ∷ rest))
reversed_tube h b rest t =
    let c = t.circle in
    let f = t.facing in
    let e = square-turned h in
    let g = facing-turned h in
    let k : Bay = record { outer = b.outer; inner = h.from } in
    let clear = t.first_clear in
    let last = to-turned h b.outer in
    record {
      circle = omega (arith, ints, c, e);
      facing = omega (arith, ints, f, g);
      are_bays = back_bays h h.to h.from (b ∷ rest) (last_is h.from h.to b rest t.ends) t.are_bays;
      are_next = back_next h h.from (b ∷ rest) t.are_next;
      ends = last_end (λ d. d.inner ≡ h.from) (backward b.inner rest) k refl;
      inside = back_inside h h.from b rest (tube_rest h b rest t) (inr refl);
      first_clear = back_first h h.from (b ∷ rest) t.last_clear;
      last_clear =
          last_end (λ d. ahead_of_to (turned h) d.outer ≤ℤ pos 0) (backward b.inner rest) k
          (omega (arith, ints, last, clear));
      some = some_end (backward b.inner rest) k;
    }
