-- A drawing with as many curves as before is the drawing itself.
use Rattle.std.proofs.Common.{◌≡◌, ◌⊎◌, inl, inr, ℕ, suc, ◌<◌, ◌≤◌, Bool, true, false, Option, None}
use Rattle.std.proofs.Common.{Some, ℤ, List, [], ◌∷◌, ◌++◌, length, get_or, length-append, refl}
use Rattle.std.proofs.Common.{arith, ap, sym, ◌∙◌}
use Rattle.plane.specs.declared.kinds.Curve.{Curve}
use Rattle.plane.specs.declared.kinds.CurveKind.{CurveKind}
use Rattle.plane.specs.declared.kinds.CurveKind.TheVariants as kind
use Rattle.plane.specs.declared.kinds.Point.{Point}
use Rattle.plane.specs.Rule.Plans.{Plan, curve}
use Rattle.forks.specs.Bent.{IsBendAt, IsBentOf, IsRun, StandBy, StandForKind, all_of, if_any}
use Rattle.forks.proofs.BentCurves.{straights_size}
use Rattle.forks.proofs.OneBent.{plan_is}
use Rattle.forks.proofs.PlaneLaws.{no_curve}

-- one curve, or two at least
abbrev OneOrMore : Curve → List Curve → Type 0
OneOrMore s cs = (cs ≡ s ∷ []) ⊎ (2 ≤ length cs)

two_points : (first last : Option Point) (q : Point) → (first ≡ None → last ≡ None → ⊥)
    → 2 ≤ length (if_any first ++ (if_any last ++ q ∷ []))
two_points None None q n = absurd (n refl refl)
two_points None (Some b) q n = omega arith
two_points (Some b) None q n = omega arith
two_points (Some b) (Some c) q n = omega arith

run_size : (d : Plan) (s : Curve) (first last : Option Point) (cs : List Curve)
    → (first ≡ None → last ≡ None → ⊥) → IsRun d s first last cs → OneOrMore s cs
run_size d s first last cs n (inl (h, e)) = inl e
run_size d s first last cs n (inr (h, e)) =
    inr (let f = ap length e in
    let z = straights_size s.from s.line (if_any first ++ (if_any last ++ s.to ∷ [])) in
    let t = two_points first last s.to n in
    omega (arith, f, z, t))

stand_size : (d : Plan) (s : Curve) (first last : Option Point) (cs : List Curve)
    → StandBy d s first last cs → OneOrMore s cs
stand_size d s None None cs e = inl e
stand_size d s None (Some b) cs h =
    run_size d s None (Some b) cs (λ e f. let x : Some b ≡ None = f in cc) h
stand_size d s (Some b) last cs h =
    run_size d s (Some b) last cs (λ e f. let x : Some b ≡ None = e in cc) h

piece_size : (t : ℤ) (d : Plan) (i : ℕ) (k : CurveKind) (cs : List Curve) → StandForKind k t d i cs
    → OneOrMore (curve d i) cs
piece_size t d i kind.HalfArc cs e = inl e
piece_size t d i kind.Straight cs h = stand_size d (curve d i) h.first h.last cs h.stand

some_each : (c : Curve) (ps : List Curve) → OneOrMore c ps → 1 ≤ length ps
some_each c ps (inl e) = let f = ap length e in omega (arith, f)
some_each c ps (inr l) = omega (arith, l)

at_least : (pss : List (List Curve)) (cs : List Curve) → length pss ≡ length cs
    → ((i : ℕ) → i < length pss → OneOrMore (get_or cs i no_curve) (get_or pss i []))
    → length pss ≤ length (all_of pss)
at_least [] cs e f = omega arith
at_least (ps ∷ rest) [] e f = absurd (omega (arith, e))
at_least (ps ∷ rest) (c ∷ cs) e f =
    let a = some_each c ps (f 0 (omega arith)) in
    let r = at_least rest cs (omega (arith, e)) (λ i l. f (suc i) (omega (arith, l))) in
    let n = length-append ps (all_of rest) in
    omega (arith, a, r, n)

same_curves : (pss : List (List Curve)) (cs : List Curve) → length pss ≡ length cs
    → ((i : ℕ) → i < length pss → OneOrMore (get_or cs i no_curve) (get_or pss i []))
    → length (all_of pss) ≡ length pss → all_of pss ≡ cs
same_curves [] [] e f n = refl
same_curves [] (c ∷ cs) e f n = absurd (omega (arith, e))
same_curves (ps ∷ rest) [] e f n = absurd (omega (arith, e))
same_curves (ps ∷ rest) (c ∷ cs) e f n =
    by_one (f 0 (omega arith))
    (at_least rest cs (omega (arith, e)) (λ i l. f (suc i) (omega (arith, l))))
    (λ m. same_curves rest cs (omega (arith, e)) (λ i l. f (suc i) (omega (arith, l))) m)
  where
    both : (ps rs : List Curve) (c : Curve) (cs : List Curve) → ps ≡ c ∷ [] → rs ≡ cs
        → ps ++ rs ≡ c ∷ cs
    both ps rs c cs p q = ap (λ (x : List Curve). x ++ rs) p ∙ ap (λ (x : List Curve). c ∷ x) q

    by_one : OneOrMore c ps → length rest ≤ length (all_of rest)
        → (length (all_of rest) ≡ length rest → all_of rest ≡ cs) → ps ++ all_of rest ≡ c ∷ cs
    by_one (inl p) l g =
        let z = length-append ps (all_of rest) in
        let o = ap length p in
        both ps (all_of rest) c cs p (g (omega (arith, z, o, n)))
    by_one (inr t) l g =
        let z = length-append ps (all_of rest) in absurd (omega (arith, z, t, n, l))

pub nothing_bent : (t : ℤ) (d g : Plan) (origin : List ℕ) → IsBentOf t d g origin
    → length g.curves ≡ length d.curves → g ≡ d
nothing_bent t d g origin b e =
    let c = b.count in
    let z = ap length b.curves in
    plan_is g d b.window (b.curves
    ∙ same_curves b.pieces d.curves c
    (λ i l. piece_size t d i (curve d i).kind (get_or b.pieces i [])
    (b.each i (omega (arith, l, c)))) (omega (arith, c, z, e))) b.points

-- ---- straights alone
no_half_arc : (d : Plan) (k : ℕ) → (curve d k).kind ≡ kind.Straight
    → (curve d k).kind ≡ kind.HalfArc → ⊥
no_half_arc d k e f = let x : kind.Straight ≡ kind.HalfArc = sym e ∙ f in differ x
  where
    differ : kind.Straight ≡ kind.HalfArc → ⊥
    differ x = cc

module _ (t : ℤ) (d : Plan) (all : (i : ℕ) → i < length d.curves
    → (curve d i).kind ≡ kind.Straight) where
  no_bend : (i : ℕ) (a : Bool) (b : Point) → IsBendAt t d i a (Some b) → ⊥
  no_bend i a b (k, z, l) = no_half_arc d k (all k z.there) z.zone.half_arc

  one_curve : (i : ℕ) (first last : Option Point) (cs : List Curve) → IsBendAt t d i true first
      → IsBendAt t d i false last → StandBy d (curve d i) first last cs → length cs ≡ 1
  one_curve i None None cs f l e = ap length e
  one_curve i None (Some b) cs f l h = absurd (no_bend i false b l)
  one_curve i (Some b) last cs f l h = absurd (no_bend i true b f)

  one_each : (i : ℕ) (k : CurveKind) (cs : List Curve) → StandForKind k t d i cs → length cs ≡ 1
  one_each i kind.HalfArc cs e = ap length e
  one_each i kind.Straight cs h = one_curve i h.first h.last cs h.at_from h.at_to h.stand

  as_many : (pss : List (List Curve)) → ((i : ℕ) → i < length pss → length (get_or pss i []) ≡ 1)
      → length (all_of pss) ≡ length pss
  as_many [] f = refl
  as_many (ps ∷ rest) f =
      let a = f 0 (omega arith) in
      let r = as_many rest (λ i l. f (suc i) (omega (arith, l))) in
      let n = length-append ps (all_of rest) in
      omega (arith, a, r, n)

  pub straights_stay : (g : Plan) (origin : List ℕ) → IsBentOf t d g origin → g ≡ d
  straights_stay g origin b =
      let c = b.count in
      let m = as_many b.pieces
      (λ i l. one_each i (curve d i).kind (get_or b.pieces i [])
      (b.each i (omega (arith, l, c)))) in
      let e = ap length b.curves in
      nothing_bent t d g origin b (omega (arith, c, m, e))
