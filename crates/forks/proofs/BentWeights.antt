-- How much the curves of a bent drawing weigh.
use Rattle.std.proofs.Common.{◌≡◌, inl, inr, ℕ, suc, ◌*◌, ◌<◌, ◌≤◌, Option, None, Some, ℤ, List, []}
use Rattle.std.proofs.Common.{◌∷◌, ◌++◌}
use Rattle.std.proofs.Common.{length, get_or, refl, arith, ap, sym, subst}
use Rattle.std.proofs.lemmas.List.Sums.{sum_by-append, sum_by-cons}
use Rattle.std.specs.List.{sum_by}
use Rattle.plane.specs.declared.kinds.Curve.{Curve}
use Rattle.plane.specs.declared.kinds.CurveKind.{CurveKind}
use Rattle.plane.specs.declared.kinds.CurveKind.TheVariants as kind
use Rattle.plane.specs.declared.kinds.Point.{Point}
use Rattle.plane.specs.Rule.Plans.{Plan, curve}
use Rattle.forks.specs.Bent.{IsBentOf, IsRun, StandBy, StandForKind, all_of, if_any, parts}
use Rattle.forks.specs.Bent.{straights_from, weight, weight_of_kind}
use Rattle.forks.proofs.BentCurves.{few_parts, straights_size}

module _ (n : ℕ) (least : 3 ≤ n) where
  abbrev sum_of : List Curve → ℕ
  sum_of cs = sum_by (weight n) cs

  at_most : (k : CurveKind) → weight_of_kind n k ≤ n
  at_most kind.Straight = omega (arith, least)
  at_most kind.HalfArc = omega arith

  one_weight : (s : Curve) (cs : List Curve) → cs ≡ s ∷ [] → sum_of cs ≤ n
  one_weight s cs e =
      let f = ap sum_of e in
      let a = sum_by-cons (weight n) s [] in
      let m = at_most s.kind in
      omega (arith, f, a, m)

  straights_weight : (p : Point) (line : ℕ) (qs : List Point)
      → sum_of (straights_from p line qs) ≡ length qs
  straights_weight p line [] = refl
  straights_weight p line (q ∷ qs) =
      let a = sum_by-cons (weight n) (record {
        kind = kind.Straight;
        from = p;
        to = q;
        third = q;
        line = line;
      }) (straights_from q line qs) in
      let r = straights_weight q line qs in
      omega (arith, a, r)

  parts_weight : (s : Curve) (first last : Option Point) → sum_of (parts s first last) ≤ n
  parts_weight s first last =
      let e = straights_weight s.from s.line (if_any first ++ (if_any last ++ s.to ∷ [])) in
      let z = straights_size s.from s.line (if_any first ++ (if_any last ++ s.to ∷ [])) in
      let f = few_parts s first last in
      omega (arith, e, z, f, least)

  run_weight : (d : Plan) (s : Curve) (first last : Option Point) (cs : List Curve)
      → IsRun d s first last cs → sum_of cs ≤ n
  run_weight d s first last cs (inl (h, e)) = one_weight s cs e
  run_weight d s first last cs (inr (h, e)) =
      let f = ap sum_of e in let m = parts_weight s first last in omega (arith, f, m)

  stand_weight : (d : Plan) (s : Curve) (first last : Option Point) (cs : List Curve)
      → StandBy d s first last cs → sum_of cs ≤ n
  stand_weight d s None None cs e = one_weight s cs e
  stand_weight d s None (Some b) cs h = run_weight d s None (Some b) cs h
  stand_weight d s (Some b) last cs h = run_weight d s (Some b) last cs h

  piece_weight : (t : ℤ) (d : Plan) (i : ℕ) (k : CurveKind) (cs : List Curve)
      → StandForKind k t d i cs → sum_of cs ≤ n
  piece_weight t d i kind.HalfArc cs e = one_weight (curve d i) cs e
  piece_weight t d i kind.Straight cs h = stand_weight d (curve d i) h.first h.last cs h.stand

  all_weight : (pss : List (List Curve)) → ((i : ℕ) → i < length pss → sum_of (get_or pss i []) ≤ n)
      → sum_of (all_of pss) ≤ (n * length pss)
  all_weight [] f = omega arith
  all_weight (cs ∷ rest) f =
      let a = f 0 (omega arith) in
      let r = all_weight rest (λ i l. f (suc i) (omega (arith, l))) in
      let e = sum_by-append (weight n) cs (all_of rest) in
      omega (arith, a, r, e)

  pub bent_weight : (t : ℤ) (d g : Plan) (origin : List ℕ) → IsBentOf t d g origin
      → sum_of g.curves ≤ (n * length d.curves)
  bent_weight t d g origin b =
      let c = b.count in
      let m = all_weight b.pieces
      (λ i l. piece_weight t d i (curve d i).kind (get_or b.pieces i [])
      (b.each i (omega (arith, l, c)))) in
      subst (λ (cs : List Curve). sum_of cs ≤ (n * length d.curves)) (sym b.curves)
      (subst (λ (k : ℕ). sum_of (all_of b.pieces) ≤ (n * k)) c m)
