-- What the numbers of a way say of a fork.
use Rattle.std.proofs.Common.{◌≡◌, ◌↔◌, ◌⊎◌, ◌*◌, ◌≤◌, Bool, IsTrue, ℤ, pos, ◌+ℤ◌, ◌*ℤ◌, ◌-ℤ◌, ◌<ℤ◌}
use Rattle.std.proofs.Common.{◌≤ℤ◌, arith, subst, unsigned_abs}
use Rattle.std.proofs.lemmas.Int.{ints, by_lt_z}
use Rattle.std.specs.Int.{int_div_euclid}
use Rattle.plane.specs.declared.kinds.Point.{Point}
use Rattle.plane.specs.Forms.Bends.{IsBend, square}
use Rattle.plane.specs.Rule.HalfArcs.{HalfArc, bend}
use Rattle.plane.proofs.Algebra.Laws.{product_comm}
use Rattle.plane.proofs.Algebra.Scaling.{times_le}
use Rattle.forks.specs.declared.ways.Way.{Way}
use Rattle.forks.specs.Zones.{IsTangent, IsWayTo, LeadsOut, across}
use Rattle.forks.proofs.WayNumbers.{root_parts, sum_of_squares}

squares_rise : (x y : ℤ) → pos 0 ≤ℤ x → x ≤ℤ y → (x *ℤ x) ≤ℤ (y *ℤ y)
squares_rise x y h l =
    let a = times_le x x y h l in
    let b = times_le y x y (omega (arith, ints, h, l)) l in
    let c = product_comm x y in
    omega (arith, ints, a, b, c)

root_most : (v r s : ℤ) → pos 0 ≤ℤ s → (r *ℤ r) ≤ℤ v → v <ℤ ((s +ℤ pos 1) *ℤ (s +ℤ pos 1)) → r ≤ℤ s
root_most v r s h m l =
    by_lt_z s r (λ (k : s <ℤ r). let q = squares_rise (s +ℤ pos 1) r (omega (arith, ints, h))
    (omega (arith, ints, k)) in absurd (omega (arith, ints, q, m, l))) (λ k. k)

-- a number has one whole root
pub one_root : (v r s : ℤ) → pos 0 ≤ℤ r → pos 0 ≤ℤ s → (r *ℤ r) ≤ℤ v
    → v <ℤ ((r +ℤ pos 1) *ℤ (r +ℤ pos 1)) → (s *ℤ s) ≤ℤ v → v <ℤ ((s +ℤ pos 1) *ℤ (s +ℤ pos 1))
    → r ≡ s
one_root v r s hr hs mr lr ms ls =
    let a = root_most v r s hs mr ls in
    let b = root_most v s r hr ms lr in omega (arith, ints, a, b)

module _ (h : HalfArc) (q : Point) (w : Way) (i : IsWayTo h q w) where
  pub some_square : pos 0 ≤ℤ w.square
  some_square = sum_of_squares (q.x -ℤ h.from.x) (q.y -ℤ h.from.y) w.square i.square

  root_least : pos 0 ≤ℤ w.root
  root_least = let e = i.root.1 in omega (arith, ints, e)

  pub root_is : ((w.root *ℤ w.root) ≤ℤ square h.from q)
      × (square h.from q <ℤ ((w.root +ℤ pos 1) *ℤ (w.root +ℤ pos 1)))
  root_is = subst (λ (v : ℤ). ((w.root *ℤ w.root) ≤ℤ v)
      × (v <ℤ ((w.root +ℤ pos 1) *ℤ (w.root +ℤ pos 1)))) i.square
      (root_parts w.square w.root some_square i.root)

  pub long_of : (d : ℤ) (left : Bool) (b : Point) → IsBend d left h.from q b
      → (pos 8 ≤ℤ d) × ((pos 32 *ℤ d) ≤ℤ w.root)
  long_of d left b f =
      let a = f.wide in
      let l = f.long in
      let e = one_root (square h.from q) f.root w.root
      (omega (arith, ints, a, l)) root_least f.root_most f.root_least root_is.0 root_is.1 in
      (a, subst (λ (r : ℤ). (pos 32 *ℤ d) ≤ℤ r) e l)

  pub tangent_of : (b : Bool) → (IsTrue b ↔ ((16 * unsigned_abs w.toward) ≤ unsigned_abs w.across))
      → IsTrue b ↔ IsTangent h q
  tangent_of b f =
      subst (λ (x : ℤ). IsTrue b ↔ ((16 * unsigned_abs x) ≤ unsigned_abs (across h q))) i.toward
      (subst (λ (y : ℤ). IsTrue b ↔ ((16 * unsigned_abs w.toward) ≤ unsigned_abs y)) i.across f)

  pub out_of : (d : ℤ) (b : Bool) → d ≡ bend h
      → (IsTrue b ↔ ((w.toward ≤ℤ pos 0)
      ⊎ (int_div_euclid w.toward (pos (unsigned_abs d)) <ℤ w.square)))
      → IsTrue b ↔ LeadsOut h q
  out_of d b e f =
      subst (λ (x : ℤ). IsTrue b
      ↔ ((x ≤ℤ pos 0) ⊎ (int_div_euclid x (pos (unsigned_abs (bend h))) <ℤ square h.from q)))
      i.toward
      (subst (λ (x : ℤ). IsTrue b
      ↔ ((w.toward ≤ℤ pos 0)
      ⊎ (int_div_euclid w.toward (pos (unsigned_abs x)) <ℤ square h.from q))) e
      (subst (λ (v : ℤ). IsTrue b
      ↔ ((w.toward ≤ℤ pos 0) ⊎ (int_div_euclid w.toward (pos (unsigned_abs d)) <ℤ v))) i.square
      f))
