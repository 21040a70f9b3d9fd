use Rattle.std.proofs.Common.{◌≡◌, ◌<◌, ◌^◌, ◌-ℤ◌, FitsSigned, IsTrue, nat_lt, rules, subst, sym}
use Rattle.std.proofs.Common.{to_z-of_z, ℕ}
use Rattle.std.specs.Int.{w64}
use Rattle.std.specs.Prelude.{unsigned_abs}
use Rattle.tubes.proofs.CornerTests.{near_by_sizes}
use Rattle.tubes.proofs.conditions.is_near.Goals as goal

pub returns-then-abs_diff-lt-NEAR : goal.returns-then-abs_diff-lt-NEAR
returns-then-abs_diff-lt-NEAR c =
    let p = c.args.p in
    let q = c.args.q in
    let px : FitsSigned w64 p.x = search rules in
    let py : FitsSigned w64 p.y = search rules in
    let qx : FitsSigned w64 q.x = search rules in
    let qy : FitsSigned w64 q.y = search rules in
    let ex : c.abs_diff.result ≡ unsigned_abs (p.x -ℤ q.x) = simp to_z-of_z at c.abs_diff.ensures in
    let ey : c.abs_diff-then-abs_diff-lt-NEAR.result
    ≡ unsigned_abs (p.y -ℤ q.y) = simp to_z-of_z at c.abs_diff-then-abs_diff-lt-NEAR.ensures in
    let x = near_by_sizes p.x q.x (2 ^ 28) in
    let y = near_by_sizes p.y q.y (2 ^ 28) in (
      (λ t. record {
        x = x.0 (subst (λ (n : ℕ). n < 2 ^ 28) ex c.if-abs_diff-lt-NEAR.true);
        y = y.0 (subst (λ (n : ℕ). n < 2 ^ 28) ey
            (below c.abs_diff-then-abs_diff-lt-NEAR.result t));
      }),
      (λ h. above c.abs_diff-then-abs_diff-lt-NEAR.result
          (subst (λ (n : ℕ). n < 2 ^ 28) (sym ey) (y.1 h.y))),
    )
  where
    below : (n : ℕ) → IsTrue (nat_lt n (2 ^ 28)) → n < 2 ^ 28
    below n t = search rules

    above : (n : ℕ) → n < 2 ^ 28 → IsTrue (nat_lt n (2 ^ 28))
    above n l = search rules
