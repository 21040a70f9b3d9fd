use Rattle.std.proofs.Common.{◌≡◌, ◌+◌, ◌-◌, ◌≤◌, ◌^◌}
use Rattle.arc_predicates.specs.Circles.{half_arc}
use Rattle.tubes.specs.HalfArcTubes.{is_inside, with_bits}
use Rattle.tubes.proofs.counting.with_bits.Given as goal

abbrev pub invariant-loop-done : goal.invariant-loop-done
invariant-loop-done l = record {
  bits : with_bits (is_inside (half_arc l.circle) l.span.p l.span.q) (l.width - l.done) l.k
      ≡ with_bits (is_inside (half_arc l.circle) l.span.p l.span.q) 27 0;
  small : l.k + 2 ^ (l.width - l.done) ≤ 2 ^ 27;
}
