use Rattle.std.proofs.Common.{FitsSigned, of_z, to_z-of_z, rules, arith, ap, ◌^◌, ◌∙◌}
use Rattle.std.specs.Int.{w128, w64}
use Rattle.plane.specs.Numbers.{IsWithin}
use Rattle.arc_predicates.proofs.Sums.{product_within}
use Rattle.arc_predicates.proofs.CircleNumbers.{AreSeen, centre_x_is, centre_y_is, near_close}
use Rattle.arc_predicates.proofs.CircleNumbers.{no_circle, squares_within, turn_is}
use Rattle.arc_predicates.proofs.circling.near_circle.Goals as goal

pub difference-mx-requires : goal.difference-mx-requires
difference-mx-requires c =
    let p : FitsSigned w64 c.args.s.x = search rules in
    let q : FitsSigned w64 c.args.m.x = search rules in
    rw (to_z-of_z p, to_z-of_z q) (near_close c.args.s c.args.m c.requires.first).x

pub difference-my-requires : goal.difference-my-requires
difference-my-requires c =
    let p : FitsSigned w64 c.args.s.y = search rules in
    let q : FitsSigned w64 c.args.m.y = search rules in
    rw (to_z-of_z p, to_z-of_z q) (near_close c.args.s c.args.m c.requires.first).y

pub difference-ex-requires : goal.difference-ex-requires
difference-ex-requires c =
    let p : FitsSigned w64 c.args.s.x = search rules in
    let q : FitsSigned w64 c.args.e.x = search rules in
    rw (to_z-of_z p, to_z-of_z q) (near_close c.args.s c.args.e c.requires.second).x

pub difference-ey-requires : goal.difference-ey-requires
difference-ey-requires c =
    let p : FitsSigned w64 c.args.s.y = search rules in
    let q : FitsSigned w64 c.args.e.y = search rules in
    rw (to_z-of_z p, to_z-of_z q) (near_close c.args.s c.args.e c.requires.second).y

pub determinant-d-requires-clause-first : goal.determinant-d-requires-clause-first
determinant-d-requires-clause-first c =
    product_within (2 ^ 41) (2 ^ 41) c.difference-mx.result c.difference-ey.result (omega arith)
    (omega arith) (omega arith) c.difference-mx.ensures.bound c.difference-ey.ensures.bound

pub determinant-d-requires-clause-second : goal.determinant-d-requires-clause-second
determinant-d-requires-clause-second c =
    product_within (2 ^ 41) (2 ^ 41) c.difference-my.result c.difference-ex.result (omega arith)
    (omega arith) (omega arith) c.difference-my.ensures.bound c.difference-ex.ensures.bound

pub returns-then-d-eq0 : goal.returns-then-d-eq0
returns-then-d-eq0 c =
    let sx : FitsSigned w64 c.args.s.x = search rules in
    let sy : FitsSigned w64 c.args.s.y = search rules in
    let mx : FitsSigned w64 c.args.m.x = search rules in
    let my : FitsSigned w64 c.args.m.y = search rules in
    let ex : FitsSigned w64 c.args.e.x = search rules in
    let ey : FitsSigned w64 c.args.e.y = search rules in
    let rmx : FitsSigned w128 c.difference-mx.result = search rules in
    let rmy : FitsSigned w128 c.difference-my.result = search rules in
    let rex : FitsSigned w128 c.difference-ex.result = search rules in
    let rey : FitsSigned w128 c.difference-ey.result = search rules in
    let rd : FitsSigned w128 c.determinant-d.result = search rules in
    let seen : AreSeen c.args.s c.args.m c.args.e c.difference-mx.result c.difference-my.result
    c.difference-ex.result c.difference-ey.result = record {
      mx = simp to_z-of_z at c.difference-mx.ensures.value;
      my = simp to_z-of_z at c.difference-my.ensures.value;
      ex = simp to_z-of_z at c.difference-ex.ensures.value;
      ey = simp to_z-of_z at c.difference-ey.ensures.value;
    } in
    no_circle c.args.s c.args.m c.args.e c.determinant-d.result
    (turn_is c.args.s c.args.m c.args.e _ _ _ _ _ seen
    (simp to_z-of_z at c.determinant-d.ensures)) rd c.if-d-eq0.true

pub dot-mm-requires-clause-first : goal.dot-mm-requires-clause-first
dot-mm-requires-clause-first c =
    product_within (2 ^ 41) (2 ^ 41) c.difference-mx.result c.difference-mx.result (omega arith)
    (omega arith) (omega arith) c.difference-mx.ensures.bound c.difference-mx.ensures.bound

pub dot-mm-requires-clause-second : goal.dot-mm-requires-clause-second
dot-mm-requires-clause-second c =
    product_within (2 ^ 41) (2 ^ 41) c.difference-my.result c.difference-my.result (omega arith)
    (omega arith) (omega arith) c.difference-my.ensures.bound c.difference-my.ensures.bound

pub dot-ee-requires-clause-first : goal.dot-ee-requires-clause-first
dot-ee-requires-clause-first c =
    product_within (2 ^ 41) (2 ^ 41) c.difference-ex.result c.difference-ex.result (omega arith)
    (omega arith) (omega arith) c.difference-ex.ensures.bound c.difference-ex.ensures.bound

pub dot-ee-requires-clause-second : goal.dot-ee-requires-clause-second
dot-ee-requires-clause-second c =
    product_within (2 ^ 41) (2 ^ 41) c.difference-ey.result c.difference-ey.result (omega arith)
    (omega arith) (omega arith) c.difference-ey.ensures.bound c.difference-ey.ensures.bound

pub determinant-a-requires-clause-first : goal.determinant-a-requires-clause-first
determinant-a-requires-clause-first c =
    let rx : FitsSigned w128 c.difference-mx.result = search rules in
    let ry : FitsSigned w128 c.difference-my.result = search rules in
    let mm : IsWithin (2 ^ 83) c.dot-mm.result = squares_within c.difference-mx.result
    c.difference-my.result c.dot-mm.result c.difference-mx.ensures.bound
    c.difference-my.ensures.bound (simp to_z-of_z at c.dot-mm.ensures) in
    product_within (2 ^ 83) (2 ^ 41) c.dot-mm.result c.difference-ey.result (omega arith)
    (omega arith) (omega arith) mm c.difference-ey.ensures.bound

pub determinant-a-requires-clause-second : goal.determinant-a-requires-clause-second
determinant-a-requires-clause-second c =
    let rx : FitsSigned w128 c.difference-ex.result = search rules in
    let ry : FitsSigned w128 c.difference-ey.result = search rules in
    let ee : IsWithin (2 ^ 83) c.dot-ee.result = squares_within c.difference-ex.result
    c.difference-ey.result c.dot-ee.result c.difference-ex.ensures.bound
    c.difference-ey.ensures.bound (simp to_z-of_z at c.dot-ee.ensures) in
    product_within (2 ^ 83) (2 ^ 41) c.dot-ee.result c.difference-my.result (omega arith)
    (omega arith) (omega arith) ee c.difference-my.ensures.bound

pub determinant-b-requires-clause-first : goal.determinant-b-requires-clause-first
determinant-b-requires-clause-first c =
    let rx : FitsSigned w128 c.difference-ex.result = search rules in
    let ry : FitsSigned w128 c.difference-ey.result = search rules in
    let ee : IsWithin (2 ^ 83) c.dot-ee.result = squares_within c.difference-ex.result
    c.difference-ey.result c.dot-ee.result c.difference-ex.ensures.bound
    c.difference-ey.ensures.bound (simp to_z-of_z at c.dot-ee.ensures) in
    product_within (2 ^ 41) (2 ^ 83) c.difference-mx.result c.dot-ee.result (omega arith)
    (omega arith) (omega arith) c.difference-mx.ensures.bound ee

pub determinant-b-requires-clause-second : goal.determinant-b-requires-clause-second
determinant-b-requires-clause-second c =
    let rx : FitsSigned w128 c.difference-mx.result = search rules in
    let ry : FitsSigned w128 c.difference-my.result = search rules in
    let mm : IsWithin (2 ^ 83) c.dot-mm.result = squares_within c.difference-mx.result
    c.difference-my.result c.dot-mm.result c.difference-mx.ensures.bound
    c.difference-my.ensures.bound (simp to_z-of_z at c.dot-mm.ensures) in
    product_within (2 ^ 41) (2 ^ 83) c.difference-ex.result c.dot-mm.result (omega arith)
    (omega arith) (omega arith) c.difference-ex.ensures.bound mm

pub invariant_of-result : goal.invariant_of-result
invariant_of-result c =
    let sx : FitsSigned w64 c.args.s.x = search rules in
    let sy : FitsSigned w64 c.args.s.y = search rules in
    let mx : FitsSigned w64 c.args.m.x = search rules in
    let my : FitsSigned w64 c.args.m.y = search rules in
    let ex : FitsSigned w64 c.args.e.x = search rules in
    let ey : FitsSigned w64 c.args.e.y = search rules in
    let rmx : FitsSigned w128 c.difference-mx.result = search rules in
    let rmy : FitsSigned w128 c.difference-my.result = search rules in
    let rex : FitsSigned w128 c.difference-ex.result = search rules in
    let rey : FitsSigned w128 c.difference-ey.result = search rules in
    let rd : FitsSigned w128 c.determinant-d.result = search rules in
    let rm : FitsSigned w128 c.dot-mm.result = search rules in
    let re : FitsSigned w128 c.dot-ee.result = search rules in
    let ra : FitsSigned w128 c.determinant-a.result = search rules in
    let rb : FitsSigned w128 c.determinant-b.result = search rules in
    let seen : AreSeen c.args.s c.args.m c.args.e c.difference-mx.result c.difference-my.result
    c.difference-ex.result c.difference-ey.result = record {
      mx = simp to_z-of_z at c.difference-mx.ensures.value;
      my = simp to_z-of_z at c.difference-my.ensures.value;
      ex = simp to_z-of_z at c.difference-ex.ensures.value;
      ey = simp to_z-of_z at c.difference-ey.ensures.value;
    } in
    let d = turn_is c.args.s c.args.m c.args.e _ _ _ _ _ seen
    (simp to_z-of_z at c.determinant-d.ensures) in
    let a = centre_x_is c.args.s c.args.m c.args.e _ _ _ _ _ _ _ seen
    (simp to_z-of_z at c.dot-mm.ensures) (simp to_z-of_z at c.dot-ee.ensures)
    (simp to_z-of_z at c.determinant-a.ensures) in
    let b = centre_y_is c.args.s c.args.m c.args.e _ _ _ _ _ _ _ seen
    (simp to_z-of_z at c.dot-mm.ensures) (simp to_z-of_z at c.dot-ee.ensures)
    (simp to_z-of_z at c.determinant-b.ensures) in
    record {
      has = record {
        bent = λ z. c.if-d-eq0.false (ap (of_z w128) (d ∙ z));
        ends = c.requires.first;
        first = c.requires.second;
        second = c.requires.third;
      };
      turn = to_z-of_z rd ∙ d;
      centre_x = to_z-of_z ra ∙ a;
      centre_y = to_z-of_z rb ∙ b;
    }
