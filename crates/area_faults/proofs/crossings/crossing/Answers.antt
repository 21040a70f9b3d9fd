use Rattle.std.proofs.Common.{rules, ◌<ℤ◌, pos, ℤ, FitsSigned, to_z-of_z, arith, subst, sym}
use Rattle.std.proofs.lemmas.Int.{ints}
use Rattle.std.specs.Int.{w128}
use Rattle.area_faults.proofs.CrossingParts.{both_back, left_again}
use Rattle.area_faults.proofs.crossings.crossing.Goals as goal

pub crossing_with-requires-else-turn-gt0-clause-meet : goal.crossing_with-requires-else-turn-gt0-clause-meet
crossing_with-requires-else-turn-gt0-clause-meet c =
    let s = c.args.first.now in
    let t = c.args.second.now in
    let (z, on) = c.requires.meet in
    (z, both_back s.from s.to t.from t.to z on)

pub crossing_with-requires-else-turn-gt0-clause-left : goal.crossing_with-requires-else-turn-gt0-clause-left
crossing_with-requires-else-turn-gt0-clause-left c =
    let s = c.args.first.now in
    let t = c.args.second.now in
    let r : FitsSigned w128 c.turn_between-turn.result = search rules in
    let u : FitsSigned w128 c.turn_between.result = search rules in
    let h = simp to_z-of_z at c.if-turn-gt0.false in
    let left = left_again s.from s.to t.from t.to c.turn_between-turn.result
    c.turn_between-turn.ensures c.requires.cross (omega (arith, ints, h)) in
    rw (to_z-of_z u) (subst (λ (n : ℤ). pos 0 <ℤ n) (sym c.turn_between.ensures) left)

pub returns-else-turn-gt0 : goal.returns-else-turn-gt0
returns-else-turn-gt0 c = λ z on.
    let s = c.args.first.now in
    let t = c.args.second.now in
    c.crossing_with-else-turn-gt0.ensures z (both_back s.from s.to t.from t.to z on)
