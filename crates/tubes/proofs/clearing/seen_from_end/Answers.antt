use Rattle.std.proofs.Common.{◌^◌, FitsSigned, arith, pos, rules, to_z-of_z}
use Rattle.std.specs.Int.{w128}
use Rattle.std.proofs.lemmas.Int.{ints}
use Rattle.arc_predicates.proofs.Sums.{product_within}
use Rattle.tubes.proofs.ClearNumbers.{half_within, seen_is_back, seen_within}
use Rattle.tubes.proofs.clearing.seen_from_end.Goals as goal

pub determinant-half-requires-clause-first : goal.determinant-half-requires-clause-first
determinant-half-requires-clause-first c =
    product_within (2 ^ 80) (2 ^ 5) c.args.at (pos 1) (omega arith) (omega arith)
    (omega arith) c.requires.at (omega (arith, ints))

pub determinant-half-requires-clause-second : goal.determinant-half-requires-clause-second
determinant-half-requires-clause-second c =
    product_within (2 ^ 53) (2 ^ 29) _ _ (omega arith) (omega arith)
    (omega arith) c.requires.d c.requires.way

pub determinant-requires-clause-first : goal.determinant-requires-clause-first
determinant-requires-clause-first c =
    let d = c.ranges.d in
    let a = c.ranges.at in
    let w = c.ranges.way in
    product_within (2 ^ 83) (2 ^ 5) c.determinant-half.result (pos 1) (omega arith) (omega arith)
    (omega arith)
    (half_within c.args.d c.args.at c.args.way c.determinant-half.result c.requires.d
    c.requires.at c.requires.way (simp to_z-of_z at c.determinant-half.ensures))
    (omega (arith, ints))

pub determinant-requires-clause-second : goal.determinant-requires-clause-second
determinant-requires-clause-second c =
    product_within (2 ^ 53) (2 ^ 29) _ _ (omega arith) (omega arith)
    (omega arith) c.requires.d c.requires.way

pub returns-clause-value : goal.returns-clause-value
returns-clause-value c =
    let d = c.ranges.d in
    let a = c.ranges.at in
    let w = c.ranges.way in
    let h : FitsSigned w128 c.determinant-half.result = search rules in
    let r : FitsSigned w128 c.determinant.result = search rules in
    rw (to_z-of_z r)
    (seen_is_back c.args.d c.args.at c.args.way c.determinant-half.result c.determinant.result
    (simp to_z-of_z at c.determinant-half.ensures) (simp to_z-of_z at c.determinant.ensures))

pub returns-clause-bound : goal.returns-clause-bound
returns-clause-bound c =
    let d = c.ranges.d in
    let a = c.ranges.at in
    let w = c.ranges.way in
    let h : FitsSigned w128 c.determinant-half.result = search rules in
    let r : FitsSigned w128 c.determinant.result = search rules in
    rw (to_z-of_z r)
    (seen_within c.args.d c.args.at c.args.way c.determinant.result c.requires.d c.requires.at
    c.requires.way
    (seen_is_back c.args.d c.args.at c.args.way c.determinant-half.result c.determinant.result
    (simp to_z-of_z at c.determinant-half.ensures) (simp to_z-of_z at c.determinant.ensures)))
