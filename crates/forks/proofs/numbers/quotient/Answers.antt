use Rattle.std.proofs.Common.{◌≡◌, ◌^◌, arith, FitsSigned, rules, to_z-of_z}
use Rattle.std.specs.Int.{int_div_euclid, w128}
use Rattle.std.proofs.lemmas.Int.{ints}
use Rattle.forks.proofs.Rounding.{div_down, div_small}
use Rattle.forks.proofs.numbers.quotient.Goals as goal

pub returns-clause-value : goal.returns-clause-value
returns-clause-value c =
    let n = c.ranges.n in
    let r = c.ranges.root in
    let l = c.requires.root in
    let f : FitsSigned w128 c.div_euclid.result = search rules in
    let e : c.div_euclid.result ≡ int_div_euclid c.args.n c.args.root = simp to_z-of_z at
    c.div_euclid.ensures in
    rw (to_z-of_z f, e) (div_down c.args.n c.args.root (omega (arith, ints, l)))

pub returns-clause-bound : goal.returns-clause-bound
returns-clause-bound c =
    let n = c.ranges.n in
    let r = c.ranges.root in
    let l = c.requires.root in
    let f : FitsSigned w128 c.div_euclid.result = search rules in
    let e : c.div_euclid.result ≡ int_div_euclid c.args.n c.args.root = simp to_z-of_z at
    c.div_euclid.ensures in
    rw (to_z-of_z f, e) (div_small (2 ^ 57) c.args.n c.args.root l c.requires.n)
