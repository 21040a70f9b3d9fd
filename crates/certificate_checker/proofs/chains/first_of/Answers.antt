use Rattle.std.proofs.Common.{rules, ◌≡◌, true, false, arith}
use Rattle.certificate_checker.proofs.ChainSides.{first_at, first_else, first_few, first_then}
use Rattle.certificate_checker.proofs.chains.first_of.Goals as goal

pub overflow_add-result : goal.overflow_add-result
overflow_add-result c =
    let a = first_few c.args.case.now c.requires.fit c.args.curve _ c.bay_count.result
    c.requires.half_arc
    (first_at c.args.case.now c.requires.fit c.args.curve 0 c.requires.half_arc)
    c.bay_count.ensures in
    omega (arith, a)

pub returns-then-inside : goal.returns-then-inside
returns-then-inside c =
    let q : c.args.inside ≡ true = search rules in
    first_then c.args.case.now c.requires.fit c.args.curve _ c.args.inside c.requires.half_arc q
    (first_at c.args.case.now c.requires.fit c.args.curve _ c.requires.half_arc)

pub returns-else-inside : goal.returns-else-inside
returns-else-inside c =
    let q : c.args.inside ≡ false = search rules in
    first_else c.args.case.now c.requires.fit c.args.curve _ c.bay_count.result c.args.inside
    c.requires.half_arc q
    (first_at c.args.case.now c.requires.fit c.args.curve _ c.requires.half_arc)
    c.bay_count.ensures
