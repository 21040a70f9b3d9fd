use Rattle.std.proofs.Common.{◌≡◌, ℕ, IsTrue, false, rules, arith, pos, ◌<ℤ◌, length, get_or}
use Rattle.plane.specs.Runs.Positions.{turn_at}
use Rattle.straight_predicates.specs.EdgeLists.{edge_of}
use Rattle.certificate_checker.proofs.Closeness.{high_close}
use Rattle.certificate_checker.proofs.ListParts.{at_pair, granted, pair_more, refused, unfit}
use Rattle.certificate_checker.proofs.events.turn_left.Goals as goal

pub is_above-requires-clause-close : goal.is_above-requires-clause-close
is_above-requires-clause-close c =
    high_close c.args.edges.now _ c.requires.close (c.requires.known c.loop-i.i c.loop-i-test.true)

pub loop-i-preserved : goal.loop-i-preserved
loop-i-preserved c =
    let h : IsTrue c.is_above.result = search rules in
    pair_more (λ (i j : ℕ). pos 0 <ℤ turn_at (edge_of c.args.edges.now)
    (get_or c.args.starting.now i 0)
    (edge_of c.args.edges.now (get_or c.args.starting.now j 0)).high)
    c.loop-i.i c.loop-i.auto.i c.loop-i.invariant (c.is_above.ensures.0 h)

pub returns-then-not-is_above : goal.returns-then-not-is_above
returns-then-not-is_above c =
    let h : c.is_above.result ≡ false = search rules in
    refused (λ f. unfit c.is_above.result c.is_above.ensures h
    (at_pair (λ (i j : ℕ). pos 0 <ℤ turn_at (edge_of c.args.edges.now)
    (get_or c.args.starting.now i 0)
    (edge_of c.args.edges.now (get_or c.args.starting.now j 0)).high)
    c.loop-i.i (length c.args.starting.now) c.loop-i.auto.i c.loop-i-test.true f))

pub returns : goal.returns
returns c =
    let e = c.loop-i-test.false in granted (λ i l. c.loop-i.invariant i (omega (arith, l, e)))
