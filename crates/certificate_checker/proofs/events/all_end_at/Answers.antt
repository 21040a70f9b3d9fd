use Rattle.std.proofs.Common.{◌≡◌, ℕ, IsTrue, false, rules}
use Rattle.straight_predicates.specs.EdgeLists.{edge_of}
use Rattle.certificate_checker.proofs.ListParts.{granted, refused, unfit}
use Rattle.certificate_checker.proofs.PartEnds.{in_part, part_all, part_more}
use Rattle.certificate_checker.proofs.events.all_end_at.Goals as goal

pub loop-place-preserved : goal.loop-place-preserved
loop-place-preserved c =
    let h : IsTrue c.ends_at.result = search rules in
    part_more c.args.live.now.edges c.args.from c.args.upto c.loop-place.place
    (let o = c.requires.order in
    c.loop-place.auto.place) c.loop-place-test.true c.requires.within c.get.result
    (c.get.ensures 0)
    (λ (e : ℕ). (edge_of c.args.edges.now e).high ≡ c.args.at) c.loop-place.invariant
    (c.ends_at.ensures.0 h)

pub returns-then-not-ends_at : goal.returns-then-not-ends_at
returns-then-not-ends_at c =
    let h : c.ends_at.result ≡ false = search rules in
    refused (λ f. unfit c.ends_at.result c.ends_at.ensures h
    (f _ (in_part c.args.live.now.edges c.args.from c.args.upto c.loop-place.place
    c.loop-place.auto.place c.loop-place-test.true c.requires.within c.get.result
    (c.get.ensures 0))))

pub returns : goal.returns
returns c = granted
    (part_all c.args.live.now.edges c.args.from c.args.upto c.loop-place.place
    (λ (e : ℕ). (edge_of c.args.edges.now e).high ≡ c.args.at) c.loop-place-test.false
    c.loop-place.invariant)
