use Rattle.std.proofs.Common.{◌≡◌, arith, rules}
use Rattle.straight_predicates.specs.PackedEnds.{ends_in}
use Rattle.straight_predicates.proofs.EndRuns.{as_long, ends_at, ends_left, none_copied, one_copied}
use Rattle.straight_predicates.proofs.EndRuns.{one_more}
use Rattle.straight_predicates.proofs.events.copy_group.Goals as goal

pub loop-n-init : goal.loop-n-init
loop-n-init c =
    none_copied (ends_in c.args.ends.now) c.clear.new.self.items c.args.from c.get.result.at
    c.clear.ensures.items

pub loop-n-preserved : goal.loop-n-preserved
loop-n-preserved c =
    let e : c.get-end.result.at ≡ c.get.result.at = search rules in
    let l = c.loop-n-test.true in
    let s = c.len.ensures in
    record {
      copied = one_copied (ends_in c.args.ends.now) c.args.from c.loop-n.n c.loop-n.group.items
          c.push.new.self.items c.get-end.result
          (omega (arith, l, s)) c.loop-n.invariant.copied c.get-end.ensures
          c.in_ok-push.ensures.items;
      place = one_more (ends_in c.args.ends.now) c.args.from c.loop-n.n c.get.result.at
          c.get-end.result c.loop-n.invariant.place c.get-end.ensures e;
    }

pub returns-then-ne-clause-one : goal.returns-then-ne-clause-one
returns-then-ne-clause-one c =
    let bad : c.get-end.result.at ≡ c.get.result.at → ⊥ = λ e. search rules in
    let l = c.loop-n-test.true in
    let s = c.len.ensures in
    ends_at (ends_in c.args.ends.now) c.loop-n.group.items c.args.from c.loop-n.n c.get.result
    c.get-end.result c.get.ensures c.requires
    (omega (arith, l, s)) c.loop-n.invariant c.get-end.ensures bad

pub returns-then-ne-clause-ends : goal.returns-then-ne-clause-ends
returns-then-ne-clause-ends c =
    let l = c.loop-n-test.true in
    let s = c.len.ensures in
    as_long (ends_in c.args.ends.now) c.loop-n.group.items c.args.from c.loop-n.n c.get.result.at
    c.requires (omega (arith, l, s)) c.loop-n.invariant

pub returns-clause-one : goal.returns-clause-one
returns-clause-one c =
    let l = c.loop-n.auto.n-end in
    let w = c.loop-n-test.false in
    let s = c.len.ensures in
    ends_left (ends_in c.args.ends.now) c.loop-n.group.items c.args.from c.loop-n.n c.get.result.at
    c.requires (omega (arith, l, s)) (omega (arith, w, s)) c.loop-n.invariant

pub returns-clause-ends : goal.returns-clause-ends
returns-clause-ends c =
    let l = c.loop-n.auto.n-end in
    let s = c.len.ensures in
    as_long (ends_in c.args.ends.now) c.loop-n.group.items c.args.from c.loop-n.n c.get.result.at
    c.requires (omega (arith, l, s)) c.loop-n.invariant
