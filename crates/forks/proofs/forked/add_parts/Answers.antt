use Rattle.std.proofs.Common.{◌≡◌, length, refl, rules}
use Rattle.plane.specs.Rule.Plans.{plan}
use Rattle.forks.specs.declared.forked.Forked.{Forked}
use Rattle.forks.specs.declared.forked.ForkedStraights.{ForkedStraights}
use Rattle.forks.proofs.ForkedLists.{forked_more}
use Rattle.forks.proofs.LeastBends.{curve_is}
use Rattle.forks.proofs.PlaneLaws.{no_curve}
use Rattle.forks.proofs.forked.add_parts.Goals as goal

pub returns : goal.returns
returns c =
    let w = c.args.drawing.now in
    let g : ForkedStraights = record {
      straights = c.push.new.self;
      parts = c.push_parts.new.into;
    } in
    let x : Forked = record {
      number = c.args.number;
      start = c.len-start.result;
      end = c.len-end.result;
    } in
    let start : c.len-start.result ≡ length c.args.forked.now.parts.items = search rules in
    let end : c.len-end.result ≡ length c.push_parts.new.into.items = search rules in
    forked_more w.tolerance (plan w) c.args.number c.args.first c.args.last c.args.forked.now g
    c.index-straight.result.now c.requires.forked c.requires.there c.requires.straight
    (curve_is (plan w) c.args.number c.index-straight.result.now c.requires.there
    c.index-straight.ensures) c.requires.first c.requires.last c.requires.bends
    (w.curves_drawn c.args.number no_curve c.requires.there)
    c.in_ok-push_parts.ensures x refl start end c.in_ok-push.ensures.items
