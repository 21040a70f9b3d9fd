use Rattle.std.proofs.Common.{rules, arith, ◌≡◌, ◌↔◌, ◌∙◌, ◌<◌, ℕ, Bool, false, IsTrue, get_or}
use Rattle.std.proofs.Common.{length, subst, sym}
use Rattle.plane.specs.Rule.Plans.{object, plan}
use Rattle.plane.specs.Rule.Windows.{IsInside}
use Rattle.plane.specs.declared.kinds.Placed.{Placed}
use Rattle.certificate.specs.declared.notes.PointPlace.TheVariants.{Cell}
use Rattle.certificate_checker.specs.Cases.{IsHeldAt}
use Rattle.certificate_checker.proofs.Entries.{pushed}
use Rattle.certificate_checker.proofs.HeldPoints.{held_entry}
use Rattle.certificate_checker.proofs.holding.held_points.Goals as goal

pub is_held-requires-clause-inside : goal.is_held-requires-clause-inside
is_held-requires-clause-inside c =
    let d = c.args.drawing.now in
    let l : c.loop-j.j < length d.points.items = (let a = c.loop-j-test.true in
    let b = c.requires.count in omega (arith, a, b)) in
    subst (λ (p : Placed). IsInside d.window.low d.window.high p.at) (sym c.index.ensures)
    (d.points_inside c.loop-j.j c.index.result.now l)

pub loop-j-preserved : goal.loop-j-preserved
loop-j-preserved c =
    let d = plan c.args.drawing.now in
    let h = held_entry d c.args.level c.loop-j.j c.args.places.now _ c.index.result.now
    c.in_ok-is_held.field-0 c.loop-j-test.true c.requires.count c.index.ensures
    c.in_ok-is_held.ensures in
    record {
      size = search rules;
      each = pushed (λ (k : ℕ) (b : Bool). IsTrue b
          ↔ IsHeldAt d c.args.level (get_or c.args.places.now k (Cell 0)) (object d k))
          c.loop-j.held.items c.push.new.self.items c.in_ok-is_held.field-0 false c.loop-j.j
          c.loop-j.invariant.size c.in_ok-push.ensures.items c.loop-j.invariant.each h;
    }

pub returns : goal.returns
returns c =
    let z : c.loop-j.j ≡ length c.args.places.now = search rules in
    record {
      count = c.loop-j.invariant.size ∙ z;
      each = λ k l. c.loop-j.invariant.each k (omega (arith, l, z));
    }
