use Rattle.std.proofs.Common.{rules, false, replicate, refl, sym, subst, arith, ◌*◌, length}
use Rattle.plane.specs.Rule.Plans.{plan}
use Rattle.fault_lists.specs.Tracing.{AreTracedTo, rings_of}
use Rattle.fault_lists.proofs.Traces.{all_traced, none_traced}
use Rattle.fault_lists.proofs.rings.trace_all.Goals as goal

pub loop-number-init : goal.loop-number-init
loop-number-init c =
    let m = 2 * length c.args.drawing.now.curves.items in
    record {
      sides = refl;
      traced = subst
          (λ marks. AreTracedTo (plan c.args.drawing.now) c.args.faces.now c.args.slots.now 0 marks
          (rings_of c.args.regions.now)) (search rules)
          (none_traced (plan c.args.drawing.now) c.args.faces.now c.args.slots.now
          c.args.regions.now m c.requires.blank (let e = c.requires.curves in omega (arith, e)));
    }

pub returns-clause-traced : goal.returns-clause-traced
returns-clause-traced c = λ e.
    all_traced (plan c.args.drawing.now) c.args.faces.now c.args.slots.now c.loop-number.number
    c.loop-number.marks.items (rings_of c.loop-number.regions)
    (let t = c.loop-number-test.false in let e = c.requires.curves in
    omega (arith, t, e)) c.loop-number.invariant.traced
