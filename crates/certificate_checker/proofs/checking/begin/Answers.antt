use Rattle.std.proofs.Common.{arith, List, ℕ, ◌≤◌, length, subst, sym}
use Rattle.event_mesh.specs.Built.{IsMeshOf}
use Rattle.certificate_checker.specs.Cases.{judged}
use Rattle.certificate_checker.specs.LiveLists.{live_count}
use Rattle.certificate_checker.specs.Marked.{IsAtBorder, NamesAcross}
use Rattle.certificate_checker.proofs.Beginning.{none_marked, none_moved, none_placed, none_turned}
use Rattle.certificate_checker.proofs.checking.begin.Goals as goal

pub returns : goal.returns
returns c = record {
  moved = none_moved (judged c.args.case.now) c.in_ok-live.live.edges c.widest-width.result
      (length c.in_ok-fan.fan.items) c.in_ok-mesh.mesh c.in_ok-live.ensures.edges
      c.widest-width.ensures
      c.in_ok-fan.ensures
      (none_turned (judged c.args.case.now) c.requires.fit.counts c.events.result
      c.args.of.now.low.items c.args.of.now.high.items c.requires.of c.in_ok-mesh.mesh
      (subst (λ (ls : List ℕ). IsMeshOf c.events.result ls c.args.of.now.high.items
      (length ls) c.in_ok-mesh.mesh) c.deref.ensures.value
      (subst (λ (hs : List ℕ). IsMeshOf c.events.result c.deref.result.now hs
      (length c.deref.result.now) c.in_ok-mesh.mesh) c.deref-2.ensures.value
      c.in_ok-mesh.ensures)));
  room = λ j l. subst (λ (n : ℕ). live_count (judged c.args.case.now).table j ≤ n)
      (sym c.in_ok-live.ensures.most)
      (c.most_live.ensures (let e = c.in_ok-live.ensures.most in
      let f = c.in_ok-live.ensures.few in omega (arith, e, f)) j l);
  block =
      let a = c.in_ok-fan.ensures in
      let b = c.in_ok-ending.ensures.capacity in omega (arith, a, b);
  border = none_marked (judged c.args.case.now) IsAtBorder c.in_ok-marks.marks.border.items
      c.len.result c.in_ok-marks.ensures.border (let a = c.len.ensures in omega (arith, a));
  across = none_marked (judged c.args.case.now)
      (NamesAcross c.args.case.now.certificate.now.notes.items) c.in_ok-marks.marks.across.items
      c.len.result c.in_ok-marks.ensures.across (let a = c.len.ensures in omega (arith, a));
  points = none_placed (judged c.args.case.now) c.in_ok-placing.placing.spots.items
      c.in_ok-marks.marks.point.items c.len.result c.in_ok-placing.placing.next
      c.in_ok-placing.placing.bad c.in_ok-placing.ensures.spots c.in_ok-placing.ensures.next
      c.in_ok-placing.ensures.bad c.in_ok-marks.ensures.point (let a = c.len.ensures in
      omega (arith, a));
}
