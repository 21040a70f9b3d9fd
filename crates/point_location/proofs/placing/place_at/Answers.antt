use Rattle.std.proofs.Common.{◌≡◌, ◌+◌, ◌<◌, ◌≤◌, length, arith, sym, ◌∙◌, subst, true, false, Bool}
use Rattle.plane.specs.Runs.Moves.{Move}
use Rattle.point_location.specs.Replaying.{EndsOrStarts}
use Rattle.plane.specs.Runs.Moves.{step_of}
use Rattle.point_location.proofs.PlaneLaws.{decides_equal}
use Rattle.point_location.proofs.PointPlaces.{event_fits, least_at_event, now_known, now_room}
use Rattle.point_location.proofs.PointPlaces.{place_is, some_edge}
use Rattle.point_location.proofs.placing.place_at.Goals as goal
use Rattle.point_location.proofs.placing.place_at.Goals.{else-applied-len-via-then-applied-len+else-eq}
use Rattle.point_location.proofs.placing.place_at.Goals.{else-applied-len-via-else-applied-len}

pub edge_of_event-requires-clause-block : goal.edge_of_event-requires-clause-block
edge_of_event-requires-clause-block c =
    subst (λ (u : Move). u.position + u.ending ≤ length c.args.live.now) (sym c.get.ensures)
    (event_fits c.args.events.now c.args.applied c.args.live.now c.args.at c.requires.moment
    c.requires.fit (let n = c.len.ensures in let t = c.if-applied-len.true in
    omega (arith, n, t)))

pub edge_of_event-requires-clause-some : goal.edge_of_event-requires-clause-some
edge_of_event-requires-clause-some c =
    let here = sym c.at.ensures ∙ (decides_equal _ _ c.eq.result c.eq.ensures).0 c.if-eq.true in
    let l : c.args.applied < length c.args.events.now = (let n = c.len.ensures in
    let t = c.if-applied-len.true in omega (arith, n, t)) in
    let (e, b, h) = some_edge c.args.edges.now c.args.events.now c.requires.run c.args.applied
    c.args.live.now c.args.at c.requires.moment l here c.requires.few in
    (e, b, subst (λ (w : Move). EndsOrStarts (step_of c.args.live.now w) e) (sym c.get.ensures) h)

pub returns-then-eq : goal.returns-then-eq
returns-then-eq c =
    let here = sym c.at.ensures ∙ (decides_equal _ _ c.eq.result c.eq.ensures).0 c.if-eq.true in
    let l : c.args.applied < length c.args.events.now = (let n = c.len.ensures in
    let t = c.if-applied-len.true in omega (arith, n, t)) in
    least_at_event c.args.edges.now c.args.events.now c.requires.run c.args.applied c.args.live.now
    c.args.at c.requires.moment l here c.edge_of_event.result
    (subst (λ (w : Move). EndsOrStarts (step_of c.args.live.now w) c.edge_of_event.result)
    c.get.ensures c.edge_of_event.ensures.is)
    (λ d h. c.edge_of_event.ensures.least d
    (subst (λ (w : Move). EndsOrStarts (step_of c.args.live.now w) d) (sym c.get.ensures) h))

pub place_between-requires-clause-few : goal.place_between-requires-clause-few
place_between-requires-clause-few c =
    let r = now_room c.args.edges.now c.args.events.now c.requires.run c.args.applied
    c.args.live.now c.args.at c.requires.moment in
    let f = c.requires.few in omega (arith, r, f)

pub place_between-requires-clause-known : goal.place_between-requires-clause-known
place_between-requires-clause-known c =
    now_known c.args.edges.now c.args.events.now c.requires.run c.args.applied c.args.live.now
    c.args.at c.requires.moment

pub returns : goal.returns
returns c =
    place_is c.args.edges.now c.args.events.now c.requires.run c.args.applied c.args.live.now
    c.args.at c.requires.moment
    (λ l q. elim c.else-applied-len.branch [
      | else-applied-len-via-then-applied-len+else-eq w ↦
          clash w.eq.result ((decides_equal _ _ w.eq.result w.eq.ensures).1 (w.at.ensures ∙ q))
          w.if-eq.false
      | else-applied-len-via-else-applied-len w ↦ absurd (let n = c.len.ensures in
          let t = w.if-applied-len.false in omega (arith, n, t, l))
    ])
    c.place_between.result c.place_between.ensures
  where
    clash : (b : Bool) → b ≡ true → b ≡ false → ⊥
    clash b p q = cc
