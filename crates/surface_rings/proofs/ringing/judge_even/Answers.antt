use Rattle.std.proofs.Common.{ℕ, ◌<◌, Bool, List, subst, length}
use Rattle.plane.specs.Faces.Regions.{Bridged}
use Rattle.surface_rings.specs.Working.{floor_in}
use Rattle.surface_rings.proofs.Answering.{holds, one_side, parts}
use Rattle.surface_rings.proofs.ringing.judge_even.Goals as goal

pub returns-then-branch-clause-answer : goal.returns-then-branch-clause-answer
returns-then-branch-clause-answer c u =
    let vs = c.args.swept.now.events in
    let edges = c.args.edges.now in
    holds u edges vs c.requires.run c.requires.fit c.in_ok-floors.floors.items c.requires.even
    c.in_ok-floors.ensures c.requires.clear c.requires.some
    (subst (λ (fs : List Bool). (e f : ℕ) → e < length edges → f < length edges
    → Bridged vs (floor_in fs) e f) c.deref.ensures.value
    (c.in_ok-is_one_region.ensures.one c.if-branch.true))

pub returns-then-branch-clause-sides : goal.returns-then-branch-clause-sides
returns-then-branch-clause-sides c e u =
    let vs = c.args.swept.now.events in
    one_side u c.args.edges.now vs c.requires.run c.requires.fit c.in_ok-floors.floors.items
    c.requires.even c.in_ok-floors.ensures c.requires.clear c.requires.some

pub returns-clause-answer : goal.returns-clause-answer
returns-clause-answer c u =
    let vs = c.args.swept.now.events in
    let edges = c.args.edges.now in
    let (e, l, apart) = subst (λ (fs : List Bool). (e : ℕ) × (e < length edges)
    × (Bridged vs (floor_in fs) e 0 → ⊥)) c.deref.ensures.value
    (c.in_ok-is_one_region.ensures.parts c.if-branch.false) in
    parts u edges vs c.requires.run c.requires.fit c.in_ok-floors.floors.items c.requires.even
    c.in_ok-floors.ensures c.requires.clear c.requires.some e l apart
