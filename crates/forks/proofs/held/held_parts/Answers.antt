use Rattle.std.proofs.Common.{ℕ, ◌+◌, ◌≡◌, length, ap, subst, sym, ◌∙◌, rules}
use Rattle.plane.specs.Rule.Plans.{plan}
use Rattle.near_pairs.specs.Boxes.{AreMarkedFrom}
use Rattle.forks.specs.ForkedStraights.{AreBoxes}
use Rattle.forks.proofs.HeldParts.{are_near, partners_held}
use Rattle.forks.proofs.held.held_parts.Goals as goal

pub partnered-requires-clause-near : goal.partnered-requires-clause-near
partnered-requires-clause-near c = λ i j l m.
    let d = plan c.args.drawing.now in
    let ps = c.args.parts.now in
    let boxes = c.deref.result.now in
    let n : c.len.result ≡ length c.in_ok-boxes.boxes.items = search rules in
    let same : c.len.result ≡ length boxes = n ∙ ap length (sym c.deref.ensures.value) in
    let marks = subst (AreMarkedFrom (length ps) c.len.result)
    (sym c.deref-2.ensures.value) c.in_ok-marks.ensures in
    are_near d ps boxes c.deref-2.result.now c.requires.parts
    (subst (AreBoxes d ps (length ps + length d.points))
    (sym c.deref.ensures.value) c.in_ok-boxes.ensures)
    (subst (λ (k : ℕ). AreMarkedFrom (length ps) k c.deref-2.result.now) same marks) i j

pub returns : goal.returns
returns c =
    let d = plan c.args.drawing.now in
    let ps = c.args.parts.now in
    let n : length c.deref.result.now ≡ length ps
    + length d.points = ap length c.deref.ensures.value ∙ c.in_ok-boxes.ensures.size in
    partners_held d ps _ (length c.deref.result.now) c.partnered.result n c.partnered.ensures
