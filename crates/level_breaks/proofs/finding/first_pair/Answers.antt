use Rattle.std.proofs.Common.{◌≡◌, None, ℕ, ◌<◌, subst}
use Rattle.std.specs.Prelude.{IfOk, IfSome}
use Rattle.near_pairs.specs.LeastPairs.{IsLeastPair}
use Rattle.plane.specs.Rule.Plans.{plan}
use Rattle.tubes.specs.Settled.{Breaks}
use Rattle.level_breaks.proofs.BrokenPairs.{boxes_count, boxes_of_drawing, broken_near}
use Rattle.level_breaks.proofs.finding.first_pair.Goals as goal

pub least-requires-clause-near : goal.least-requires-clause-near
least-requires-clause-near c = λ i j l m.
    let d = plan c.args.drawing.now in
    let t = c.args.tubes.now in
    let bs = boxes_of_drawing d t c.deref.result.now c.in_ok-boxes.boxes.items c.deref-3.result.now
    c.deref.ensures.value c.deref-3.ensures.value c.in_ok-boxes.ensures in
    broken_near d (λ n. c.args.level) c.boxes_hold_means.ensures.straight c.boxes_hold_means.ensures.tube t
    c.deref-3.result.now c.args.marked.now c.requires.tubes bs c.requires.marked i j l
    (subst (λ (n : ℕ). j < n) bs.size m)

pub returns-clause-some : goal.returns-clause-some
returns-clause-some c =
    let d = plan c.args.drawing.now in
    let n = boxes_count d c.args.tubes.now c.deref.result.now c.in_ok-boxes.boxes.items
    c.deref-3.result.now c.deref.ensures.value c.deref-3.ensures.value c.in_ok-boxes.ensures in
    subst (λ (k : ℕ). IfOk c.least.result
    (λ r. IfSome r (λ p. IsLeastPair (Breaks d (λ n. c.args.level)) k p))) n c.least.ensures.some

pub returns-clause-none : goal.returns-clause-none
returns-clause-none c =
    let d = plan c.args.drawing.now in
    let n = boxes_count d c.args.tubes.now c.deref.result.now c.in_ok-boxes.boxes.items
    c.deref-3.result.now c.deref.ensures.value c.deref-3.ensures.value c.in_ok-boxes.ensures in
    subst (λ (k : ℕ). IfOk c.least.result (λ r. r ≡ None → (i j : ℕ) → i < j → j < k
    → Breaks d (λ n. c.args.level) i j → ⊥)) n c.least.ensures.none
