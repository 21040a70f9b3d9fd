use Rattle.std.proofs.Common.{rules, ◌≡◌, ◌++◌, arith, List, ℕ, ap, sym, ◌∙◌}
use Rattle.file_pages.specs.Held.{settled_by, times}
use Rattle.file_pages.proofs.HeldSteps.{repeat_more, settled_more}
use Rattle.file_pages.proofs.blocks.Block.add_line.Goals as goal

pub invariant_of-self-2 : goal.invariant_of-self-2
invariant_of-self-2 c =
    let settled = c.self.invariant.0 in
    let within = c.self.invariant.1 in
    let after = c.in-Some.ensures.after in
    let was = c.len.ensures in
    let now = c.len-self-inside.ensures in
    let more = ap settled_by c.in_ok-push.ensures.items
    ∙ settled_more c.self.inside.repeats.items c.in-Some.repeat in
    (omega (arith, settled, within, after, was, now, more), omega (arith, was, now))

pub returns-clause-added : goal.returns-clause-added
returns-clause-added c = λ e.
    let settled = c.self.invariant.0 in
    let within = c.self.invariant.1 in
    let after = c.in-Some.ensures.after in
    let was = c.len.ensures in
    let same : c.self.inside.line.items ≡ c.args.line.now = search rules in
    repeat_more c.self.inside.line.items c.self.inside.repeats.items c.push.new.self.items
    c.self.inside.bytes.items c.args.self.now c.in-Some.repeat
    c.in_ok-push.ensures.items (omega (arith, settled, within, after, was)) (sym c.self.view_is)
    ∙ ap (λ (t : List ℕ). c.args.self.now ++ t)
    (ap (λ (n : ℕ). times n c.self.inside.line.items) c.in-Some.ensures.count
    ∙ ap (times c.args.count) same)
