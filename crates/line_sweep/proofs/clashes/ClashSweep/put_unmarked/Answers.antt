use Rattle.std.proofs.Common.{arith, ap, ◌+◌, ◌-◌, drop, length, subst, sym}
use Rattle.plane.specs.Lists.{Has}
use Rattle.straight_predicates.specs.EdgeLists.{AreBelow}
use Rattle.line_sweep.proofs.LiveNumbers.{put_within, replaced}
use Rattle.line_sweep.proofs.clashes.ClashSweep.put_unmarked.Goals as goal

pub returns-clause-known : goal.returns-clause-known
returns-clause-known c = λ m b f.
    replaced m c.choose_unmarked.new.self.live c.replace.new.self c.deref.result.now
    c.marked_start-first.result (c.marked_start-first.result
    + (c.marked_end-end.result - c.marked_start-first.result)) c.in_ok-replace.ensures.values
    (subst (AreBelow m) (sym c.choose_unmarked.ensures.live) b)
    (λ e h. f e (c.in_ok-choose_unmarked.ensures.fresh e (subst (Has e) c.deref.ensures.value h)))

pub returns-clause-within : goal.returns-clause-within
returns-clause-within c =
    let l = ap length c.choose_unmarked.ensures.live in
    put_within c.choose_unmarked.new.self.live c.replace.new.self c.deref.result.now
    c.choose_unmarked.new.self.fresh.items
    (drop (c.marked_start-first.result
    + (c.marked_end-end.result - c.marked_start-first.result)) c.choose_unmarked.new.self.live)
    c.marked_start-first.result
    c.deref.ensures.value c.in_ok-replace.ensures.values
    (omega (arith, l, c.marked_start-first.ensures, c.requires.part, c.requires.within))
