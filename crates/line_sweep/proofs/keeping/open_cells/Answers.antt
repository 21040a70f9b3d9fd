use Rattle.std.proofs.Common.{ap, arith, get_or, ◌∙◌, ◌+◌, ◌++◌, ℕ, Option, drop}
use Rattle.plane.specs.Runs.Gaps.{gaps_between}
use Rattle.line_sweep.specs.Held.{gaps_held}
use Rattle.line_sweep.proofs.Keys.{none_put, one_put, put_gaps}
use Rattle.line_sweep.proofs.OpenGaps.{gaps_end, gaps_more}
use Rattle.line_sweep.proofs.PlaneLaws.{has_at}
use Rattle.line_sweep.proofs.keeping.open_cells.Goals as goal

pub new-upper-requires : goal.new-upper-requires
new-upper-requires c =
    let l = c.requires.starting (get_or c.args.starting.now c.loop-edge.edge-index 0)
    (has_at c.args.starting.now c.loop-edge.edge-index 0 c.loop-edge-test.true) in
    omega (arith, l)

pub loop-edge-init : goal.loop-edge-init
loop-edge-init c = record {
  put = none_put c.args.slab.now c.clear.new.self.items c.clear.ensures.items;
  gaps = λ u.
      ap (λ ks. gaps_held c.args.slab.now ks
      ++ gaps_between c.args.event c.new-lower.result c.args.starting.now u) c.clear.ensures.items
      ∙ ap (λ (o : Option ℕ). gaps_between c.args.event o c.args.starting.now u)
      c.new-lower.ensures;
}

pub loop-edge-preserved : goal.loop-edge-preserved
loop-edge-preserved c = record {
  put = one_put c.loop-edge.slab c.open_cell.new.slab _ c.loop-edge.keys.items
      c.open_cell.new.keys.items c.in_ok-open_cell.ensures c.args.slab.now
      c.loop-edge.invariant.put;
  gaps = λ u.
      ap (λ (o : Option ℕ). gaps_held c.open_cell.new.slab c.open_cell.new.keys.items
      ++ gaps_between c.args.event o (drop (c.loop-edge.edge-index + 1) c.args.starting.now) u)
      c.new-upper.ensures
      ∙ gaps_more (gaps_held c.loop-edge.slab c.loop-edge.keys.items)
      (gaps_held c.open_cell.new.slab c.open_cell.new.keys.items) _ c.args.event c.loop-edge.lower
      c.args.starting.now c.loop-edge.edge-index u c.loop-edge-test.true
      (put_gaps c.loop-edge.slab c.open_cell.new.slab _ c.loop-edge.keys.items
      c.open_cell.new.keys.items c.in_ok-open_cell.ensures c.args.slab.now
      c.loop-edge.invariant.put)
      (ap (λ (o : Option ℕ). record {
        lower = c.loop-edge.lower;
        upper = o;
        event = c.args.event;
      }) c.new-upper.ensures)
      ∙ c.loop-edge.invariant.gaps u;
}

pub returns-clause-put : goal.returns-clause-put
returns-clause-put c =
    one_put c.loop-edge.slab c.open_cell-2.new.slab _ c.loop-edge.keys.items
    c.open_cell-2.new.keys.items c.in_ok-open_cell-2.ensures c.args.slab.now
    c.loop-edge.invariant.put

pub returns-clause-gaps : goal.returns-clause-gaps
returns-clause-gaps c =
    gaps_end (gaps_held c.loop-edge.slab c.loop-edge.keys.items)
    (gaps_held c.open_cell-2.new.slab c.open_cell-2.new.keys.items) _ _ c.args.event
    c.loop-edge.lower c.args.starting.now c.loop-edge.edge-index c.args.beside.upper
    c.loop-edge-test.false
    (put_gaps c.loop-edge.slab c.open_cell-2.new.slab _ c.loop-edge.keys.items
    c.open_cell-2.new.keys.items c.in_ok-open_cell-2.ensures c.args.slab.now
    c.loop-edge.invariant.put)
    (ap (λ (o : Option ℕ). record {
      lower = c.loop-edge.lower;
      upper = o;
      event = c.args.event;
    }) c.new-upper-2.ensures)
    (c.loop-edge.invariant.gaps c.args.beside.upper)
