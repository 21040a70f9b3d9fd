use Rattle.std.proofs.Common.{◌≡◌, ℕ, ◌<◌, List, [], ◌∙◌, ap, arith, length, slice_index, subst}
use Rattle.std.proofs.Common.{sym}
use Rattle.line_sweep.specs.Kinds.{IsRefused}
use Rattle.near_pairs.specs.Boxes.{mark_of}
use Rattle.plane.specs.declared.kinds.Edge.{Edge}
use Rattle.plane.specs.Rule.Plans.{plan}
use Rattle.plane.specs.Runs.Moves.{steps_from}
use Rattle.plane.specs.Runs.Steps.{Run}
use Rattle.straight_predicates.specs.EdgeLists.{AreAllClose, AreSorted, edge_of}
use Rattle.area_faults.specs.RestFaces.{AreMendable, AreParted, half_edges}
use Rattle.area_faults.proofs.CallFacts.{few_edges, never_bad, parted_by}
use Rattle.area_faults.proofs.CloseEdges.{edges_close, edges_sorted}
use Rattle.area_faults.proofs.rest.finding.rest_faces.Goals as goal

pub numbers_with-requires : goal.numbers_with-requires
numbers_with-requires c = let s = c.requires.size in let f = c.requires.few in omega (arith, s, f)

pub numbers_with-requires-2 : goal.numbers_with-requires-2
numbers_with-requires-2 c = let s = c.requires.size in let f = c.requires.few in omega (arith, s, f)

pub edges_in_halves-requires : goal.edges_in_halves-requires
edges_in_halves-requires c =
    let d = plan c.args.drawing.now in
    let parted = parted_by d c.args.out.now c.in_ok-kept.kept.items c.in_ok-left.left.items
    c.requires.size c.in_ok-kept.ensures c.in_ok-left.ensures in
    subst (λ (ns : List ℕ). (m : ℕ) → m < length ns → slice_index ns m < length d.curves)
    (sym c.deref.ensures.value) parted.kept_are.known

pub sweep-requires : goal.sweep-requires
sweep-requires c =
    let w = c.args.drawing.now in
    let d = plan w in
    let kept = c.in_ok-kept.kept.items in
    let left = c.in_ok-left.left.items in
    let parted = parted_by d c.args.out.now kept left c.requires.size c.in_ok-kept.ensures
    c.in_ok-left.ensures in
    let mend : AreMendable d (mark_of c.args.out.now) = record {
      straights = c.requires.straights;
      few = c.requires.few;
      pairs = c.requires.pairs;
    } in
    let same : c.deref-2.result.now ≡ half_edges d kept = c.deref-2.ensures.value
    ∙ c.in_ok-edges.ensures ∙ ap (half_edges d) c.deref.ensures.value in
    let n = ap length same in
    let f = few_edges d c.args.out.now kept left parted mend in
    record {
      few = omega (arith, n, f);
      sorted = subst AreSorted (sym same)
          (edges_sorted d w.window.low w.window.high w.window.narrow w.curves_drawn kept
          parted.kept_are.known);
      close = subst AreAllClose (sym same)
          (edges_close d w.window.low w.window.high w.window.narrow w.curves_drawn kept
          parted.kept_are.known);
    }

pub faces_of_run-requires : goal.faces_of_run-requires
faces_of_run-requires c =
    let d = plan c.args.drawing.now in
    let marks = c.args.out.now in
    let parted = parted_by d marks c.in_ok-kept.kept.items c.in_ok-left.left.items c.requires.size
    c.in_ok-kept.ensures c.in_ok-left.ensures in
    record {
      mendable = record {
        straights = c.requires.straights;
        few = c.requires.few;
        pairs = c.requires.pairs;
      };
      parted = subst (λ (ks : List ℕ). AreParted d marks ks c.deref-in-Ok-2.result.now)
          (sym c.deref-in-Ok.ensures.value)
          (subst (λ (ls : List ℕ). AreParted d marks c.in_ok-kept.kept.items ls)
          (sym c.deref-in-Ok-2.ensures.value) parted);
      edges = c.in_ok-edges.ensures
          ∙ ap (half_edges d) (c.deref.ensures.value ∙ sym c.deref-in-Ok.ensures.value);
      run = subst (λ (es : List Edge). Run (length es) (edge_of es)
          (steps_from [] c.in-Ok.swept.events)) c.deref-2.ensures.value c.in-Ok.ensures.run;
      fit = c.in-Ok.ensures.fit;
      cells = c.in-Ok.ensures.cells;
    }

pub unreachable-requires : goal.unreachable-requires
unreachable-requires c =
    let d = plan c.args.drawing.now in
    let kept = c.in_ok-kept.kept.items in
    let left = c.in_ok-left.left.items in
    let parted = parted_by d c.args.out.now kept left c.requires.size c.in_ok-kept.ensures
    c.in_ok-left.ensures in
    let same : c.deref-2.result.now ≡ half_edges d kept = c.deref-2.ensures.value
    ∙ c.in_ok-edges.ensures ∙ ap (half_edges d) c.deref.ensures.value in
    never_bad d c.args.out.now kept left parted (record {
      straights = c.requires.straights;
      few = c.requires.few;
      pairs = c.requires.pairs;
    }) c.deref-2.result.now same _ _
    (subst (IsRefused c.deref-2.result.now) c.in-Err-Bad.field-0-is c.in-Err-Bad.ensures.refused)
