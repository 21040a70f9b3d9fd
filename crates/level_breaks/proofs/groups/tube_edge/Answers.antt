use Rattle.std.proofs.Common.{ℕ, [], ◌+◌, ◌-◌, ◌<◌, ◌≤◌, List, length, ◌++◌, ◌∷◌, arith, ap, sym}
use Rattle.std.proofs.Common.{subst, ◌∙◌}
use Rattle.plane.specs.declared.kinds.Point.{Point}
use Rattle.straight_predicates.specs.EdgeLists.{HasEnds, edge_of, no_point}
use Rattle.tubes.specs.TubedEdges.{AreDistinct, chain_edges}
use Rattle.level_breaks.specs.Groups.{nth}
use Rattle.level_breaks.proofs.GroupEdges.{inner_differs, inner_edge, inner_sizes, one_default}
use Rattle.level_breaks.proofs.GroupEdges.{outer_edge, outer_number}
use Rattle.level_breaks.proofs.groups.tube_edge.Goals as goal

pub edge_between-requires : goal.edge_between-requires
edge_between-requires c = λ e.
    let t = c.args.tube.now in
    let h = c.requires.edged in
    let l = subst (λ (n : ℕ). c.args.number < n) (c.len-bays.ensures
    ∙ c.args.tube.now.outer.ok.0) c.if-number-bays.true in
    let m = inner_sizes c.args.curve.now t h c.args.number l in
    inner_differs c.args.curve.now t h c.args.number l
    (one_default t.inner.items c.args.number no_point _ (omega (arith, m)) ∙ sym c.index.ensures ∙ e
    ∙ c.index-then-number-bays.ensures
    ∙ one_default t.inner.items (c.args.number + 1) _ no_point m)

pub outer_edge-requires-clause-there : goal.outer_edge-requires-clause-there
outer_edge-requires-clause-there c =
    let e = c.len-bays.ensures ∙ c.args.tube.now.outer.ok.0 in
    let l = subst (λ (n : ℕ). n ≤ c.args.number) e c.if-number-bays.false in
    let k = outer_number c.args.curve.now c.args.tube.now c.requires.edged c.args.number l
    c.requires.there in
    let f = ap length c.deref.ensures.value in
    omega (arith, e, f, k)

pub outer_edge-requires-clause-distinct : goal.outer_edge-requires-clause-distinct
outer_edge-requires-clause-distinct c =
    subst (λ (ps : List Point). AreDistinct c.args.curve.now.from (ps ++ c.args.curve.now.to ∷ []))
    (sym c.deref.ensures.value) c.requires.edged.outer_distinct

pub returns-then-number-bays : goal.returns-then-number-bays
returns-then-number-bays c =
    let k = c.args.curve.now in
    let t = c.args.tube.now in
    let n = c.args.number in
    let h = c.requires.edged in
    let l = subst (λ (z : ℕ). n < z) (c.len-bays.ensures
    ∙ c.args.tube.now.outer.ok.0) c.if-number-bays.true in
    let m = inner_sizes k t h n l in
    let e = c.index.ensures ∙ one_default t.inner.items n _ no_point (omega (arith, m)) in
    let f = c.index-then-number-bays.ensures ∙ one_default t.inner.items (n + 1) _ no_point m in
    let ends = subst (λ (p : Point). HasEnds c.edge_between.result p (nth t.inner.items (n + 1))) e
    (subst (λ (q : Point). HasEnds c.edge_between.result c.index.result.now q) f
    c.edge_between.ensures.ends) in
    inner_edge k t h n c.edge_between.result l c.edge_between.ensures.sorted ends

pub returns-else-number-bays : goal.returns-else-number-bays
returns-else-number-bays c =
    let k = c.args.curve.now in
    let e = c.len-bays.ensures ∙ c.args.tube.now.outer.ok.0 in
    let l = subst (λ (n : ℕ). n ≤ c.args.number) e c.if-number-bays.false in
    c.outer_edge.ensures
    ∙ ap (λ (n : ℕ). edge_of (chain_edges k.from (c.deref.result.now ++ k.to ∷ []))
    (c.args.number - n)) e
    ∙ ap (λ (ps : List Point). edge_of (chain_edges k.from (ps ++ k.to ∷ []))
    (c.args.number - length c.args.tube.now.outer.items)) c.deref.ensures.value
    ∙ outer_edge k c.args.tube.now c.requires.edged c.args.number l
