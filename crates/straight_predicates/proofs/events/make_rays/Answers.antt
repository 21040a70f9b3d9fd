use Rattle.std.proofs.Common.{ap, ◌∙◌, sym, subst, ℕ, ◌++◌, ◌∷◌, [], All}
use Rattle.std.proofs.lemmas.List.Elements.{All-push}
use Rattle.straight_predicates.specs.Slopes.{IsRayOf, ray_edges}
use Rattle.straight_predicates.proofs.Groups.{edges_more, starting_low, starting_high}
use Rattle.straight_predicates.proofs.events.make_rays.Goals as goal
use Rattle.straight_predicates.proofs.events.make_rays.Goals.{then-end+in_ok-push, else-end}

pub loop-end-preserved : goal.loop-end-preserved
loop-end-preserved c =
    elim c.if-end.branch [
      | then-end+in_ok-push w ↦
          let e = ap (λ v. v.items) w.rays-is ∙ w.in_ok-push.ensures.items in
          record {
            edges_of =
                starting_low c.args.group.now c.loop-end.end-index _ c.loop-end-test.true
                (ray_edges c.loop-end.rays.items) (ray_edges c.if-end.rays.items)
                w.if-end.true c.loop-end.invariant.edges_of
                (ap ray_edges e ∙ edges_more c.loop-end.rays.items w.ray_of.result
                ∙ ap (λ (n : ℕ). ray_edges c.loop-end.rays.items ++ n ∷ []) w.ray_of.ensures.edge);
            directions = subst (All (IsRayOf c.args.edges.now)) (sym e)
                (All-push (IsRayOf c.args.edges.now) c.loop-end.rays.items w.ray_of.result
                c.loop-end.invariant.directions w.ray_of.ensures.direction);
          }
      | else-end w ↦
          let e = ap (λ v. v.items) w.rays-is in
          record {
            edges_of =
                starting_high c.args.group.now c.loop-end.end-index _ c.loop-end-test.true
                (ray_edges c.loop-end.rays.items) (ray_edges c.if-end.rays.items)
                w.if-end.false c.loop-end.invariant.edges_of (ap ray_edges e);
            directions = subst (All (IsRayOf c.args.edges.now)) (sym e)
                c.loop-end.invariant.directions;
          }
    ]
