use Rattle.std.proofs.Common.{◌≡◌, ℕ, suc, length, map, List, [], ◌∷◌, ◌++◌, refl, sym, ap, ◌∙◌}
use Rattle.std.proofs.Common.{arith, append-nil, append_assoc, inl, inr, rules}
use Rattle.std.proofs.lemmas.List.{map-append}
use Rattle.plane.specs.declared.kinds.Placed.{Placed}
use Rattle.plane.specs.declared.kinds.Point.{Point}
use Rattle.std.specs.Slice.Iter.{iter_rest}
use Rattle.polygons.specs.Leading.{shapes}
use Rattle.polygons.specs.Outlines.{outlines}
use Rattle.polygons.specs.Text.{Object, object_view, with_lines}
use Rattle.polygons.specs.declared.areas.ObjectPolygon.{ObjectPolygon}
use Rattle.polygons.specs.declared.kinds.Polygon.{Polygon}
use Rattle.polygons.proofs.areas.with_lines.Goals as goal

-- one object more
more : (points : List Placed) (a : Placed) (rest : List Placed) (ps : List Polygon) (p : Polygon)
    (left : List Polygon) (old new : List ObjectPolygon) (all : List Object) → points ≡ a ∷ rest
    → ps ≡ p ∷ left → new ≡ old ++ record { line = a.line; polygon = p } ∷ []
    → map object_view old ++ with_lines points (outlines ps) ≡ all
    → map object_view new ++ with_lines rest (outlines left) ≡ all
more points a rest ps p left old new all e f g h =
    let step : with_lines points (outlines ps) ≡ record {
      line = a.line;
      rings = shapes p.rings.items;
    } ∷ with_lines rest (outlines left) =
    ap (λ (qs : List Placed). with_lines qs (outlines ps)) e
    ∙ ap (λ (qs : List Polygon). with_lines (a ∷ rest) (outlines qs)) f in
    ap (λ (os : List ObjectPolygon). map object_view os ++ with_lines rest (outlines left)) g
    ∙ ap (λ (os : List Object). os ++ with_lines rest (outlines left))
    (map-append object_view old (record { line = a.line; polygon = p } ∷ []))
    ∙ append_assoc (map object_view old) (record {
      line = a.line;
      rings = shapes p.rings.items;
    } ∷ []) (with_lines rest (outlines left))
    ∙ ap (λ (os : List Object). map object_view old ++ os) (sym step)
    ∙ h

-- no point is left
ended : (points : List Placed) (os : List (List (List Point))) (old : List Object)
    (all : List Object)
    → length points ≡ 0 → old ++ with_lines points os ≡ all → old ≡ all
ended [] os old all e h = sym (append-nil old) ∙ h
ended (p ∷ points) os old all e h = absurd (omega (arith, e))

pub loop-point-init : goal.loop-point-init
loop-point-init c =
    let second = c.zip-point-items.ensures.second in
    let whole = c.into_iter-point-iterator.ensures.into_iter_gives in
    let points : iter_rest c.into_iter-point-iterator.result.a
    ≡ c.args.points.now = ap (λ z. iter_rest z.a) whole
    ∙ ap iter_rest c.zip-point-items.ensures.first ∙ c.iter.ensures.rest in
    let polygons : c.into_iter-point-iterator.result.b.rest.items
    ≡ c.args.polygons.items = ap (λ z. z.b.rest.items) whole ∙ second.0 in
    let size : c.into_iter-point-iterator.result.b.rest.len
    ≡ length c.args.polygons.items = ap (λ z. z.b.rest.len) whole ∙ second.1
    ∙ (let h = c.len.ensures in search rules) in
    record {
      can_next = (tt, tt);
      is_finite = tt;
      count = ap length points ∙ sym c.requires ∙ sym size;
      goes_on = ap (λ (os : List ObjectPolygon). map object_view os
          ++ with_lines (iter_rest c.into_iter-point-iterator.result.a)
          (outlines c.into_iter-point-iterator.result.b.rest.items)) c.in_ok-objects.ensures.items
          ∙ ap (λ (ps : List Placed). with_lines ps
          (outlines c.into_iter-point-iterator.result.b.rest.items)) points
          ∙ ap (λ (ps : List Polygon). with_lines c.args.points.now (outlines ps)) polygons;
    }

pub loop-point-preserved : goal.loop-point-preserved
loop-point-preserved c = let h = c.in-Some.ensures.steps in record {
  can_next = (tt, tt);
  is_finite = tt;
  count =
      let k = c.loop-point.invariant.count in let e = ap length h.0 in omega (arith, k, e, h.1.1);
  goes_on = more (iter_rest c.loop-point.point-iterator.a) c.in-Some.point.now
      (iter_rest c.next.new.self.a) c.loop-point.point-iterator.b.rest.items c.in-Some.polygon
      c.next.new.self.b.rest.items
      c.loop-point.objects.items c.push.new.self.items _ h.0 h.1.0 c.in_ok-push.ensures.items
      c.loop-point.invariant.goes_on;
}

pub returns : goal.returns
returns c =
    let k = c.loop-point.invariant.count in
    ended (iter_rest c.loop-point.point-iterator.a) _ _ _
    (elim c.in-None.ensures.steps as (λ z. length (iter_rest c.loop-point.point-iterator.a) ≡ 0)
    [ inl f ↦ f.1.0 | inr s ↦ k ∙ s.1.0 ])
    c.loop-point.invariant.goes_on
