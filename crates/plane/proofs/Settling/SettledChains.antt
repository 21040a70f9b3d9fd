-- In a settled drawing the half-edges of one chain of a tube are each other's next ones, on both
-- sides, and so are those of the two chains
-- at the first corner, inside: so a tube has one face within, one along its inner chain and one
-- along its outer chain.
use Rattle.std.proofs.Common.{◌≡◌, ℕ, ◌<◌, ◌⊎◌, inl, inr, List, ◌∷◌, ℤ, refl, arith, ap, sym, ◌∙◌}
use Rattle.std.proofs.Common.{subst}
use Rattle.std.proofs.lemmas.Int.{ints}
use Rattle.plane.specs.Lists.{Has}
use Rattle.plane.specs.Forms.Vectors.{Edge}
use Rattle.plane.specs.Forms.Meets.{IsEnd}
use Rattle.plane.specs.Rule.BadPairs.{IsEndOf}
use Rattle.plane.specs.Rule.Plans.{Plan, curve, IsHalfArc}
use Rattle.plane.specs.Runs.Steps.{Step, Run, WeighedRun}
use Rattle.plane.specs.Faces.Replays.{Replay, replay}
use Rattle.plane.specs.Faces.Halves.{Half, under, over, edge_of, twin}
use Rattle.plane.specs.Faces.Classes.{Next}
use Rattle.plane.specs.Faces.Directions.{origin}
use Rattle.plane.specs.Tubes.Windings.{bounds}
use Rattle.plane.specs.Tubes.Facing.{way}
use Rattle.plane.proofs.Settling.EdgesAndTubes.{DrawnTube, IsTubeOf, EdgeList, IsEdgeList}
use Rattle.plane.proofs.Settling.EdgesSettled.{IsSettled}
use Rattle.plane.proofs.Windings.Ways.{half_or_twin}
use Rattle.plane.proofs.Windings.TileCorners.{arrow_end}
use Rattle.plane.proofs.Settling.DrawnTubes.{of_tube}
use Rattle.plane.proofs.OneTube.TubeArrows.{starts_one, arrives_one, origin_way, origin_twin}
use Rattle.plane.proofs.OneTube.TubeArrows.{once_half}
use Rattle.plane.proofs.Turning.HalfWays as ways
use Rattle.plane.proofs.Turning.HalfWays.{edge_twin, twin_twin}
use Rattle.plane.proofs.ListLemmas.Lists.{has_map}

module _ (d : Plan) (l : EdgeList) (is : IsEdgeList d l) (settled : IsSettled d l)
    (steps : List Step) (complete : Run l.edges l.edge steps) (w : ℤ)
    (swept : WeighedRun w l.edges l.edge steps) where
  abbrev r : Replay
  r = replay w l.edges l.edge steps

  pub way_flat : (g : Half) → edge_of g < l.edges → (way l.edge g).low ≡ (way l.edge g).high → ⊥
  way_flat = ways.way_flat l.edges l.edge steps complete w swept

  way_one : (f g : Half) → edge_of f < l.edges → edge_of g < l.edges → way l.edge f ≡ way l.edge g
      → edge_of f ≡ edge_of g
  way_one = ways.way_one l.edges l.edge steps complete w swept

  next_two : (h f : Half) → edge_of h < l.edges → edge_of f < l.edges
      → origin l.edge f ≡ origin l.edge (twin h) → (f ≡ twin h → ⊥)
      → ((x : Half) → edge_of x < l.edges → origin l.edge x ≡ origin l.edge (twin h)
      → (x ≡ twin h) ⊎ (x ≡ f)) → Next r h f
  next_two = ways.next_two l.edges l.edge steps complete w swept

  module _ (i : ℕ) (h : IsHalfArc d i) where
    abbrev t : DrawnTube
    t = l.tube i

    abbrev walls : List Edge
    walls = bounds t.arc.from (t.bay ∷ t.bays)

    tube : IsTubeOf l.edges l.edge (curve d i) (l.tube i)
    tube = is.tubes i h

    on_walls : (g : Half) → Has g t.halves → Has (way l.edge g) walls
    on_walls g m =
        subst (λ (es : List Edge). Has (way l.edge g) es) (sym tube.bounds)
        (has_map (way l.edge) g t.halves m)

    starts_at : (f g : Half) → Has f t.halves → Has g t.halves
        → (way l.edge f).low ≡ (way l.edge g).low → edge_of f ≡ edge_of g
    starts_at f g mf mg e =
        way_one f g (tube.fits f mf) (tube.fits g mg)
        (starts_one t.arc t.arc.from t.arc.from (t.bay ∷ t.bays) (way l.edge f)
        (way l.edge g) tube.tube.are_bays (on_walls f mf) (on_walls g mg) e)

    arrives_at : (f g : Half) → Has f t.halves → Has g t.halves
        → (way l.edge f).high ≡ (way l.edge g).high → edge_of f ≡ edge_of g
    arrives_at f g mf mg e =
        way_one f g (tube.fits f mf) (tube.fits g mg)
        (arrives_one t.arc t.arc.from t.arc.from (t.bay ∷ t.bays) (way l.edge f) (way l.edge g)
        (omega (arith, ints)) tube.tube.are_bays (on_walls f mf) (on_walls g mg) e)

    -- an edge of the tube at a corner is that of the bound that arrives there or of the one that
    -- starts there
    pub at_corner : (g f : Half) → Has g t.halves → Has f t.halves
        → (way l.edge g).high ≡ (way l.edge f).low → (e : Half) → Has e t.halves
        → IsEnd (l.edge (edge_of e)) (way l.edge f).low
        → (edge_of e ≡ edge_of g) ⊎ (edge_of e ≡ edge_of f)
    at_corner g f mg mf q e me x = elim (end_way e x) [
      | inl y ↦ inr (starts_at e f me mf y)
      | inr y ↦ inl (arrives_at e g me mg (y ∙ sym q))
    ]
      where
        end_way : (e : Half) → IsEnd (l.edge (edge_of e)) (way l.edge f).low
            → ((way l.edge e).low ≡ (way l.edge f).low) ⊎ ((way l.edge e).high ≡ (way l.edge f).low)
        end_way (over a) x = x
        end_way (under a) (inl x) = inr x
        end_way (under a) (inr x) = inl x

    module _ (g f : Half) (mg : Has g t.halves) (mf : Has f t.halves)
        (meet : (way l.edge g).high ≡ (way l.edge f).low) where
      pub twin_other : f ≡ twin g → ⊥
      twin_other e =
          way_flat g (tube.fits g mg)
          (go_round (once_half t.halves f g tube.once mf mg (ap edge_of e ∙ edge_twin g)))
        where
          go_round : f ≡ g → (way l.edge g).low ≡ (way l.edge g).high
          go_round e = sym (ap (λ (x : Half). (way l.edge x).low) e) ∙ sym meet

      -- of the two edges
      pub by_edge : (x : Half) → origin l.edge x ≡ (way l.edge f).low
          → (edge_of x ≡ edge_of g) ⊎ (edge_of x ≡ edge_of f) → (x ≡ twin g) ⊎ (x ≡ f)
      by_edge x o (inl e) = elim (half_or_twin g x (sym e)) [
        | inl y ↦ absurd
            (way_flat g (tube.fits g mg) (sym (origin_way l.edge g) ∙ sym (ap (origin l.edge) y) ∙ o
            ∙ sym meet))
        | inr y ↦ inl y
      ]
      by_edge x o (inr e) = elim (half_or_twin f x (sym e)) [
        | inl y ↦ inr y
        | inr y ↦ absurd
            (way_flat f (tube.fits f mf) (sym o ∙ ap (origin l.edge) y ∙ origin_twin l.edge f))
      ]

      module _ (no_end : IsEndOf (curve d i) (way l.edge f).low → ⊥) where
        only_two : (x : Half) → edge_of x < l.edges → origin l.edge x ≡ (way l.edge f).low
            → (x ≡ twin g) ⊎ (x ≡ f)
        only_two x lx o =
            elim (settled.own i h f mf (way l.edge f).low
            (arrow_end l.edge f (way l.edge f).low (inl refl))) [
              | inl e ↦ absurd (no_end e)
              | inr own ↦
                  let at_x = arrow_end l.edge x (way l.edge f).low
                  (inl (sym (origin_way l.edge x) ∙ o)) in
                  let m = of_tube d l is i h (edge_of x) lx (own (edge_of x) lx at_x) in
                  let k = at_corner g f mg mf meet m.0 m.1
                  (subst (λ (e : ℕ). IsEnd (l.edge e) (way l.edge f).low) (sym m.2) at_x) in
                  by_edge x o (elim k [ inl e ↦ inl (sym m.2 ∙ e) | inr e ↦ inr (sym m.2 ∙ e) ])
            ]

        pub next_inside : Next r g f
        next_inside =
            next_two g f (tube.fits g mg) (tube.fits f mf) (origin_way l.edge f ∙ sym meet
            ∙ sym (origin_twin l.edge g)) twin_other
            (λ x lx o. only_two x lx (o ∙ origin_twin l.edge g ∙ meet))

        pub next_outside : Next r (twin f) (twin g)
        next_outside =
            next_two (twin f) (twin g)
            (subst (λ (e : ℕ). e < l.edges) (sym (edge_twin f)) (tube.fits f mf))
            (subst (λ (e : ℕ). e < l.edges) (sym (edge_twin g)) (tube.fits g mg))
            (origin_twin l.edge g ∙ meet
            ∙ sym (ap (origin l.edge) (twin_twin f) ∙ origin_way l.edge f))
            (λ e. twin_other (sym (e ∙ twin_twin f)))
            (λ x lx o. elim (only_two x lx (o ∙ ap (origin l.edge) (twin_twin f)
            ∙ origin_way l.edge f)) [ inl e ↦ inr e | inr e ↦ inl (e ∙ sym (twin_twin f)) ])
