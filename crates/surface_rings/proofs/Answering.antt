-- The answer, from what the bodies found.
use Rattle.std.proofs.Common.{◌≡◌, ℕ, ◌<◌, ◌⊎◌, inl, inr, Bool, List, [], length, arith, ap, sym}
use Rattle.std.proofs.Common.{◌∙◌, subst}
use Rattle.plane.specs.declared.kinds.Edge.{Edge}
use Rattle.plane.specs.declared.window.Window2.{Window2}
use Rattle.plane.specs.Lists.{Each}
use Rattle.plane.specs.Faces.DrawnRuns.{IsRunOf}
use Rattle.plane.specs.Faces.Parity.{EvenEnds, chosen, crosses_vertical, parity}
use Rattle.plane.specs.Faces.Regions.{Bridged, IsEvenStep, IsInRegion, every}
use Rattle.plane.specs.Forms.Meets.{Bad}
use Rattle.plane.specs.Forms.Vectors.{Vector}
use Rattle.plane.specs.Rule.Plans.{Plan}
use Rattle.plane.specs.Runs.Moves.{Fit, Move, steps_from}
use Rattle.plane.specs.Runs.Steps.{Run}
use Rattle.straight_predicates.specs.EdgeLists.{edge_of, no_edge}
use Rattle.surface_rings.specs.Surfaces.{HasOneInnerSide, HasParts, IsClear, IsInside, IsMeeting}
use Rattle.surface_rings.specs.Surfaces.{SurfaceHolds, drawing_of}
use Rattle.surface_rings.specs.Working.{AreEvenMoves, AreFloors, floor_in}
use Rattle.surface_rings.proofs.EvenSteps.{even_steps}
use Rattle.surface_rings.proofs.OddEnds.{even_list}
use Rattle.surface_rings.proofs.PlaneLaws.{edges_run, even_run, listed_parity, run_crossed, run_one}
use Rattle.surface_rings.proofs.PlaneLaws.{run_some, run_two, straights_count}

module _ (u : Window2) (edges : List Edge) (vs : List Move)
    (run : Run (length edges) (edge_of edges) (steps_from [] vs)) (fit : Fit [] vs)
    (floors : List Bool)
    (even : AreEvenMoves vs) (are : AreFloors (length edges) vs (length vs) floors)
    (clear : IsClear edges) (some : 0 < length edges) where
  abbrev d : Plan
  d = drawing_of u edges

  abbrev E : ℕ → Edge
  E = edge_of edges

  on : IsRunOf d E (steps_from [] vs)
  on = edges_run u (length edges) E (steps_from [] vs) run

  steps : Each (IsEvenStep (floor_in floors)) (steps_from [] vs)
  steps = even_steps (length edges) vs floors fit even are

  count : length d.curves ≡ length edges
  count = straights_count E (length edges)

  even_ends : EvenEnds edges
  even_ends = even_list edges
      (even_run (floor_in floors) (length edges) E (steps_from [] vs) run steps)

  same_parity : (z : Vector)
      → parity (crosses_vertical z) edges
      ≡ parity (crosses_vertical z) (chosen every (length d.curves) E)
  same_parity z = listed_parity (crosses_vertical z) edges no_edge
      ∙ ap (λ (m : ℕ). parity (crosses_vertical z) (chosen every m E)) (sym count)

  to_region : (z : Vector) → IsInside u edges z → IsInRegion d E z
  to_region z i = record { place = i.place; off = i.off; odd = sym (same_parity z) ∙ i.odd }

  from_region : (z : Vector) → IsInRegion d E z → IsInside u edges z
  from_region z i = record { place = i.place; off = i.off; odd = same_parity z ∙ i.odd }

  inside : (e : ℕ) → e < length edges → e < length d.curves
  inside e l = omega (arith, l, count)

  pub one_side : HasOneInnerSide u edges
  one_side e p q l x =
      elim (run_crossed d E (steps_from [] vs) on (floor_in floors) steps e (inside e l) p q x) [
        | inl (i, n) ↦ inl (from_region p i, λ j. n (to_region q j))
        | inr (i, n) ↦ inr (from_region q i, λ j. n (to_region p j))
      ]

  pub holds : ((e f : ℕ) → e < length edges → f < length edges → Bridged vs (floor_in floors) e f)
      → SurfaceHolds u edges
  holds all = record {
    clear = clear;
    even = even_ends;
    some = (let z = run_some d E (steps_from [] vs) on (floor_in floors) steps 0 (inside 0 some) in
        (z.0, from_region z.0 z.1));
    connected = λ p q i j. run_one d E vs on fit (floor_in floors) steps
        (λ e f l k. all e f (omega (arith, l, count)) (omega (arith, k, count))) p q (to_region p i)
        (to_region q j);
  }

  pub parts : (e : ℕ) → e < length edges → (Bridged vs (floor_in floors) e 0 → ⊥) → HasParts u edges
  parts e l apart = record {
    clear = clear;
    even = even_ends;
    apart = λ all.
        let (p, q, i, j, n) = run_two d E vs on fit (floor_in floors) steps e 0 (inside e l)
        (inside 0 some) apart in
        n (all p q (from_region p i) (from_region q j));
  }

-- of two edges that meet badly the lesser is named first
bad_turned : (a b : Edge) → Bad a b → Bad b a
bad_turned a b x = record {
  at = x.at;
  place = x.place;
  of_first = x.of_second;
  of_second = x.of_first;
  no_end = λ c. x.no_end (record {
    at = c.at;
    of_first = c.of_second;
    of_second = c.of_first;
    is = c.is;
  });
}

pub meeting : (edges : List Edge) (a b low high : ℕ) → a < length edges → b < length edges
    → (a ≡ b → ⊥) → Bad (edge_of edges a) (edge_of edges b)
    → ((low ≡ a) × (high ≡ b) × (a < b)) ⊎ ((low ≡ b) × (high ≡ a) × (b < a))
    → IsMeeting edges low high
meeting edges a b low high l k n x (inl (p, q, r)) =
    subst (λ (i : ℕ). IsMeeting edges i high) (sym p)
    (subst (λ (j : ℕ). IsMeeting edges a j) (sym q) (record { less = r; within = k; bad = x }))
meeting edges a b low high l k n x (inr (p, q, r)) =
    subst (λ (i : ℕ). IsMeeting edges i high) (sym p)
    (subst (λ (j : ℕ). IsMeeting edges b j) (sym q) (record {
      less = r;
      within = l;
      bad = bad_turned (edge_of edges a) (edge_of edges b) x;
    }))
