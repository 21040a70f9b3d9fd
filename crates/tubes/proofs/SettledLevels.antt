-- A level settles a drawing exactly where a complete run over its edges there is settled.
use Rattle.std.proofs.Common.{◌≡◌, ◌⊎◌, inl, inr, ℕ, suc, ◌+◌, ◌*◌, ◌<◌, ◌^◌, List, [], ◌∷◌, length}
use Rattle.std.proofs.Common.{get_or, map, None, arith, add-one, ap, sym, ◌∙◌, subst}
use Rattle.plane.specs.CurveRuns.Levels.{AreWide, IsSettledDrawing, IsSettledRun}
use Rattle.plane.specs.CurveRuns.TubedRuns as runs
use Rattle.plane.specs.Faces.Replays.{no_step}
use Rattle.plane.specs.Forms.Meets.{IsEnd}
use Rattle.plane.specs.Lists.{Has}
use Rattle.plane.specs.Rule.Plans.{Plan, curve}
use Rattle.plane.specs.Runs.Steps.{AtSome, Run, Step}
use Rattle.plane.specs.Runs.Timetables.{IsTimetable, Timed}
use Rattle.plane.specs.Tubes.Bays.{Bay, IsSome}
use Rattle.plane.specs.declared.kinds.Edge.{Edge}
use Rattle.plane.specs.declared.kinds.Point.{Point}
use Rattle.plane.proofs.Runs.Numbered.{index_of}
use Rattle.plane.proofs.Runs.RunLaws.{run_meets}
use Rattle.straight_predicates.specs.EdgeEvents.{event_of}
use Rattle.straight_predicates.specs.EdgeLists.{edge_of}
use Rattle.tubes.specs.Settled.{HaveTubes, IsFirstForeign, IsOwnCorner, IsSettledAt, edge_at}
use Rattle.tubes.specs.Settled.{edges_at, owned_at}
use Rattle.tubes.specs.TubedEdges.{IsTubedList, drawn_bays}
use Rattle.tubes.specs.declared.kinds.EdgeList.{EdgeList}
use Rattle.tubes.proofs.LevelEdges.{bay_count}
use Rattle.tubes.proofs.ListedEdges.{edge_by_number, count_by_curves, tube_by_number}
use Rattle.tubes.proofs.TubePoints.{power_positive}

pub wide : (d : Plan) (level : ℕ → ℕ) → HaveTubes d level → AreWide d (drawn_bays d level)
wide d level tubes i l h =
    let p = power_positive (level i) in
    let e = bay_count d level i (tubes i (record { there = l; kind = h })) in
    two (drawn_bays d level i) (omega (arith, e, twice (level i), p))
  where
    double : (n : ℕ) → 2 ^ suc n ≡ 2 * 2 ^ n
    double n = omega arith

    twice : (n : ℕ) → 2 ^ (n + 1) ≡ 2 * 2 ^ n
    twice n = ap (λ (k : ℕ). 2 ^ k) (add-one n) ∙ double n

    two : (bs : List Bay) → 1 < length bs → IsSome (runs.later_bays bs)
    two [] l = absurd (omega (arith, l))
    two (b ∷ []) l = absurd (omega (arith, l))
    two (b ∷ (c ∷ bs)) l = tt

-- ---- a complete run over the list, whose corners are their own
pub tubed_run : (d : Plan) (level : ℕ → ℕ) (list : EdgeList) (steps : List Step)
    → IsTubedList d level list → ((p : Point) → IsOwnCorner d level p)
    → Run (length list.edges.items) (edge_of list.edges.items) steps
    → runs.IsTubedRun d (drawn_bays d level) (length list.edges.items)
    (edge_of list.edges.items) steps
tubed_run d level list steps t own run = record {
  tube = λ i l h. tube_by_number d level i (t.tubes i (record { there = l; kind = h }));
  count = count_by_curves d level list t;
  edge = λ e l. edge_by_number d level list t e l;
  run = run;
  corner = λ k e f l. subst (λ (es : List Edge). e < length es → f < length es
      → runs.IsOfTube (owned_at d level e).part → IsEnd (edge_of es e) (get_or steps k no_step).at
      → IsEnd (edge_of es f) (get_or steps k no_step).at
      → ((get_or steps k no_step).at ≡ (curve d (owned_at d level e).curve).from)
      ⊎ (((get_or steps k no_step).at ≡ (curve d (owned_at d level e).curve).to)
      ⊎ ((owned_at d level f).curve ≡ (owned_at d level e).curve)))
      (sym t.edges) (own (get_or steps k no_step).at e f);
}

pub settled_run : (d : Plan) (level : ℕ → ℕ) (list : EdgeList) (steps : List Step)
    → IsTubedList d level list → IsSettledAt d level
    → Run (length list.edges.items) (edge_of list.edges.items) steps
    → IsSettledDrawing d (drawn_bays d level) (length list.edges.items)
    (edge_of list.edges.items) steps
settled_run d level list steps t s run = record {
  run = tubed_run d level list steps t s.corners run;
  wide = wide d level t.tubes;
  settled = subst (λ (es : List Edge). IsSettledRun d (drawn_bays d level) (length es) (edge_of es))
      (sym t.edges) s.triangles;
}

-- ---- the other way
-- the step of an end
step_of_end : (m : ℕ) (E : ℕ → Edge) (steps : List Step) (e : ℕ) (p : Point) → Run m E steps → e < m
    → IsEnd (E e) p → (k : ℕ) × (k < length steps) × ((get_or steps k no_step).at ≡ p)
step_of_end m E steps e p run l h = by_end h
  where
    at_some : (q : Point) → AtSome q steps → q ≡ p
        → (k : ℕ) × (k < length steps) × ((get_or steps k no_step).at ≡ p)
    at_some q (s, a, b) c =
        let i = index_of steps s a in (i.0, i.1, ap (λ (s : Step). s.at) i.2 ∙ sym b ∙ c)

    by_end : IsEnd (E e) p → (k : ℕ) × (k < length steps) × ((get_or steps k no_step).at ≡ p)
    by_end (inl c) = at_some (E e).low (run.ends e l).0 c
    by_end (inr c) = at_some (E e).high (run.ends e l).1 c

pub level_settled : (d : Plan) (level : ℕ → ℕ) (steps : List Step) → HaveTubes d level
    → IsSettledDrawing d (drawn_bays d level) (length (edges_at d level)) (edge_at d level) steps
    → IsSettledAt d level
level_settled d level steps tubes s = record {
  tubes = tubes;
  meet = λ e f l k n. run_meets (length (edges_at d level))
      (edge_at d level) steps s.run.run e f l k n;
  corners = λ p e f l k t a b.
      let i = step_of_end (length (edges_at d level)) (edge_at d level) steps e p s.run.run l a in
      subst (λ (q : Point). IsEnd (edge_at d level e) q → IsEnd (edge_at d level f) q
      → (q ≡ (curve d (owned_at d level e).curve).from)
      ⊎ ((q ≡ (curve d (owned_at d level e).curve).to)
      ⊎ ((owned_at d level f).curve ≡ (owned_at d level e).curve)))
      i.2 (s.run.corner i.0 e f i.1 l k t) a b;
  triangles = s.settled;
}

-- ---- corners by events
event_of_point : (table : List Timed) (p : Point) → Has p (map (λ (t : Timed). t.at) table)
    → (k : ℕ) × (k < length table) × ((event_of table k).at ≡ p)
event_of_point [] p h = absurd h
event_of_point (t ∷ table) p (inl e) = (0, omega arith, sym e)
event_of_point (t ∷ table) p (inr h) =
    let (k, l, e) = event_of_point table p h in (suc k, omega (arith, l), e)

pub own_corners : (d : Plan) (level : ℕ → ℕ) (table : List Timed)
    → IsTimetable (length (edges_at d level)) (edge_at d level) table
    → IsFirstForeign d level table None → (p : Point) → IsOwnCorner d level p
own_corners d level table h own p e f l k t a b =
    let i = event_of_point table p (by_end a) in
    subst (λ (q : Point). IsEnd (edge_at d level e) q → IsEnd (edge_at d level f) q
    → (q ≡ (curve d (owned_at d level e).curve).from)
    ⊎ ((q ≡ (curve d (owned_at d level e).curve).to)
    ⊎ ((owned_at d level f).curve ≡ (owned_at d level e).curve)))
    i.2 (own i.0 i.1 e f l k t) a b
  where
    by_end : IsEnd (edge_at d level e) p → Has p (map (λ (t : Timed). t.at) table)
    by_end (inl c) =
        subst (λ (q : Point). Has q (map (λ (t : Timed). t.at) table)) c (h.events.ends e l).0
    by_end (inr c) =
        subst (λ (q : Point). Has q (map (λ (t : Timed). t.at) table)) c (h.events.ends e l).1
