-- Curves at levels of their own: fit, and clear exactly where unbroken.
use Rattle.std.proofs.Common.{◌≡◌, ◌↔◌, ◌⊎◌, inl, inr, ℕ, suc, ◌+◌, ◌*◌, ◌^◌, ◌<◌, ◌≤◌, Bool, true, false}
use Rattle.std.proofs.Common.{cond, List, [], ◌∷◌, length, refl, arith, ap, ◌∙◌, add-one}
use Rattle.plane.specs.declared.kinds.Edge.{Edge}
use Rattle.plane.specs.declared.kinds.Point.{Point}
use Rattle.plane.specs.CurveRuns.TubedRuns as runs
use Rattle.plane.specs.Forms.Meets.{Bad}
use Rattle.plane.specs.Lists.{Has}
use Rattle.plane.specs.Rule.Plans.{Plan, curve}
use Rattle.plane.specs.Tubes.Bays.{Bay, IsSome}
use Rattle.plane.specs.Tubes.Windings.{arrow}
use Rattle.straight_predicates.proofs.Orders.{by_lt}
use Rattle.tubes.specs.DrawnEdges.{comes_first, edge_from}
use Rattle.tubes.specs.Settled as level
use Rattle.tubes.specs.Settled.{Breaks}
use Rattle.tubes.specs.TubedEdges.{edge_as}
use Rattle.tubes.proofs.LevelEdges.{bay_count}
use Rattle.tubes.proofs.ListedEdges.{tube_by_number}
use Rattle.tubes.proofs.TubePoints.{power_positive}
use Rattle.left_out_arcs.specs.OwnTubes as own
use Rattle.left_out_arcs.specs.OwnTubes.{AreAllClear, AreAllFit, AreClear, BreaksAgainst, IsFit, as_of}
use Rattle.left_out_arcs.specs.OwnTubes.{edges, enters, shares, lies, edges_by}
use Rattle.left_out_arcs.proofs.OwnEdges.{edges_as, way_end, end_way}
use Rattle.left_out_arcs.proofs.Unbroken.{arrows_bad, as_arrow, clear_is_unbroken, unbroken_is_clear}
use Rattle.own_levels.specs.Levels.{bays_by, group_by, HasGroupBy, EndsAtBy, EdgesMeetBy}
use Rattle.own_levels.specs.Levels.{BreaksOneWayBy}
use Rattle.own_levels.specs.Levels.{BreakBy}

-- ---- fit
two_bays : (bs : List Bay) (level : ℕ) → length bs ≡ 2 ^ (level + 1) → IsSome (runs.later_bays bs)
two_bays bs level e =
    let p = power_positive level in
    two bs (omega (arith, e, twice level, p))
  where
    double : (n : ℕ) → 2 ^ suc n ≡ 2 * 2 ^ n
    double n = omega arith

    twice : (n : ℕ) → 2 ^ (n + 1) ≡ 2 * 2 ^ n
    twice n = ap (λ (k : ℕ). 2 ^ k) (add-one n) ∙ double n

    two : (bs : List Bay) → 1 < length bs → IsSome (runs.later_bays bs)
    two [] l = absurd (omega (arith, l))
    two (b ∷ []) l = absurd (omega (arith, l))
    two (b ∷ (c ∷ bs)) l = tt

pub group_fit : (g : Plan) (levels : ℕ → ℕ) (i : ℕ) → HasGroupBy g levels i
    → ((curve g i).from ≡ (curve g i).to → ⊥) → IsFit (curve g i) (bays_by g levels i)
group_fit g levels i group differ = record {
  differ = differ;
  tube = λ e. tube_by_number g levels i (group.tube (record { there = group.there; kind = e }));
  wide = λ e. two_bays (bays_by g levels i) (levels i)
      (bay_count g levels i (group.tube (record { there = group.there; kind = e })));
}

-- ---- edges and their ends
pub joins : (p q : Point) → runs.Connects (edge_from p q) p q
joins p q = by_test (comes_first p q)
  where
    by_test : (b : Bool)
        → runs.Connects (cond b (record { low = p; high = q }) (record { low = q; high = p })) p q
    by_test true = inl (refl, refl)
    by_test false = inr (refl, refl)

-- from an arrow to the edge
edges_bad : (p q r s : Point) → Bad (arrow p q) (arrow r s) → Bad (edge_from p q) (edge_from r s)
edges_bad p q r s bad =
    arrows_bad (arrow p q) (arrow r s) (edge_from p q).low (edge_from p q).high
    (edge_from r s).low (edge_from r s).high (as_arrow (edge_from p q) p q (joins p q))
    (as_arrow (edge_from r s) r s (joins r s)) bad

bad_back : (a b : Edge) → Bad a b → Bad b a
bad_back a b bad = record {
  at = bad.at;
  place = bad.place;
  of_first = bad.of_second;
  of_second = bad.of_first;
  no_end = λ c. bad.no_end (record {
    at = c.at;
    of_first = c.of_second;
    of_second = c.of_first;
    is = c.is;
  });
}

module _ (g : Plan) (levels : ℕ → ℕ) where
  abbrev B : ℕ → List Bay
  B = bays_by g levels

  to_group : (i : ℕ) (o : runs.Owned) → Has o (edges_by (curve g i) (B i))
      → Has (as_of i o) (group_by g levels i)
  to_group i o h = edges_as (curve g i).kind 0 i (curve g i) (B i) o h

  from_group : (i : ℕ) (o : runs.Owned) → Has o (group_by g levels i)
      → Has (as_of 0 o) (edges_by (curve g i) (B i))
  from_group i o h = edges_as (curve g i).kind i 0 (curve g i) (B i) o h

  to_end : (i : ℕ) (p : Point) → own.EndsAt (curve g i) (B i) p → EndsAtBy g levels i p
  to_end i p (o, h, e) =
      (as_of i o, to_group i o h, end_way (edge_from o.from o.to) o.from o.to p (joins o.from o.to) e)

  from_end : (i : ℕ) (p : Point) → EndsAtBy g levels i p → own.EndsAt (curve g i) (B i) p
  from_end i p (o, h, e) = (
    as_of 0 o,
    from_group i o h,
    way_end (edge_from o.from o.to) o.from o.to p
        (joins o.from o.to) e,
  )

  -- what breaks by their edges, in the words of levels
  abbrev OneWay : ℕ → ℕ → Type 0
  OneWay i j = EdgesMeetBy g levels i j ⊎ BreaksOneWayBy g levels i j

  to_way : (i j : ℕ) → i < length g.curves → j < length g.curves
      → BreaksAgainst (curve g i) (B i) (curve g j) (B j) → OneWay i j
  to_way i j li lj (edges o u ho hu bad) =
      inl (
        as_of i o,
        as_of j u,
        to_group i o ho,
        to_group j u hu,
        edges_bad o.from o.to u.from u.to bad,
      )
  to_way i j li lj (enters h) =
      inr (inl (record {
        half_arc = record { there = li; kind = h.half_arc };
        p = h.p;
        ends = to_end j h.p h.ends;
        triangle = h.triangle;
        of_tube = h.of_tube;
        holds = h.holds;
        no_corner = h.no_corner;
      }))
  to_way i j li lj (shares h) =
      inr (inr (inl (record {
        half_arc = record { there = li; kind = h.half_arc };
        p = h.p;
        corner = to_end i h.p h.corner;
        no_end = h.no_end;
        ends = to_end j h.p h.ends;
      })))
  to_way i j li lj (lies h) =
      inr (inr (inr (record {
        straight = record { there = li; kind = h.straight };
        half_arc = record { there = lj; kind = h.half_arc };
        joins = h.joins;
        b = h.b;
        of_tube = h.of_tube;
        no_end = h.no_end;
        low = h.low;
      })))

  from_way : (i j : ℕ) → BreaksOneWayBy g levels i j
      → BreaksAgainst (curve g i) (B i) (curve g j) (B j)
  from_way i j (inl h) =
      enters (record {
        half_arc = h.half_arc.kind;
        p = h.p;
        ends = from_end j h.p h.ends;
        triangle = h.triangle;
        of_tube = h.of_tube;
        holds = h.holds;
        no_corner = h.no_corner;
      })
  from_way i j (inr (inl h)) =
      shares (record {
        half_arc = h.half_arc.kind;
        p = h.p;
        corner = from_end i h.p h.corner;
        no_end = h.no_end;
        ends = from_end j h.p h.ends;
      })
  from_way i j (inr (inr h)) =
      lies (record {
        straight = h.straight.kind;
        half_arc = h.half_arc.kind;
        joins = h.joins;
        b = h.b;
        of_tube = h.of_tube;
        no_end = h.no_end;
        low = h.low;
      })

  from_edges : (i j : ℕ) → EdgesMeetBy g levels i j
      → BreaksAgainst (curve g i) (B i) (curve g j) (B j)
  from_edges i j (o, u, ho, hu, bad) =
      edges (as_of 0 o) (as_of 0 u) (from_group i o ho) (from_group j u hu)
      (arrows_bad (edge_as o) (edge_as u) o.from o.to u.from u.to (joins o.from o.to)
      (joins u.from u.to) bad)

  -- by the order of the numbers
  to_break : (i j : ℕ) → HasGroupBy g levels i → HasGroupBy g levels j → (i ≡ j → ⊥)
      → (BreakBy g levels i j → ⊥) → (BreakBy g levels j i → ⊥) → OneWay i j → ⊥
  to_break i j hi hj n first second way =
      by_lt i j (λ (l : i < j). first (record {
        order = l;
        first = hi;
        second = hj;
        way = elim way [ inl e ↦ inl e | inr w ↦ inr (inl w) ];
      }))
      (λ (l : j ≤ i). by_lt j i (λ (k : j < i). second (record {
        order = k;
        first = hj;
        second = hi;
        way = elim way [ inl e ↦ inl (other e) | inr w ↦ inr (inr w) ];
      }))
      (λ (k : i ≤ j). n (omega (arith, l, k))))
    where
      other : EdgesMeetBy g levels i j → EdgesMeetBy g levels j i
      other (o, u, a, b, bad) = (u, o, b, a, bad_back (edge_as o) (edge_as u) bad)

  pub unbroken_clear : (i j : ℕ) → HasGroupBy g levels i → HasGroupBy g levels j → (i ≡ j → ⊥)
      → ((curve g i).from ≡ (curve g i).to → ⊥) → ((curve g j).from ≡ (curve g j).to → ⊥)
      → (BreakBy g levels i j → ⊥) → (BreakBy g levels j i → ⊥)
      → AreClear (curve g i) (B i) (curve g j) (B j)
  unbroken_clear i j hi hj n di dj first second =
      unbroken_is_clear (curve g i) (curve g j) (B i) (B j) (group_fit g levels i hi di)
      (group_fit g levels j hj dj)
      (λ b. to_break i j hi hj n first second (to_way i j hi.there hj.there b))

  pub clear_unbroken : (i j : ℕ) → AreClear (curve g i) (B i) (curve g j) (B j)
      → AreClear (curve g j) (B j) (curve g i) (B i) → BreakBy g levels i j → ⊥
  clear_unbroken i j first second b = elim b.way [
    | inl e ↦ clear_is_unbroken (curve g i) (curve g j) (B i) (B j) first (from_edges i j e)
    | inr w ↦ elim w [
      | inl x ↦ clear_is_unbroken (curve g i) (curve g j) (B i) (B j) first (from_way i j x)
      | inr x ↦ clear_is_unbroken (curve g j) (curve g i) (B j) (B i) second (from_way j i x)
    ]
  ]

  pub all_fit : ((i : ℕ) → i < length g.curves → HasGroupBy g levels i)
      → ((i : ℕ) → i < length g.curves → (curve g i).from ≡ (curve g i).to → ⊥) → AreAllFit g B
  all_fit groups differ i l = group_fit g levels i (groups i l) (differ i l)

  pub all_clear : ((i : ℕ) → i < length g.curves → HasGroupBy g levels i)
      → ((i : ℕ) → i < length g.curves → (curve g i).from ≡ (curve g i).to → ⊥)
      → ((i j : ℕ) → BreakBy g levels i j → ⊥) → AreAllClear g B
  all_clear groups differ none i j li lj n =
      unbroken_clear i j (groups i li) (groups j lj) n (differ i li) (differ j lj) (none i j)
      (none j i)

-- ---- one level for all
module _ (g : Plan) (l : ℕ) where
  abbrev flat : ℕ → ℕ
  flat k = l

  way_to : (i j : ℕ) → BreaksOneWayBy g flat i j → level.BreaksOneWay g flat i j
  way_to i j (inl h) = inl (record {
    half_arc = h.half_arc;
    p = h.p;
    ends = h.ends;
    triangle = h.triangle;
    of_tube = h.of_tube;
    holds = h.holds;
    no_corner = h.no_corner;
  })
  way_to i j (inr (inl h)) = inr (inl (record {
    half_arc = h.half_arc;
    p = h.p;
    corner = h.corner;
    no_end = h.no_end;
    ends = h.ends;
  }))
  way_to i j (inr (inr h)) = inr (inr (record {
    straight = h.straight;
    half_arc = h.half_arc;
    joins = h.joins;
    b = h.b;
    of_tube = h.of_tube;
    no_end = h.no_end;
    low = h.low;
  }))

  way_back : (i j : ℕ) → level.BreaksOneWay g flat i j → BreaksOneWayBy g flat i j
  way_back i j (inl h) = inl (record {
    half_arc = h.half_arc;
    p = h.p;
    ends = h.ends;
    triangle = h.triangle;
    of_tube = h.of_tube;
    holds = h.holds;
    no_corner = h.no_corner;
  })
  way_back i j (inr (inl h)) = inr (inl (record {
    half_arc = h.half_arc;
    p = h.p;
    corner = h.corner;
    no_end = h.no_end;
    ends = h.ends;
  }))
  way_back i j (inr (inr h)) = inr (inr (record {
    straight = h.straight;
    half_arc = h.half_arc;
    joins = h.joins;
    b = h.b;
    of_tube = h.of_tube;
    no_end = h.no_end;
    low = h.low;
  }))

  group_to : (i : ℕ) → HasGroupBy g flat i → level.HasGroup g flat i
  group_to i h = record { there = h.there; tube = h.tube }

  group_back : (i : ℕ) → level.HasGroup g flat i → HasGroupBy g flat i
  group_back i h = record { there = h.there; tube = h.tube }

  pub one_level : (i j : ℕ) → i < j → BreakBy g flat i j ↔ Breaks g flat i j
  one_level i j k = (
    (λ b. elim b.way [
      | inl e ↦ level.edges (λ q. omega (arith, k, q)) (group_to i b.first) (group_to j b.second) e
      | inr w ↦ level.corners (λ q. omega (arith, k, q)) (group_to i b.first) (group_to j b.second)
          (elim w [ inl x ↦ inl (way_to i j x) | inr x ↦ inr (way_to j i x) ])
    ]),
    back,
  )
    where
      back : Breaks g flat i j → BreakBy g flat i j
      back (level.missing q h n) = absurd (omega (arith, k, q))
      back (level.edges n a b e) =
          record { order = k; first = group_back i a; second = group_back j b; way = inl e }
      back (level.corners n a b w) = record {
        order = k;
        first = group_back i a;
        second = group_back j b;
        way = inr (elim w [ inl x ↦ inl (way_back i j x) | inr x ↦ inr (way_back j i x) ]);
      }
