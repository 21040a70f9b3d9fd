-- The first fault that is told is the one that a search answers.
use Rattle.std.proofs.Common.{◌≡◌, ◌⊎◌, inl, inr, ℕ, ◌+◌, ◌*◌, ◌<◌, ◌≤◌, ℤ, Bool, true, false}
use Rattle.std.proofs.Common.{List, [], length, refl, sym, subst, ap, ◌∙◌, arith}
use Rattle.std.specs.Prelude.{if◌then◌else◌}
use Rattle.std.specs.List.{Contains}
use Rattle.std.proofs.lemmas.Bool.{cases_Bool, cases_lt}
use Rattle.plane.specs.Rule.LeftOut.{IsClosed, IsRestOf}
use Rattle.plane.specs.Rule.Partition.{IsOff, IsOuter}
use Rattle.plane.specs.Rule.Places.{Place, Vector, point}
use Rattle.plane.specs.Rule.Plans.{Plan, curve, object}
use Rattle.plane.proofs.FewerCurves.ClosedFaces.{stays_outer}
use Rattle.plane.proofs.Linear.EdgePlaces.{place_point}
use Rattle.area_search.specs.Answers as answer
use Rattle.area_search.specs.Answers.{AreAlone, AreClear, AreFilled, AreInside, HasNoBadPair}
use Rattle.area_search.specs.Answers.{IsAnswer, IsLeastCut, IsLeastEmpty, IsLeastOn}
use Rattle.area_search.specs.Answers.{AreLeastTwo, IsLeastOutside, IsSettled, IsUnsettled}
use Rattle.area_search.specs.Faults.{IsEmptySide}
use Rattle.area_search.specs.Grounds as by
use Rattle.area_search.specs.Grounds.{IsAnswerBy}
use Rattle.area_search.specs.declared.kinds.AreaAnswer.TheVariants.{Fault}
use Rattle.area_search.specs.declared.kinds.AreaFinding.{AreaFinding}
use Rattle.area_search.specs.declared.kinds.AreaFinding.TheVariants.{Meeting}
use Rattle.fault_lists.specs.declared.kinds.Faults.{Faults}
use Rattle.fault_lists.specs.declared.kinds.MeetingAt.{MeetingAt}
use Rattle.fault_lists.specs.declared.kinds.OnAt.{OnAt}
use Rattle.fault_lists.specs.declared.kinds.PointPair.{PointPair}
use Rattle.fault_lists.specs.declared.kinds.SideAt.{SideAt}
use Rattle.fault_lists.specs.FaceLists.{side_number}
use Rattle.fault_lists.specs.FaultLists.{ArePointsOn, AreToldTwo}
use Rattle.fault_lists.specs.Faults.{AreTwo, LiesOn}
use Rattle.fault_lists.specs.Sides.{side_end}
use Rattle.area_faults.specs.Answers.{AreAllFaults}
use Rattle.area_faults.specs.Firsts.{BeginsWith, IsFirstOf, IsLeastPair, TellsAlone, TellsClear}
use Rattle.area_faults.specs.Firsts.{TellsFilled, TellsInside, TellsNoneOpen}
use Rattle.area_faults.specs.Firsts as first
use Rattle.area_faults.proofs.Firsts.{begins, by_itself, no_entry}
use Rattle.area_faults.proofs.WholeRest.{IsLostBeside, all_closed, beside_lost, empty_is_lost}
use Rattle.area_faults.proofs.WholeRest.{lost_beside, lost_end, lost_is_empty}

clash : {P : Type 0} → false ≡ true → P
clash e = cc

-- ---- points, pairs and sides by their numbers
abbrev on_at : ℕ → ℕ → OnAt
on_at j i = record { point = j; curve = i }

same_on : (o : OnAt) (j i : ℕ) → o.point ≡ j → o.curve ≡ i → o ≡ on_at j i
same_on o j i a b = ap (λ (k : ℕ). on_at k o.curve) a ∙ ap (λ (k : ℕ). on_at j k) b

abbrev side_at : ℕ → Bool → SideAt
side_at i b = record { curve = i; left = b }

abbrev pair_at : ℕ → ℕ → PointPair
pair_at i j = record { first = i; second = j }

same_pair : (p : PointPair) (i j : ℕ) → p.first ≡ i → p.second ≡ j → p ≡ pair_at i j
same_pair p i j a b = ap (λ (k : ℕ). pair_at k p.second) a ∙ ap (λ (k : ℕ). pair_at i k) b

-- of two sides of one curve the left one has the lesser number
left_first : (i : ℕ) (a b : Bool) → 2 * i + (if a then 0 else 1) ≤ 2 * i + (if b then 0 else 1)
    → (b ≡ false → a ≡ true → ⊥) → a ≡ b
left_first i true true l h = refl
left_first i false false l h = refl
left_first i true false l h = absurd (h refl refl)
left_first i false true l h = absurd (omega (arith, l))

part_below : (b : Bool) → (if b then 0 else 1) < 2
part_below true = omega arith
part_below false = omega arith

curve_at_most : (c i : ℕ) (a b : Bool) → 2 * c + (if a then 0 else 1) ≤ 2 * i + (if b then 0 else 1)
    → c ≤ i
curve_at_most c i a b l = let m = part_below b in omega (arith, l, m)

-- ---- points on curves
pub first_on : (d : Plan) (ons : List OnAt) → ArePointsOn d ons → (j i : ℕ) → IsLeastOn d j i
    → BeginsWith ons (on_at j i)
first_on d ons points j i least =
    let (o, c, e) = points.all j i least.on in
    let is : o ≡ on_at j i = same o c (let l = e in omega (arith, l)) in
    begins (λ (o : OnAt). o.point) ons (on_at j i) points.rise
    (subst (λ (x : OnAt). Contains ons x) is c) same
  where
    same : (o : OnAt) → Contains ons o → o.point ≤ j → o ≡ on_at j i
    same o c l = elim (cases_lt o.point j) [
      | inl m ↦ absurd (least.no_point o.point o.curve m (points.on o c))
      | inr m ↦
          let p : o.point ≡ j = omega (arith, l, m) in
          elim (cases_lt o.curve i) [
            | inl k ↦ absurd
                (least.no_curve o.curve k (subst (λ n. LiesOn d n o.curve) p (points.on o c)))
            | inr k ↦ elim (cases_lt i o.curve) [
              | inl g ↦ absurd
                  (points.least o i c g (subst (λ n. LiesOn d n i) (sym p) least.on))
              | inr g ↦ same_on o j i p (omega (arith, k, g))
            ]
          ]
    ]

module _ (d : Plan) (f : Faults) (all : AreAllFaults d d (λ i. i) f) where
  pub no_meetings : HasNoBadPair d → f.meetings.items ≡ []
  no_meetings clear =
      no_entry f.meetings.items (λ m c. clear m.first m.second (all.told.meetings.bad m c))

  pub settled : HasNoBadPair d → IsSettled d
  settled clear = all.settled (no_meetings clear)

  pub not_unsettled : HasNoBadPair d → IsUnsettled d → ⊥
  not_unsettled clear u = let (level, least) = settled clear in u level least.low least.settled

  pub clear_of : f.meetings.items ≡ [] → HasNoBadPair d
  clear_of none i j bad =
      let (m, c, e) = all.told.meetings.all i j bad in
      no_one m (subst (λ (ms : List MeetingAt). Contains ms m) none c)
    where
      no_one : (m : MeetingAt) → Contains [] m → ⊥
      no_one m (k, l, e) = omega (arith, l)

  module _ (clear : HasNoBadPair d) where
    -- nothing is left out
    kept : (i : ℕ) → i < length d.curves → all.told.out i ≡ true → ⊥
    kept i l o = by ((all.told.out_is i l).0 o)
      where
        by : ((m : MeetingAt) × Contains f.meetings.items m × ((m.first ≡ i) ⊎ (m.second ≡ i)))
            ⊎ (f.all_out ≡ true) → ⊥
        by (inl m) = clear m.0.first m.0.second (all.told.meetings.bad m.0 m.1)
        by (inr e) = clash (sym all.kept ∙ e)

    -- so nothing is open
    pub none_open : TellsNoneOpen f
    none_open = record {
      outer = elim (cases_Bool f.faces.outer_open) [
        | inl e ↦ (let (z, Z, o, h) = all.told.over.outer_is_open e in
            absurd (kept h.i h.there h.left_out))
        | inr e ↦ e
      ];
      broken = no_entry f.faces.open.items
          (λ s c. let (z, Z, b, h) = all.told.over.open_is_open s c in kept h.i h.there h.left_out);
      unjudged = no_entry f.faces.unjudged.items (λ j c. let h = (all.told.over.unjudged_is j c).1 in
          kept h.i h.there h.left_out);
    }

  -- ---- lists without an entry
  pub tells_clear : AreClear d → TellsClear f
  tells_clear h = record {
    meetings = no_meetings h.pairs;
    on = no_entry f.on.items (λ o c. h.points o.point o.curve (all.told.on.on o c));
  }

  pub tells_inside : AreInside d → TellsInside f
  tells_inside h = record {
    clear = tells_clear h.clear;
    outside = no_entry f.faces.outside.items (λ j c. h.none j (all.told.over.outside_is j c));
  }

  pub tells_alone : AreAlone d → TellsAlone f
  tells_alone h = record {
    inside = tells_inside h.inside;
    shared = no_entry f.faces.shared.items
        (λ p c. h.none p.first p.second (all.told.over.shared_are p c));
  }

  -- a side in the list is empty
  pub side_is_empty : HasNoBadPair d → (s : SideAt) → Contains f.faces.empty.items s
      → IsEmptySide d s.curve s.left
  side_is_empty clear s c =
      let (z, Z, b, lost) = all.told.over.empty_is s c in
      lost_is_empty d s.curve s.left
      (beside_lost d all.told.r all.told.out all.told.rest (kept clear) s z Z b lost)

  pub tells_filled : AreFilled d → TellsFilled f
  tells_filled h = record {
    alone = tells_alone h.alone;
    empty = no_entry f.faces.empty.items
        (λ s c. h.none s.curve s.left (side_is_empty h.alone.inside.clear.pairs s c));
  }

  -- ---- the first ones
  pub first_outside : HasNoBadPair d → (j : ℕ) → IsLeastOutside d j
      → BeginsWith f.faces.outside.items j
  first_outside clear j least =
      begins (λ (n : ℕ). n) f.faces.outside.items j
      (by_itself f.faces.outside.items all.told.over.order.outside)
      (all.told.over.outside j least.outside (none_open clear).outer) same
    where
      same : (k : ℕ) → Contains f.faces.outside.items k → k ≤ j → k ≡ j
      same k c l =
          elim (cases_lt k j) [
            | inl m ↦ absurd (least.none k m (all.told.over.outside_is k c))
            | inr m ↦ omega (arith, l, m)
          ]

  pub first_cut : HasNoBadPair d → (i : ℕ) → IsLeastCut d i → BeginsWith f.faces.cuts.items i
  first_cut clear i least =
      let closed = all_closed d all.told.r all.told.out all.told.rest (kept clear) in
      begins (λ (n : ℕ). n) f.faces.cuts.items i
      (by_itself f.faces.cuts.items all.told.over.order.cuts)
      (all.told.over.cuts i least.cut least.there (kept clear i least.there) (closed least.cut.p)
      (closed least.cut.q)) same
    where
      same : (k : ℕ) → Contains f.faces.cuts.items k → k ≤ i → k ≡ i
      same k c l =
          elim (cases_lt k i) [
            | inl m ↦ absurd (least.none k m (all.told.over.cut_is k c))
            | inr m ↦ omega (arith, l, m)
          ]

  pub first_empty : HasNoBadPair d → (i : ℕ) (left : Bool) → IsLeastEmpty d i left
      → BeginsWith f.faces.empty.items (side_at i left)
  first_empty clear i left least =
      let (s, c, b) = all.told.over.empty z end.0 end.1 lost.lost
      (all_closed d r out rest (kept clear) z) in
      let mine = lost_beside d r out rest (kept clear) (side_at i left) lost in
      let le = all.least s (side_at i left) z c (kept clear i lost.there) end.0 b mine in
      let is : s ≡ side_at i left = same s c le in
      begins side_number f.faces.empty.items (side_at i left) all.told.over.order.empty
      (subst (λ (o : SideAt). Contains f.faces.empty.items o) is c) same
    where
      r : Plan
      r = all.told.r

      out : ℕ → Bool
      out = all.told.out

      rest : IsRestOf d r out
      rest = all.told.rest

      lost : IsLostBeside d i left
      lost = empty_is_lost d i left least.empty

      z : Vector
      z = side_end (curve d i) left lost.p lost.q

      end : Place z × IsOff d z
      end = lost_end d i left lost

      same : (s : SideAt) → Contains f.faces.empty.items s
          → side_number s ≤ side_number (side_at i left) → s ≡ side_at i left
      same s c l =
          let e = side_is_empty clear s c in
          elim (cases_lt s.curve i) [
            | inl m ↦ absurd (least.no_curve s.curve s.left m e)
            | inr m ↦
                let q : s.curve ≡ i = let k = curve_at_most s.curve i s.left left l in
                omega (arith, k, m) in
                let le : side_number (side_at i s.left) ≤ side_number (side_at i left) = subst
                (λ n. side_number (side_at n s.left) ≤ side_number (side_at i left)) q l in
                let b : s.left ≡ left = left_first i s.left left le
                (λ a t. least.no_left a
                (subst (λ (x : Bool). IsEmptySide d i x) t
                (subst (λ n. IsEmptySide d n s.left) q e))) in
                ap (λ n. side_at n s.left) q ∙ ap (λ x. side_at i x) b
          ]

  -- ---- two points in one face
  least_pair : AreInside d → (i j : ℕ) → AreLeastTwo d i j
      → IsLeastPair f.faces.shared.items (pair_at i j)
  least_pair inside i j least =
      record { told = told (all.told.over.shared i j least.two closed inner); least = lesser }
    where
      z : Vector
      z = point (object d i)

      closed : IsClosed d all.told.r all.told.out z
      closed = all_closed d all.told.r all.told.out all.told.rest (kept inside.clear.pairs) z

      there : i < length d.points
      there = let o = least.two.order in let l = least.two.there in omega (arith, o, l)

      inner : IsOuter all.told.r z → ⊥
      inner o = inside.none i (record {
        there = there;
        outer = (stays_outer d all.told.r all.told.out all.told.rest z
            (place_point (object d i)) closed).1 o;
      })

      told : AreToldTwo f.faces i j → Contains f.faces.shared.items (pair_at i j)
      told (inl p) =
          subst (λ (q : PointPair). Contains f.faces.shared.items q)
          (same_pair p.pair i j p.is_first p.is_second) p.told
      told (inr (k, a, b)) =
          let two : AreTwo d k i = subst (λ n. AreTwo d k n) a.is_second
          (subst (λ n. AreTwo d n a.pair.second) a.is_first
          (all.told.over.shared_are a.pair a.told)) in
          absurd (least.no_first k i two.order two)

      lesser : (q : PointPair) → Contains f.faces.shared.items q
          → (i < q.first) ⊎ ((i ≡ q.first) × (j ≤ q.second))
      lesser q c = elim (cases_lt i q.first) [
        | inl l ↦ inl l
        | inr l ↦ elim (cases_lt q.first i) [
          | inl m ↦ absurd (least.no_first q.first q.second m (all.told.over.shared_are q c))
          | inr m ↦
              let e : i ≡ q.first = omega (arith, l, m) in
              elim (cases_lt q.second j) [
                | inl k ↦ absurd
                    (least.no_second q.second k
                    (subst (λ n. AreTwo d n q.second) (sym e) (all.told.over.shared_are q c)))
                | inr k ↦ inr (e, k)
              ]
        ]
      ]

  -- ---- the answer of the search
  own_first : (x : AreaFinding) → IsAnswer d (Fault x) → IsFirstOf f x
  own_first _ (answer.meeting i j bad) =
      let (m, c, e) = all.told.meetings.all i j bad in
      subst (λ k. IsFirstOf f (Meeting i k)) e.1
      (subst (λ k. IsFirstOf f (Meeting k m.second)) e.0 (first.meeting m c))
  own_first _ (answer.on j i clear least) =
      first.on (on_at j i) (no_meetings clear) (first_on d f.on.items all.told.on j i least)
  own_first _ (answer.outside j clear s least) =
      first.outside j (tells_clear clear) (first_outside clear.pairs j least)
  own_first _ (answer.two i j inside s least) =
      first.two (pair_at i j) (tells_inside inside) (least_pair inside i j least)
  own_first _ (answer.empty i left alone s least) =
      first.empty (side_at i left) (tells_alone alone)
      (first_empty alone.inside.clear.pairs i left least)
  own_first _ (answer.cut i filled s least) =
      first.cut i (tells_filled filled) (first_cut filled.alone.inside.clear.pairs i least)

  pub is_first : (t : ℤ) (x : AreaFinding) → IsAnswerBy t d (Fault x) → IsFirstOf f x
  is_first t x (by.own h n) = own_first x h
  is_first t x (by.bent g os b clear u bo cg s h e) = absurd (not_unsettled clear.pairs u)
  is_first t x (by.undecided g os i j clear u bo ug br e) = absurd (not_unsettled clear.pairs u)
