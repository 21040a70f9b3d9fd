-- The polygons of areas: all answers are fine where an outcome is accepted, then there are
-- polygons,
-- and they are given by the drawings.
use Rattle.std.proofs.Common.{◌≡◌, ◌⊎◌, inl, inr, ℕ, zero, suc, ℤ, ◌<◌, arith, Bool, true, false}
use Rattle.std.proofs.Common.{◌&&◌, ◌||◌, List, [], ◌∷◌, length, Some, refl, sym, ap, ◌∙◌, subst}
use Rattle.std.specs.List.{All}
use Rattle.std.proofs.lemmas.List.{ext_get_or}
use Rattle.std.proofs.lemmas.List.Elements.{All-nil, All-cons}
use Rattle.area_drawings.proofs.Windows.{same_drawings}
use Rattle.area_drawings.specs.Drawings.{AreDrawings, area_tolerance}
use Rattle.area_search.specs.declared.kinds.AreaFinding.{AreaFinding}
use Rattle.area_search.specs.declared.kinds.AreaFinding.TheVariants as fault
use Rattle.area_search.specs.Faced.{edge}
use Rattle.area_search.specs.Grounds.{IsRightGround}
use Rattle.certificate.specs.Spelling.{Plain, AreSpelt}
use Rattle.commands.specs.Commands.{Target}
use Rattle.commands.specs.declared.task.Filed.{Filed}
use Rattle.commands.specs.declared.task.Filed.TheVariants as filed
use Rattle.itf_reader.proofs.Readings.{one_transfer}
use Rattle.itf_reader.specs.Forms.{Row}
use Rattle.itf_reader.specs.Layouts.{form_of}
use Rattle.plane.specs.Rule.Cuts.{HasNoCut}
use Rattle.plane.specs.Rule.Partition.{IsPartition}
use Rattle.plane.specs.Rule.Plans.{Plan, object}
use Rattle.plane.specs.declared.kinds.Curve.{Curve}
use Rattle.plane.specs.declared.kinds.CurveKind.{CurveKind}
use Rattle.plane.specs.declared.kinds.CurveKind.TheVariants as curve_kind
use Rattle.plane.specs.declared.kinds.Point.{Point}
use Rattle.polygons.proofs.GivenRings.{one_polygon}
use Rattle.polygons.specs.Outlines.{outline, outlines}
use Rattle.polygons.specs.Regions.{ArePolygonsOf}
use Rattle.polygons.specs.Text as polygons
use Rattle.polygons.specs.Text.{with_lines}
use Rattle.reports.specs.Kinds.{answer_kind, is_fault, is_undecided, is_fine, are_fine}
use Rattle.reports.specs.Outcomes.{Outcome, areas_outcome}
use Rattle.reports.specs.Surfaces.{surfaces}
use Rattle.reports.specs.declared.lines.SurfaceAnswer.{SurfaceAnswer}
use Rattle.delivery.specs.Surfaces.{AreSurfaceAnswers}
use Rattle.reports.specs.declared.kinds.Kind.{Kind}
use Rattle.reports.specs.declared.kinds.Kind.TheVariants as kind
use Rattle.reports.specs.declared.lines.AreaAnswer.{AreaAnswer}
use Rattle.reports.specs.declared.status.Status.TheVariants as status
use Rattle.reports.specs.declared.status.Status.TheVariants.{Accepted}
use Rattle.table_layout.specs.Layouts.{AreaOf, Layout}
use Rattle.tubes.specs.DrawnEdges.{AreAllStraight, AreStraights, nth_curve}
use Rattle.delivery.specs.AreaAnswers.{IsAnswer, faulty, undecided, proved, fault_answer}
use Rattle.delivery.specs.AreaAnswers.{AreAnswers}
use Rattle.delivery.specs.AreaPolygons.{HasHalfArc, HasRun, IsSkippedOrArea, IsPolygonAnswer}
use Rattle.delivery.specs.AreaPolygons.{objects_of, IsWrittenArea, AreWrittenAreas, ArePolygonsFor}
use Rattle.delivery.specs.Certified.{AreBounded}
use Rattle.delivery.specs.Judging.{lines_of, objects, AreJudged}
use Rattle.delivery.specs.declared.polygon_answers.PolygonAnswer.{PolygonAnswer}
use Rattle.delivery.specs.declared.polygon_answers.PolygonAnswer.TheVariants as polygon
use Rattle.delivery.proofs.AreaLemmas.{answer_is_fault, answer_is_undecided, some_fault}
use Rattle.delivery.proofs.AreaLemmas.{surface_fault, some_undecided, by_answers, outcome_by}
use Rattle.delivery.proofs.AreaLemmas.{differ, neither, no_half_arc}

-- ---- answers that are fine
both : (b c : Bool) → b ≡ true → c ≡ true → (b && c) ≡ true
both true c h k = k
both false c h k = absurd (cc)

parts : (b c : Bool) → (b && c) ≡ true → (b ≡ true) × (c ≡ true)
parts true c h = (refl, h)
parts false c h = absurd (cc)

fine_kind : (k : Kind) → is_fault k ≡ false → is_undecided k ≡ false → is_fine k ≡ true
fine_kind kind.Fault f u = absurd (cc)
fine_kind kind.Undecided f u = absurd (cc)
fine_kind kind.Fine f u = refl

fine_answers : (xs : List AreaAnswer) → some_fault xs ≡ false → some_undecided xs ≡ false
    → are_fine xs ≡ true
fine_answers [] f u = refl
fine_answers (x ∷ xs) f u =
    let n = neither (answer_is_fault x) (some_fault xs) f in
    let m = neither (answer_is_undecided x) (some_undecided xs) u in
    both (is_fine (answer_kind x)) (are_fine xs) (fine_kind (answer_kind x) n.0 m.0)
    (fine_answers xs n.1 m.1)

-- where the outcome is accepted all answers are fine
module _ (l : Layout) (objects : ℕ) (target : Target) (ss : List SurfaceAnswer) (ds : List Plan)
    (xs : List AreaAnswer) (cs : List Plain) (ps : List polygons.Plain)
    (h : AreAnswers l l.areas ds xs cs) where
  abbrev some_line : Bool
  some_line = some_fault xs || surface_fault l ss

  status_by : (f g : Bool) → some_line ≡ f → some_undecided xs ≡ g
      → (areas_outcome l objects target ss xs cs ps).status ≡ Accepted
      → (outcome_by l objects target ss xs cs ps f g).status ≡ Accepted
  status_by f g e k s =
      let all : outcome_by l objects target ss xs cs ps f g
      ≡ areas_outcome l objects target ss xs cs ps
      = sym (by_answers l objects target ss ds xs cs ps h
      ∙ ap (λ (b : Bool). outcome_by l objects target ss xs cs ps b (some_undecided xs)) e
      ∙ ap (outcome_by l objects target ss xs cs ps f) k) in
      ap (λ (o : Outcome). o.status) all ∙ s

  pub accepted_fine : (areas_outcome l objects target ss xs cs ps).status ≡ Accepted
      → are_fine xs ≡ true
  accepted_fine s = by some_line (some_undecided xs) refl refl
    where
      by : (f g : Bool) → some_line ≡ f → some_undecided xs ≡ g → are_fine xs ≡ true
      by true g e k =
          absurd (let q : status.Rejected ≡ Accepted = status_by true g e k s in cc)
      by false true e k =
          absurd (let q : status.Undecided ≡ Accepted = status_by false true e k s in cc)
      by false false e k =
          fine_answers xs (neither (some_fault xs) (surface_fault l ss) e).0 k

-- ---- where all answers are fine the drawings are areas
fault_not_fine : (d : Plan) (f : AreaFinding) → is_fine (answer_kind (fault_answer d f)) ≡ false
fault_not_fine d (fault.Meeting i j) = refl
fault_not_fine d (fault.On j i) = refl
fault_not_fine d (fault.Outside j) = refl
fault_not_fine d (fault.Two i j) = refl
fault_not_fine d (fault.Empty i left) = refl
fault_not_fine d (fault.Cut i) = refl

-- straights are their own ground
abbrev pub StraightGrounds : Type 0
StraightGrounds = (t : ℤ) (d g : Plan) (x : Bool) (os : List ℕ) → AreStraights d
    → IsRightGround t d x g os → g ≡ d

-- a half arc is among the curves
abbrev pub HasArcIn : List Curve → Type 0
HasArcIn cs = (i : ℕ) × (i < length cs) × ((nth_curve cs i).kind ≡ curve_kind.HalfArc)

-- a half arc is among the curves, or all are straights
one_more : (c : Curve) (cs : List Curve) (k : CurveKind) → c.kind ≡ k
    → HasArcIn cs ⊎ AreAllStraight cs → HasArcIn (c ∷ cs) ⊎ AreAllStraight (c ∷ cs)
one_more c cs curve_kind.HalfArc e r = inl (0, omega arith, e)
one_more c cs curve_kind.Straight e (inl f) = inl (suc f.0, (let l = f.1 in omega (arith, l)), f.2)
one_more c cs curve_kind.Straight e (inr s) = inr at
  where
    at : (i : ℕ) → i < length (c ∷ cs) → (nth_curve (c ∷ cs) i).kind ≡ curve_kind.Straight
    at zero l = e
    at (suc i) l = s i (omega (arith, l))

arc_or : (cs : List Curve) → HasArcIn cs ⊎ AreAllStraight cs
arc_or [] = inr (λ i l. absurd (omega (arith, l)))
arc_or (c ∷ cs) = one_more c cs c.kind refl (arc_or cs)

arc_or_straights : (d : Plan) → HasHalfArc d ⊎ AreStraights d
arc_or_straights d = elim (arc_or d.curves) as (λ y. HasHalfArc d ⊎ AreStraights d) [
  | inl f ↦ inl (f.0, record { there = f.1; kind = f.2 })
  | inr s ↦ inr s
]

module _ (grounds : StraightGrounds) (l : Layout) where
  fine_plan : (a : AreaOf) (d : Plan) (x : AreaAnswer) (cs : List Plain)
      → is_fine (answer_kind x) ≡ true → IsAnswer l a d x cs → IsSkippedOrArea d
  fine_plan a d x cs t (faulty f h e z) =
      differ (is_fine (answer_kind x)) t (ap (λ (y : AreaAnswer). is_fine (answer_kind y)) e
      ∙ fault_not_fine d f)
  fine_plan a d x cs t (undecided i j h e z) =
      differ (is_fine (answer_kind x)) t (ap (λ (y : AreaAnswer). is_fine (answer_kind y)) e)
  fine_plan a d x cs t (proved c n h e z) = elim (arc_or_straights d) as (λ y. IsSkippedOrArea d) [
    | inl arc ↦ inl arc
    | inr s ↦ (let own : h.g ≡ d = grounds (area_tolerance l a) d h.g c.bent h.origin s h.right in
        inr (subst IsPartition own h.area.parts, subst HasNoCut own h.area.uncut))
  ]

  pub all_fine : (as_ : List AreaOf) (ds : List Plan) (xs : List AreaAnswer) (cs : List Plain)
      → AreAnswers l as_ ds xs cs → are_fine xs ≡ true → All IsSkippedOrArea ds
  all_fine [] [] [] cs h f = All-nil IsSkippedOrArea
  all_fine [] [] (x ∷ xs) cs h f = absurd h
  all_fine [] (d ∷ ds) xs cs h f = absurd h
  all_fine (a ∷ as_) [] xs cs h f = absurd h
  all_fine (a ∷ as_) (d ∷ ds) [] cs h f = absurd h
  all_fine (a ∷ as_) (d ∷ ds) (x ∷ xs) cs h f =
      let p = parts (is_fine (answer_kind x)) (are_fine xs) f in
      All-cons IsSkippedOrArea d ds (fine_plan a d x h.0 p.0 h.2) (all_fine as_ ds xs h.1 h.3 p.1)

-- ---- polygons are given by the drawing
one_list : (d : Plan) → HasRun d → (os ps : List (List (List Point))) → ArePolygonsOf d (edge d) os
    → ArePolygonsOf d (edge d) ps → os ≡ ps
one_list d run os ps h k =
    ext_get_or [] os ps (h.size ∙ sym k.size)
    (λ i m.
    let n : i < length d.points = subst (λ (c : ℕ). i < c) h.size m in
    let p = h.each i n in
    let q = k.each i n in
    one_polygon d (edge d) run.0 run.1
    (object d i) p.order.m p.order.at p.order.f p.order.halves q.order.m q.order.at q.order.f
    q.order.halves (outline os i) (outline ps i) p.order.rings_are q.order.rings_are)

one_answer : (d : Plan) (a b : PolygonAnswer) → IsPolygonAnswer d a → IsPolygonAnswer d b
    → objects_of d a ≡ objects_of d b
one_answer d polygon.Skipped polygon.Skipped h k = refl
one_answer d polygon.Skipped (polygon.Rings ps) h k = absurd (no_half_arc d h.0 k.0 h.1)
one_answer d (polygon.Rings os) polygon.Skipped h k = absurd (no_half_arc d k.0 h.0 k.1)
one_answer d (polygon.Rings os) (polygon.Rings ps) h k =
    ap (λ (rings : List (List (List Point))). Some (with_lines d.points rings))
    (one_list d h.1 (outlines os.items) (outlines ps.items) h.2 k.2)

one_area : (l : Layout) (a : AreaOf) (d : Plan) (p q : polygons.Plain) → IsWrittenArea l a d p
    → IsWrittenArea l a d q → p ≡ q
one_area l a d p q h k =
    let t = h.topic ∙ sym k.topic in
    let n = h.table ∙ sym k.table in
    let m = h.attribute ∙ sym k.attribute in
    let o = h.objects ∙ one_answer d h.answer k.answer h.is_answer k.is_answer ∙ sym k.objects in
    λ i. record { topic = t i; table = n i; attribute = m i; objects = o i }

pub one_text : (l : Layout) (as_ : List AreaOf) (ds : List Plan) (ps qs : List polygons.Plain)
    → AreWrittenAreas l as_ ds ps → AreWrittenAreas l as_ ds qs → ps ≡ qs
one_text l [] [] [] [] h k = refl
one_text l [] [] [] (q ∷ qs) h k = absurd k
one_text l [] [] (p ∷ ps) qs h k = absurd h
one_text l [] (d ∷ ds) ps qs h k = absurd h
one_text l (a ∷ as_) [] ps qs h k = absurd h
one_text l (a ∷ as_) (d ∷ ds) [] qs h k = absurd h
one_text l (a ∷ as_) (d ∷ ds) (p ∷ ps) [] h k = absurd k
one_text l (a ∷ as_) (d ∷ ds) (p ∷ ps) (q ∷ qs) h k =
    ap (λ (x : polygons.Plain). x ∷ ps) (one_area l a d p q h.0 k.0)
    ∙ ap (λ (xs : List polygons.Plain). q ∷ xs) (one_text l as_ ds ps qs h.1 k.1)

pub one_bounded : (l : Layout) (text : List ℕ) (ps qs : List polygons.Plain) → AreBounded l text ps
    → AreBounded l text qs → ps ≡ qs
one_bounded l text ps qs h k =
    let rows : h.rows ≡ k.rows = one_transfer (form_of l)
    (lines_of l text).lines h.rows k.rows h.rows_of.1 k.rows_of.1 in
    let plans : h.drawings ≡ k.drawings = same_drawings l k.rows l.areas h.drawings k.drawings
    (subst (λ (r : List (List Row)). AreDrawings l r h.drawings) rows h.drawn) k.drawn in
    one_text l l.areas k.drawings ps qs
    (subst (λ (ds : List Plan). AreWrittenAreas l l.areas ds ps) plans h.written) k.written

-- ---- what is filed
-- where polygons are filed, certificates are not
pub uncertified : (l : Layout) (objects : ℕ) (target : Target) (ss : List SurfaceAnswer)
    (xs : List AreaAnswer) (cs es : List Plain) (ps : List polygons.Plain)
    → target.filed ≡ filed.Polygons
    → areas_outcome l objects target ss xs cs ps ≡ areas_outcome l objects target ss xs es ps
uncertified l objects target ss xs cs es ps f = by target.filed f
  where
    of : Filed → List Plain → Outcome
    of k bs = areas_outcome l objects (record { name = target.name; filed = k }) ss xs bs ps

    by : (k : Filed) → k ≡ filed.Polygons → of k cs ≡ of k es
    by filed.Polygons e = refl
    by filed.Certificates e = absurd (cc)
    by (filed.Trial n) e = absurd (cc)

-- where certificates are filed, nothing is asked of polygons
pub unbounded : (f : Filed) → (f ≡ filed.Polygons → ⊥)
    → (l : Layout) (ds : List Plan) (ps : List polygons.Plain) → ArePolygonsFor f l ds ps
unbounded filed.Polygons n l ds ps = absurd (n refl)
unbounded filed.Certificates n l ds ps = tt
unbounded (filed.Trial m) n l ds ps = tt

-- polygons of all areas are such as are to be filed
pub bounded_for : (f : Filed) → f ≡ filed.Polygons
    → (l : Layout) (ds : List Plan) (ps : List polygons.Plain) → AreWrittenAreas l l.areas ds ps
    → ArePolygonsFor f l ds ps
bounded_for f e l ds ps h = subst (λ (k : Filed). ArePolygonsFor k l ds ps) (sym e) h

-- ---- what is judged
module _ (target : Target) (l : Layout) (rows : List (List Row)) (o : Outcome) (n : ℕ)
    (ss : List SurfaceAnswer) (ds : List Plan) (xs : List AreaAnswer) (cs : List Plain)
    (ps : List polygons.Plain)
    (count : n ≡ objects rows) (told : AreSurfaceAnswers l rows (surfaces l) ss)
    (drawn : AreDrawings l rows ds) (answered : AreAnswers l l.areas ds xs cs)
    (spelt : AreSpelt cs) where
  -- where certificates are filed
  pub judged_certified : (target.filed ≡ filed.Polygons → ⊥)
      → o ≡ areas_outcome l n target ss xs cs ps → AreJudged target l rows o
  judged_certified other e = record {
    surface_answers = ss;
    surfaces_answered = told;
    drawings = ds;
    answers = xs;
    certificates = cs;
    drawn = drawn;
    answered = answered;
    spelt = spelt;
    polygons = ps;
    bounded = λ s. unbounded target.filed other l ds ps;
    is = e ∙ ap (λ (k : ℕ). areas_outcome l k target ss xs cs ps) count;
  }

  -- where polygons are filed
  pub judged_bounded : (es : List Plain) → target.filed ≡ filed.Polygons
      → o ≡ areas_outcome l n target ss xs es ps
      → (are_fine xs ≡ true → AreWrittenAreas l l.areas ds ps) → AreJudged target l rows o
  judged_bounded es polygons_filed e written =
      let same : o ≡ areas_outcome l (objects rows) target ss xs cs ps = e
      ∙ uncertified l n target ss xs es cs ps polygons_filed
      ∙ ap (λ (k : ℕ). areas_outcome l k target ss xs cs ps) count in
      record {
        surface_answers = ss;
        surfaces_answered = told;
        drawings = ds;
        answers = xs;
        certificates = cs;
        drawn = drawn;
        answered = answered;
        spelt = spelt;
        polygons = ps;
        bounded = λ s. bounded_for target.filed polygons_filed l ds ps
            (written (accepted_fine l (objects rows) target ss ds xs cs ps answered
            (sym (ap (λ (p : Outcome). p.status) same) ∙ s)));
        is = same;
      }
