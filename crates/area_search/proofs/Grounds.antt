-- Answers by the ground of a drawing.
use Rattle.std.proofs.Common.{◌≡◌, ◌+◌, ◌<◌, ℕ, ℤ, pos, Bool, List, length, get_or}
use Rattle.std.proofs.Common.{IfOk, Result, Ok, Err}
use Rattle.std.proofs.Common.{arith, refl, sym, ap, ◌∙◌, subst}
use Rattle.plane.specs.declared.kinds.Curve.{Curve}
use Rattle.plane.specs.declared.kinds.CurveKind.TheVariants as kind
use Rattle.plane.specs.declared.kinds.Placed.{Placed}
use Rattle.plane.specs.declared.kinds.Point.{Point}
use Rattle.plane.specs.Rule.Curves.{arc, IsOn}
use Rattle.plane.specs.Rule.HalfArcs.{HasSide}
use Rattle.plane.specs.Rule.Places.{point}
use Rattle.plane.specs.Rule.BadPairs.{IsBadPair}
use Rattle.plane.specs.Rule.Plans.{Plan, curve, object}
use Rattle.forks.specs.Bent.{IsBentOf}
use Rattle.tubes.specs.Settled.{IsFirstBreak, IsSettledAt}
use Rattle.area_search.specs.declared.kinds.AreaFinding.TheVariants.{Meeting}
use Rattle.area_search.specs.declared.kinds.AreaAnswer.{AreaAnswer}
use Rattle.area_search.specs.declared.kinds.AreaAnswer.TheVariants.{Fault, Undecided}
use Rattle.area_search.specs.Answers.{AreClear, HasNoBadPair, IsAnswer, IsSettled, IsUnsettled}
use Rattle.area_search.specs.Answers.{SettlesNoneBelow}
use Rattle.area_search.proofs.Small.{less_or}
use Rattle.area_search.specs.Answers.{meeting, on, undecided, outside, two, empty, cut, proved}
use Rattle.area_search.specs.Faults.{IsEmptySide, LiesOn, half_arc, straight}
use Rattle.area_search.specs.Grounds as by
use Rattle.area_search.specs.Grounds.{IsAnswerBy, IsAnswerOfSettled, IsDecided, NamesCurveOf}

pub not_settled : (d : Plan) → IsUnsettled d → IsSettled d → ⊥
not_settled d u (level, s) = u level s.low s.settled

-- ---- the drawing answers for itself
-- a drawing that some level settles is decided
pub decided : (d : Plan) (a : AreaAnswer) → IsAnswer d a → IsSettled d → IsDecided a
decided d _ (meeting i j b) s = tt
decided d _ (on j i n l) s = tt
decided d _ (undecided i j c u b) s = not_settled d u s
decided d _ (outside j c t l) s = tt
decided d _ (two i j c t l) s = tt
decided d _ (empty i left c t l) s = tt
decided d _ (cut i c t l) s = tt
decided d _ (proved c p l n k) s = tt

pub own_settled : (t : ℤ) (d : Plan) (a : AreaAnswer) → IsAnswerOfSettled d a → IsAnswerBy t d a
own_settled t d a h = by.own h.answer (decided d a h.answer h.settled)

pub own_meeting : (t : ℤ) (d : Plan) (i j : ℕ) → IsBadPair d i j
    → IsAnswerBy t d (Fault (Meeting i j))
own_meeting t d i j b = by.own (meeting i j b) tt

-- ---- no level settles the drawing
-- where the drawing is clear and not settled, its own answer is the pair that breaks the last level
pub own_undecided : (d : Plan) (a : AreaAnswer) → AreClear d → IsUnsettled d → IsAnswer d a
    → (i : ℕ) × (j : ℕ) × (a ≡ Undecided i j) × IsFirstBreak d (λ n. 5) i j
own_undecided d _ c u (meeting i j b) = absurd (c.pairs i j b)
own_undecided d _ c u (on j i n l) = absurd (c.points j i l.on)
own_undecided d _ c u (undecided i j n w b) = (i, j, refl, b)
own_undecided d _ c u (outside j n s l) = absurd (not_settled d u s)
own_undecided d _ c u (two i j n s l) = absurd (not_settled d u s)
own_undecided d _ c u (empty i left n s l) = absurd (not_settled d u s)
own_undecided d _ c u (cut i n s l) = absurd (not_settled d u s)
own_undecided d _ c u (proved e p l n k) = absurd (not_settled d u (e.level, l))

pub undecided_by : (t : ℤ) (d : Plan) (a : AreaAnswer) → AreClear d → IsUnsettled d
    → by.IsUndecidedBent t d → IsAnswer d a → IsAnswerBy t d a
undecided_by t d a c u b h =
    let (i, j, e, f) = own_undecided d a c u h in
    by.undecided b.g b.origin i j c u b.bent b.unsettled f e

-- ---- curves that are named
pub empty_there : (d : Plan) (i : ℕ) (left : Bool) → IsEmptySide d i left → i < length d.curves
empty_there d i left (straight p q s c l) = s.there
empty_there d i left (half_arc p q h c l) = h.there

pub names_curve : (d : Plan) (a : AreaAnswer) → IsAnswer d a → NamesCurveOf (length d.curves) a
names_curve d _ (meeting i j b) = tt
names_curve d _ (on j i n l) = tt
names_curve d _ (undecided i j c u b) = tt
names_curve d _ (outside j c t l) = tt
names_curve d _ (two i j c t l) = tt
names_curve d _ (empty i left c t l) = empty_there d i left l.empty
names_curve d _ (cut i c t l) = l.there
names_curve d _ (proved c p l n k) = tt

-- ---- the bent drawing
abbrev PointsStay : Type 0
PointsStay =
    (t : ℤ) (d g : Plan) (os : List ℕ) → IsBentOf t d g os → (k : ℕ) → k < length g.curves
    → (j : ℕ) → j < length d.points → IsOn (curve g k) (point (object d j))
    → IsOn (curve d (get_or os k 0)) (point (object d j))

abbrev pub CurvesAreThere : Type 0
CurvesAreThere =
    (t : ℤ) (d g : Plan) (os : List ℕ) → IsBentOf t d g os → (k : ℕ) → k < length g.curves
    → get_or os k 0 < length d.curves

abbrev KindsStay : Type 0
KindsStay =
    (t : ℤ) (d g : Plan) (os : List ℕ) → IsBentOf t d g os → (k : ℕ) → k < length g.curves
    → (curve g k).kind ≡ (curve d (get_or os k 0)).kind

abbrev ArcsStay : Type 0
ArcsStay =
    (t : ℤ) (d g : Plan) (os : List ℕ) → IsBentOf t d g os → (k : ℕ) → k < length g.curves
    → (curve g k).kind ≡ kind.HalfArc → curve g k ≡ curve d (get_or os k 0)

-- what the laws of bent drawings say of their curves
pub record BentLaws : Type 0 where
  pub points : PointsStay
  pub there : CurvesAreThere
  pub kind_of : KindsStay
  pub arcs : ArcsStay

abbrev placed_at : List Placed → ℕ → Point
placed_at ps j = (get_or ps j (record { at = record { x = pos 0; y = pos 0 }; line = 0 })).at

-- where no point is on a curve of the drawing, none is on one of the bent drawing
pub bent_clear : BentLaws → (t : ℤ) (d g : Plan) (os : List ℕ) → IsBentOf t d g os → AreClear d
    → HasNoBadPair g → AreClear g
bent_clear laws t d g os b clear pairs = record { pairs = pairs; points = off }
  where
    size : length g.points ≡ length d.points
    size = ap length b.points

    same : (j : ℕ) → object g j ≡ object d j
    same j = ap (λ (ps : List Placed). placed_at ps j) b.points

    side : (i j : ℕ) → i < length g.curves → LiesOn g j i
        → (curve d (get_or os i 0)).kind ≡ kind.HalfArc
        → HasSide (arc (curve d (get_or os i 0))) (point (object d j))
    side i j l h e =
        let own : (curve g i).kind ≡ kind.HalfArc = laws.kind_of t d g os b i l ∙ e in
        subst (λ (c : Curve). HasSide (arc c) (point (object d j))) (laws.arcs t d g os b i l own)
        (subst (λ (p : Point). HasSide (arc (curve g i)) (point p)) (same j) (h.has_side own))

    off : (j i : ℕ) → LiesOn g j i → ⊥
    off j i h =
        let l = h.curve_there in
        let m : j < length d.points = (let a = h.point_there in omega (arith, a, size)) in
        clear.points j (get_or os i 0) (record {
          point_there = m;
          curve_there = laws.there t d g os b i l;
          on = laws.points t d g os b i l j m
              (subst (λ (p : Point). IsOn (curve g i) (point p)) (same j) h.on);
          has_side = side i j l h;
        })

pub bent_by : BentLaws → (t : ℤ) (d g : Plan) (os : List ℕ) (b : AreaAnswer) → AreClear d
    → IsUnsettled d → IsBentOf t d g os → IsAnswerOfSettled g b → (a : AreaAnswer)
    → a ≡ by.named os b → IsAnswerBy t d a
bent_by laws t d g os b clear u bo h a e =
    by.bent g os b clear u bo (bent_clear laws t d g os bo clear h.pairs) h.settled h.answer e

abbrev AsManyOrigins : Type 0
AsManyOrigins =
    (t : ℤ) (d g : Plan) (os : List ℕ) → IsBentOf t d g os → length os ≡ length g.curves

-- the curve that the answer of the bent drawing names has an origin
pub names_origin : AsManyOrigins → (t : ℤ) (d g : Plan) (os : List ℕ) (b : AreaAnswer)
    → IsBentOf t d g os → IsAnswer g b → NamesCurveOf (length os) b
names_origin law t d g os b bo h =
    subst (λ (n : ℕ). NamesCurveOf n b) (sym (law t d g os bo)) (names_curve g b h)

abbrev NothingBent : Type 0
NothingBent =
    (t : ℤ) (d g : Plan) (os : List ℕ) → IsBentOf t d g os
    → length g.curves ≡ length d.curves → g ≡ d

-- where nothing is bent no level settles the bent drawing either
pub none_bent : NothingBent → (t : ℤ) (d g : Plan) (os : List ℕ) → IsUnsettled d
    → IsBentOf t d g os → length g.curves ≡ length d.curves → by.IsUndecidedBent t d
none_bent law t d g os u b n = record {
  g = g;
  origin = os;
  bent = b;
  unsettled = subst IsUnsettled (sym (law t d g os b n)) u;
}

pub unsettled_bent : (t : ℤ) (d g : Plan) (os : List ℕ) → IsBentOf t d g os → IsUnsettled g
    → by.IsUndecidedBent t d
unsettled_bent t d g os b u = record { g = g; origin = os; bent = b; unsettled = u }

-- the pair that breaks the last level, as an answer that is found where memory suffices
pub undecided_ok : {E : Type 0} (t : ℤ) (d : Plan) → AreClear d → IsUnsettled d
    → by.IsUndecidedBent t d → (r : Result AreaAnswer E) → IfOk r (IsAnswer d)
    → IfOk r (IsAnswerBy t d)
undecided_ok t d c u b (Ok a) h = undecided_by t d a c u b h
undecided_ok t d c u b (Err e) h = h

-- ---- level by level
-- no level below the next one settles the drawing
pub none_below_next : (d : Plan) (level : ℕ) → SettlesNoneBelow d level
    → (IsSettledAt d (λ n. level) → ⊥) → SettlesNoneBelow d (level + 1)
none_below_next d level none not_here l low s =
    less_or l level ⊥ low (λ m. none l m s) (λ e. not_here (subst (λ (k : ℕ). IsSettledAt d (λ n. k)) e s))
