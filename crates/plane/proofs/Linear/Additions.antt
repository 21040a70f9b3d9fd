-- What is added to a drawing may be drawn in its window.
use Rattle.std.proofs.Common.{◌≡◌, ℕ, pos, Bool, true, false, cond, List, [], ◌∷◌, ◌++◌, All, refl}
use Rattle.std.proofs.Common.{sym, ◌∙◌, subst}
use Rattle.std.proofs.lemmas.List.Elements.{All-nil, All-cons, All-append}
use Rattle.plane.specs.declared.kinds.Point.{Point}
use Rattle.plane.specs.declared.kinds.CurveKind.{CurveKind}
use Rattle.plane.specs.declared.kinds.CurveKind.TheVariants.{Straight, HalfArc}
use Rattle.plane.specs.Rule.Turns.{cross}
use Rattle.plane.specs.Rule.Windows.{IsInside, IsDrawn}
use Rattle.plane.specs.Rule.Plans.{straight, half_arc}
use Rattle.plane.proofs.Algebra.CrossProducts.{cross-round, differ_first}

-- ---- lists that gained what was added, or stayed
pub all_added : {X : Type 0} (P : X → Type 0) (b : Bool) (xs ys zs : List X) → All P xs → All P ys
    → zs ≡ cond b (xs ++ ys) xs → All P zs
all_added P true xs ys zs h k e = subst (All P) (sym e) (All-append P xs ys h k)
all_added P false xs ys zs h k e = subst (All P) (sym e) h

pub all_one : {X : Type 0} (P : X → Type 0) (x : X) → P x → All P (x ∷ [])
all_one P x h = All-cons P x [] h (All-nil P)

-- ---- curves
no_half_arc : (P : Type 0) → Straight ≡ HalfArc → P
no_half_arc P e = absurd (subst apart e tt)
  where
    apart : CurveKind → Type 0
    apart Straight = Unit {0}
    apart HalfArc = ⊥

no_straight : (P : Type 0) → HalfArc ≡ Straight → P
no_straight P e = no_half_arc P (sym e)

pub straight_drawn : (low high from to : Point) (line : ℕ) → IsInside low high from
    → IsInside low high to → (from ≡ to → ⊥)
    → IsDrawn low high (straight from to line)
straight_drawn low high from to line f t n =
    record { from = f; to = t; third = t; distinct = n; straight = λ e. refl; bent = no_half_arc _ }

half_arc_drawn : (low high from to third : Point) (line : ℕ) → IsInside low high from
    → IsInside low high to → IsInside low high third
    → (cross from to third ≡ pos 0 → ⊥) → IsDrawn low high (half_arc from to third line)
half_arc_drawn low high from to third line f t r n =
    record {
      from = f;
      to = t;
      third = r;
      distinct = differ_first from to third n;
      straight = no_straight _;
      bent = λ e. n;
    }

pub arc_drawn : (low high start on end : Point) (line_on line_end : ℕ) → IsInside low high start
    → IsInside low high on → IsInside low high end
    → (cross start on end ≡ pos 0 → ⊥)
    → All (IsDrawn low high) (half_arc start on end line_on ∷ half_arc on end start line_end
    ∷ [])
arc_drawn low high start on end line_on line_end s o e n =
    let first = half_arc start on end line_on in
    let second = half_arc on end start line_end in
    let turned : cross on end start ≡ pos 0 → ⊥ = λ z. n (sym (cross-round start on end) ∙ z) in
    All-cons (IsDrawn low high) first (second ∷ [])
    (half_arc_drawn low high start on end line_on s o e n)
    (all_one (IsDrawn low high) second (half_arc_drawn low high on end start line_end o e s turned))
