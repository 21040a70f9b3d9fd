-- What is read off the faces, one place or one curve more.
use Rattle.std.proofs.Common.{◌≡◌, Bool, true, false, ℕ, zero, suc, ◌+◌, ◌<◌, ◌≤◌, Option, Some}
use Rattle.std.proofs.Common.{None, List, length, replicate, set, slice_index, arith, refl, inl}
use Rattle.std.proofs.Common.{inr, sym, ◌∙◌, subst, ap}
use Rattle.std.proofs.lemmas.Bool.{cases_lt}
use Rattle.std.proofs.lemmas.List.{get_or-set_other, get_or-set_same, length-set}
use Rattle.fault_lists.specs.declared.faces.CurveFaces.{CurveFaces}
use Rattle.meetings.specs.StraightEdges.{IsRising}
use Rattle.near_pairs.specs.Boxes.{mark_of}
use Rattle.plane.specs.declared.kinds.Curve.{Curve}
use Rattle.point_location.specs.declared.places.Place.{Place}
use Rattle.tubes.specs.DrawnEdges.{nth_curve}
use Rattle.area_faults.specs.RestFaces.{AreCurveFacesTo, AreOpenTo, AreSidesOf, IsOpenedBy}
use Rattle.area_faults.specs.RestFaces.{place_at, place_face, sides_at}

-- ---- open faces
all_false : (k n : ℕ) → mark_of (replicate k false) n ≡ false
all_false zero n = refl
all_false (suc k) zero = refl
all_false (suc k) (suc n) = all_false k n

pub none_open : (faces : List ℕ) (count : ℕ) (places : List Place) (first : ℕ) (marks : List Bool)
    → length marks ≡ count → marks ≡ replicate count false
    → AreOpenTo faces count places first first marks
none_open faces count places first marks size e = record {
  size = size;
  opened = λ j n a b. absurd (omega (arith, a, b));
  only = λ n t. absurd (let q : true ≡ false = sym t ∙ ap (λ (ms : List Bool). mark_of ms n) e
      ∙ all_false count n in cc);
}

pub open_more : (faces : List ℕ) (count : ℕ) (places : List Place) (first k : ℕ)
    (old new : List Bool) (p : Place)
    → place_at places k ≡ p → first ≤ k → IsOpenedBy faces p old new
    → AreOpenTo faces count places first k old → AreOpenTo faces count places first (k + 1) new
open_more faces count places first k old new p here l is a = record {
  size = is.size ∙ a.size;
  opened = λ j n b c e. elim (cases_lt j k) [
    | inl d ↦ is.still n (a.opened j n b d e)
    | inr d ↦ (let q : j ≡ k = omega (arith, c, d) in
        is.opened n (sym (ap (place_face faces) (ap (place_at places) q ∙ here)) ∙ e))
  ];
  only = λ n t. elim (is.only n t) [
    | inl o ↦ (let (j, b, c, e) = a.only n o in (j, b, omega (arith, c), e))
    | inr o ↦ (k, l, omega arith, ap (place_face faces) here ∙ o)
  ];
}

-- ---- the faces of curves
pub no_curves : (curves : List Curve) (kept faces : List ℕ) (fs : List (Option CurveFaces)) (n : ℕ)
    → n ≡ length curves → fs ≡ replicate n None → length fs ≡ n
    → AreCurveFacesTo curves kept faces 0 fs
no_curves curves kept faces fs n e q size = record {
  size = size ∙ e;
  each = λ m l. absurd (omega (arith, l));
  none = λ i h. ap (λ (xs : List (Option CurveFaces)). sides_at xs i) q ∙ all_none n i;
}
  where
    all_none : (k i : ℕ) → sides_at (replicate k None) i ≡ None
    all_none zero i = refl
    all_none (suc k) zero = refl
    all_none (suc k) (suc i) = all_none k i

pub curve_more : (curves : List Curve) (kept faces : List ℕ) (k : ℕ)
    (old new : List (Option CurveFaces)) (g : CurveFaces)
    → k < length kept → slice_index kept k < length curves → IsRising kept
    → new ≡ set old (slice_index kept k) (Some g)
    → AreSidesOf (nth_curve curves (slice_index kept k)) faces k g
    → AreCurveFacesTo curves kept faces k old → AreCurveFacesTo curves kept faces (k + 1) new
curve_more curves kept faces k old new g l there rising e sides a =
    let n = slice_index kept k in
    let at_new : (i : ℕ) → sides_at new i
    ≡ sides_at (set old n (Some g)) i =
    λ i. ap (λ (xs : List (Option CurveFaces)). sides_at xs i) e in
    record {
      size = ap length e ∙ length-set old n (Some g) ∙ a.size;
      each = λ m b. elim (cases_lt m k) [
        | inl c ↦ (
            let (f, f_is, s) = a.each m c in
            let r = rising m k c l in (
              f,
              at_new (slice_index kept m)
                  ∙ get_or-set_other old n (slice_index kept m) (Some g) None
                  (λ q. omega (arith, r, q)) ∙ f_is,
              s,
            ))
        | inr c ↦ (
            let q : k ≡ m = omega (arith, b, c) in
            let s = a.size in (
              g,
              ap (λ (x : ℕ). sides_at new (slice_index kept x)) (sym q) ∙ at_new n
                  ∙ get_or-set_same old n (Some g) None (omega (arith, there, s)),
              subst (λ (x : ℕ). AreSidesOf (nth_curve curves (slice_index kept x)) faces x g) q
                  sides,
            ))
      ];
      none = λ i h. at_new i
          ∙ get_or-set_other old n i (Some g) None (λ q. h k (omega arith) (sym q))
          ∙ a.none i (λ m b. h m (omega (arith, b)));
    }
