-- The rest of a drawing of straights without some curves, in whole and in half units, by the
-- numbers of those that stay.
use Rattle.std.proofs.Common.{◌≡◌, ◌⊎◌, ◌*ℤ◌, [], ◌∷◌, Bool, true, false, ℕ, ◌<◌, List, length}
use Rattle.std.proofs.Common.{slice_index, ℤ, pos, ◌≤ℤ◌, arith, refl, inl, inr, sym, ◌∙◌, subst, ap}
use Rattle.std.proofs.Common.{All}
use Rattle.std.proofs.lemmas.Bool.{cases_lt}
use Rattle.std.proofs.lemmas.List.{get_or-map, length-map}
use Rattle.plane.specs.declared.kinds.Curve.{Curve}
use Rattle.plane.specs.declared.kinds.CurveKind.TheVariants as kind
use Rattle.plane.specs.declared.kinds.Edge.{Edge}
use Rattle.plane.specs.Forms.Meets.{Bad}
use Rattle.plane.specs.Forms.Segments.{AreEdgesOf}
use Rattle.plane.specs.Rule.BadPairs.{IsBadPair, StraightsMeet, straights_meet}
use Rattle.plane.specs.Rule.Curves.{IsControl}
use Rattle.plane.specs.Rule.Doubled.{IsDoubled, halved, twice, twice_curve}
use Rattle.plane.specs.Rule.LeftOut.{AreStraightsOut, IsRestOf}
use Rattle.plane.specs.Rule.Places.{Vector, Same, point}
use Rattle.plane.specs.Rule.Plans.{Plan, curve}
use Rattle.plane.specs.Rule.Windows.{IsDrawn}
use Rattle.std.proofs.lemmas.Int.{ints}
use Rattle.plane.proofs.Algebra.Ring.{at, num, times, vars, ring}
use Rattle.plane.proofs.Covers.CurveEdges.{bad_edges_is}
use Rattle.plane.proofs.HalfUnits.DoubledCurves.{curve_halved}
use Rattle.plane.proofs.HalfUnits.DoubledForms.{halved_place}
use Rattle.plane.specs.declared.kinds.Point.{Point}
use Rattle.area_faults.specs.RestFaces.{half_plan, rest_plan}
use Rattle.area_faults.proofs.LeftPlaces.{IsRightOf}

true_false : {P : Type 0} (b : Bool) → b ≡ true → b ≡ false → P
true_false b e f = absurd (let q : true ≡ false = sym e ∙ f in cc)

-- a drawing in half units is one
pub is_doubled : (d : Plan) → IsDoubled d (half_plan d)
is_doubled d = record {
  count = length-map d.curves twice_curve;
  curves = λ i l. get_or-map twice_curve d.curves i _ _ l;
}

-- two straights in half units that meet badly do so in whole units
half_control : (c : Curve) (z : Vector) → IsControl c (halved z) → IsControl (twice_curve c) z
half_control c z h = elim h [ inl s ↦ inl (there c.from s) | inr s ↦ inr (there c.to s) ]
  where
    there : (p : Point) → Same (halved z) (point p) → Same z (point (twice p))
    there p s = record {
      x = (let a = s.x in let b = out p.x z.n in omega (arith, ints, a, b));
      y = (let a = s.y in let b = out p.y z.n in omega (arith, ints, a, b));
    }
      where
        out : (a n : ℤ) → a *ℤ (pos 2 *ℤ n) ≡ (pos 2 *ℤ a) *ℤ n
        out a n = ring (times (at 0) (times (num (pos 2)) (at 1)))
            (times (times (num (pos 2)) (at 0)) (at 1)) (vars (a ∷ n ∷ [])) refl

pub whole_meet : (c f : Curve) → StraightsMeet (twice_curve c) (twice_curve f) → StraightsMeet c f
whole_meet c f m = record {
  first = m.first;
  second = m.second;
  z = halved m.z;
  place = halved_place m.z m.place;
  on_first = curve_halved c m.z m.on_first;
  on_second = curve_halved f m.z m.on_second;
  no_control = λ both. m.no_control (half_control c m.z both.0, half_control f m.z both.1);
}

meet_back : (c f : Curve) → StraightsMeet c f → StraightsMeet f c
meet_back c f m = record {
  first = m.second;
  second = m.first;
  z = m.z;
  place = m.place;
  on_first = m.on_second;
  on_second = m.on_first;
  no_control = λ both. m.no_control (both.1, both.0);
}

module _ (d : Plan) (out : ℕ → Bool) (kept : List ℕ) (known : (m : ℕ) → m < length kept
    → slice_index kept m < length d.curves)
    (stays : (m : ℕ) → m < length kept → out (slice_index kept m) ≡ false)
    (rising : (m n : ℕ) → m < n → n < length kept → slice_index kept m < slice_index kept n)
    (whole : (i : ℕ) → i < length d.curves → out i ≡ false
    → (m : ℕ) × (m < length kept) × (slice_index kept m ≡ i)) where
  abbrev pub r : Plan
  r = rest_plan d kept

  abbrev pub e : Plan
  e = half_plan (rest_plan d kept)

  pub rest_count : length (rest_plan d kept).curves ≡ length kept
  rest_count = length-map kept (λ (i : ℕ). curve d i)

  pub inside : (k : ℕ) → k < length (rest_plan d kept).curves → k < length kept
  inside k l = let n = rest_count in omega (arith, l, n)

  pub rest_curve : (k : ℕ) → k < length (rest_plan d kept).curves
      → curve (rest_plan d kept) k ≡ curve d (slice_index kept k)
  rest_curve k l = get_or-map (λ (i : ℕ). curve d i) kept k 0 _ (inside k l)

  pub once : (k l : ℕ) → k < length kept → l < length kept → slice_index kept k ≡ slice_index kept l
      → k ≡ l
  once k l m n q = elim (cases_lt k l) [
    | inl b ↦ absurd (let s = rising k l b n in omega (arith, s, q))
    | inr b ↦ elim (cases_lt l k) [
      | inl c ↦ absurd (let s = rising l k c m in omega (arith, s, q))
      | inr c ↦ omega (arith, b, c)
    ]
  ]

  pub by_mark : (b : Bool) → (b ≡ true) ⊎ (b ≡ false)
  by_mark true = inl refl
  by_mark false = inr refl

  unfoldable pub is_rest : IsRestOf d (rest_plan d kept) out
  is_rest = record {
    number = λ k. slice_index kept k;
    there = λ k l. known k (inside k l);
    is = λ k l. sym (rest_curve k l);
    once = λ k l m n q. once k l (inside k m) (inside l n) q;
    whole = λ i l. elim (by_mark (out i)) [
      | inl q ↦ inl q
      | inr q ↦ inr (let (m, n, s) = whole i l q in
          (m, (let z = rest_count in omega (arith, n, z)), s))
    ];
    points = refl;
  }

  module _ (straights : (i : ℕ) → i < length d.curves → (curve d i).kind ≡ kind.Straight) where
    pub rest_straights : (k : ℕ) → k < length (rest_plan d kept).curves
        → (curve (rest_plan d kept) k).kind ≡ kind.Straight
    rest_straights k l = ap (λ (c : Curve). c.kind) (rest_curve k l)
        ∙ straights (slice_index kept k) (known k (inside k l))

    module _ (pairs : (i j : ℕ) → IsBadPair d i j → (out i ≡ true) × (out j ≡ true)) where
      -- a curve that stays meets no other badly
      never : (i m : ℕ) → i < length d.curves → m < length kept → (i ≡ slice_index kept m → ⊥)
          → StraightsMeet (curve d i) (curve d (slice_index kept m)) → ⊥
      never i m l n differ meet =
          let j = slice_index kept m in
          elim (cases_lt i j) [
            | inl b ↦ true_false (out j)
                (pairs i j (record { order = b; there = known m n; bad = straights_meet meet })).1
                (stays m n)
            | inr b ↦ elim (cases_lt j i) [
              | inl c ↦ true_false (out j)
                  (pairs j i (record {
                    order = c;
                    there = l;
                    bad = straights_meet (meet_back (curve d i) (curve d j) meet);
                  })).0 (stays m n)
              | inr c ↦ differ (omega (arith, b, c))
            ]
          ]

      pub outs : AreStraightsOut d (rest_plan d kept) out
      outs i l left = (
        straights i l,
        λ k m. (
          rest_straights k m,
          λ meet.
              never i k l (inside k m)
              (λ q. true_false (out i) left (ap out q ∙ stays k (inside k m)))
              (subst (λ (c : Curve). StraightsMeet (curve d i) c) (rest_curve k m) meet),
        ),
      )

      -- no two edges of the rest in half units are bad
      pub none_bad : (E : ℕ → Edge) → AreEdgesOf E (half_plan (rest_plan d kept)) → (a b : ℕ)
          → a < length kept → b < length kept → (a ≡ b → ⊥) → Bad (E a) (E b) → ⊥
      none_bad E edges a b l m differ bad =
          let ra : a < length r.curves = (let z = rest_count in omega (arith, l, z)) in
          let rb : b < length r.curves = (let z = rest_count in omega (arith, m, z)) in
          let ea : a < length e.curves = (let z = (is_doubled r).count in omega (arith, ra, z)) in
          let eb : b < length e.curves = (let z = (is_doubled r).count in omega (arith, rb, z)) in
          let meet = (bad_edges_is (E a) (E b) (curve e a) (curve e b) (edges.edge a ea)
          (edges.edge b eb) (edges.straight a ea) (edges.straight b eb)).0 bad in
          let turned = subst (λ (c : Curve). StraightsMeet c (twice_curve (curve r b)))
          ((is_doubled r).curves a ra)
          (subst (λ (c : Curve). StraightsMeet (curve e a) c)
          ((is_doubled r).curves b rb) meet) in
          let there = whole_meet (curve r a) (curve r b) turned in
          never (slice_index kept a) b (known a l) m (λ q. differ (once a b l m q))
          (subst (λ (c : Curve). StraightsMeet c (curve d (slice_index kept b))) (rest_curve a ra)
          (subst (λ (c : Curve). StraightsMeet (curve r a) c) (rest_curve b rb) there))

  -- ---- the window
  module _ (low high : Point) (drawn : All (λ (c : Curve). IsDrawn low high c) d.curves) where
    pub is_drawn : (i : ℕ) → i < length d.curves → IsDrawn low high (curve d i)
    is_drawn i l = drawn i _ l

    pub wide : (i : ℕ) → i < length d.curves → out i ≡ true → (curve d i).from ≡ (curve d i).to → ⊥
    wide i l left = (is_drawn i l).distinct

    pub is_right : ((i : ℕ) → i < length d.curves → (curve d i).kind ≡ kind.Straight)
        → IsRightOf low.x (rest_plan d kept)
    is_right straights = record {
      straight = rest_straights straights;
      from = λ k l. subst (λ (c : Curve). low.x ≤ℤ c.from.x) (sym (rest_curve k l))
          (is_drawn (slice_index kept k) (known k (inside k l))).from.left;
      to = λ k l. subst (λ (c : Curve). low.x ≤ℤ c.to.x) (sym (rest_curve k l))
          (is_drawn (slice_index kept k) (known k (inside k l))).to.left;
    }
