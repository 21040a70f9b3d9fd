-- Each half-edge is on the circle of one least half-edge, once.
use Rattle.std.proofs.Common.{◌≡◌, ◌≢◌, ℕ, zero, suc, ◌<◌, ◌≤◌, ◌+◌, arith, ap, sym, ◌∙◌, refl, inl}
use Rattle.std.proofs.Common.{inr, List, [], ◌∷◌, ◌++◌, subst}
use Rattle.std.proofs.lemmas.Bool.{cases_eq, cases_lt}
use Rattle.plane.specs.declared.kinds.Point.{Point}
use Rattle.plane.specs.Lists.{Has, Once}
use Rattle.half_edges.specs.Cycles.{steps}
use Rattle.half_edges.specs.HalfEdges.{HalfEdges, next_of, prev_of, size}
use Rattle.half_edges.specs.Meshes.{IsMesh}
use Rattle.polygons.specs.Circles.{IsLeast, Rising, way}
use Rattle.polygons.specs.Polygons.{AreTraced}
use Rattle.polygons.proofs.PlaneLaws.{each_has, has_append, has_back, has_front, once_append}
use Rattle.polygons.proofs.Rounds.{in_round, parts_of, steps-add, steps_first, way_back, within}
use Rattle.polygons.proofs.Sides.{halves_of}

-- a half-edge on the way from h, and how far
pub of_way : (m : HalfEdges) (n h g : ℕ) → Has g (way m h n)
    → (k : ℕ) × (k < n) × (g ≡ steps (next_of m) k h)
of_way m zero h g has = absurd has
of_way m (suc n) h g (inl e) = (0, omega arith, e)
of_way m (suc n) h g (inr has) =
    let (k, l, e) = of_way m n (next_of m h) g has in
    (suc k, omega (arith, l), e ∙ sym (steps_first (next_of m) k h))

pub in_way : (m : HalfEdges) (n k h : ℕ) → k < n → Has (steps (next_of m) k h) (way m h n)
in_way m zero k h l = absurd (omega (arith, l))
in_way m (suc n) zero h l = inl refl
in_way m (suc n) (suc k) h l =
    inr (subst (λ (g : ℕ). Has g (way m (next_of m h) n)) (sym (steps_first (next_of m) k h))
    (in_way m n k (next_of m h) (omega (arith, l))))

-- the least of some numbers
record IsLowest (v : ℕ → ℕ) (n j : ℕ) : Type 0 where
  pub there : j < suc n
  pub low : (k : ℕ) → k < suc n → v j ≤ v k

lowest : (v : ℕ → ℕ) (n : ℕ) → (j : ℕ) × IsLowest v n j
lowest v zero = (
  0,
  record {
    there = omega arith;
    low = λ k l. subst (λ (i : ℕ). v 0 ≤ v i) (let z : 0 ≡ k = omega (arith, l) in
        z) (omega arith);
  },
)
lowest v (suc n) =
    let (j, s) = lowest v n in
    let t = s.there in
    elim (cases_lt (v j) (v (suc n))) [
      | inl less ↦ (
        j,
        record {
          there = omega (arith, t);
          low = λ k l. elim (cases_eq k (suc n)) [
            | inl e ↦ subst (λ (i : ℕ). v j ≤ v i) (sym e) (omega (arith, less))
            | inr ne ↦ s.low k (omega (arith, l, ne))
          ];
        },
      )
      | inr more ↦ (
        suc n,
        record {
          there = omega arith;
          low = λ k l. elim (cases_eq k (suc n)) [
            | inl e ↦ subst (λ (i : ℕ). v (suc n) ≤ v i) (sym e) (omega arith)
            | inr ne ↦ (let b = s.low k (omega (arith, l, ne)) in omega (arith, b, more))
          ];
        },
      )
    ]

module _ (m : HalfEdges) (mesh : IsMesh m) where
  -- where c + 1 steps lead back, all steps are among the first ones
  soon : (c g : ℕ) → steps (next_of m) (suc c) g ≡ g → (k : ℕ)
      → (j : ℕ) × (j < suc c) × (steps (next_of m) j g ≡ steps (next_of m) k g)
  soon c g back zero = (0, omega arith, refl)
  soon c g back (suc k) =
      let (j, l, e) = soon c g back k in
      elim (cases_eq j c) [
        | inl q ↦ (
          0,
          omega arith,
          sym back
              ∙ (ap (λ (i : ℕ). next_of m (steps (next_of m) i g)) (sym q) ∙ ap (next_of m) e),
        )
        | inr ne ↦ (suc j, omega (arith, l, ne), ap (next_of m) e)
      ]

  pub least_on : (g : ℕ) → g < size m → (j : ℕ) × IsLeast m (steps (next_of m) j g)
  least_on g l =
      let f = next_of m in
      let b = (parts_of m mesh).back g (f g) l (record { count = 1; there = refl }) in
      let back : steps f (suc b.count) g ≡ g = steps_first f b.count g ∙ b.there in
      let (j, s) = lowest (λ k. steps f k g) b.count in (
        j,
        λ k. let (i, t, e) = soon b.count g back (k + j) in
            subst (λ (h : ℕ). steps f j g ≤ h) (e ∙ steps-add f k j g) (s.low i t),
      )

  -- ---- no half-edge stands twice
  undo : (k h : ℕ) → h < size m → steps (next_of m) k (next_of m h) ≡ next_of m h
      → steps (next_of m) k h ≡ h
  undo k h l e =
      sym (mesh.prev_next _ (within m mesh k h l))
      ∙ (ap (prev_of m) (steps_first (next_of m) k h ∙ e) ∙ mesh.prev_next h l)

  way_once : (n h : ℕ) → h < size m → ((k : ℕ) → 0 < k → k < n → steps (next_of m) k h ≢ h)
      → Once (way m h n)
  way_once zero h l apart = tt
  way_once (suc n) h l apart = (
    (λ has. let (k, s, e) = of_way m n (next_of m h) h has in
        apart (suc k) (omega arith) (omega (arith, s)) (steps_first (next_of m) k h ∙ sym e)),
    way_once n (next_of m h) (mesh.next_within h l)
        (λ k some less e. apart k some (omega (arith, less)) (undo k h l e)),
  )

  -- two least half-edges whose circles share one are one
  one_least : (h i a b : ℕ) → h < size m → i < size m → IsLeast m h → IsLeast m i
      → steps (next_of m) a h ≡ steps (next_of m) b i → h ≡ i
  one_least h i a b l k least low e =
      let f = next_of m in
      let to = way_back m mesh b i (steps f a h) k (sym e) in
      let from = way_back m mesh a h (steps f b i) l e in
      let p : h ≤ i = subst (λ (g : ℕ). h ≤ g) (steps-add f to.count a h ∙ to.there)
      (least (to.count + a)) in
      let q : i ≤ h = subst (λ (g : ℕ). i ≤ g) (steps-add f from.count b i ∙ from.there)
      (low (from.count + b)) in
      omega (arith, p, q)

  module _ (at : List Point) where
    pub halves_on : (hs : List ℕ) (rings : List (List Point)) (a : AreTraced m at hs rings) (g : ℕ)
        → Has g (halves_of m at hs rings a)
        → (h : ℕ) × Has h hs × (k : ℕ) × (g ≡ steps (next_of m) k h)
    halves_on [] rings a g has = absurd has
    halves_on (h ∷ hs) [] a g has = absurd has
    halves_on (h ∷ hs) (r ∷ rs) (t, a) g has =
        elim (has_append g (way m h t.count) (halves_of m at hs rs a) has) [
          | inl i ↦ (let (k, l, e) = of_way m t.count h g i in (h, inl refl, k, e))
          | inr i ↦ (let (j, s, k, e) = halves_on hs rs a g i in (j, inr s, k, e))
        ]

    pub halves_all : (hs : List ℕ) (rings : List (List Point)) (a : AreTraced m at hs rings)
        (h k : ℕ)
        → Has h hs → Has (steps (next_of m) k h) (halves_of m at hs rings a)
    halves_all [] rings a h k has = absurd has
    halves_all (i ∷ hs) [] a h k has = absurd a
    halves_all (i ∷ hs) (r ∷ rs) (t, a) h k (inl e) =
        let s = in_round m i t.count t.round k in
        has_front _ (way m i t.count) (halves_of m at hs rs a)
        (subst (λ (g : ℕ). Has g (way m i t.count)) (s.there ∙ ap (steps (next_of m) k) (sym e))
        (in_way m t.count s.count i s.soon))
    halves_all (i ∷ hs) (r ∷ rs) (t, a) h k (inr has) =
        has_back _ (way m i t.count) (halves_of m at hs rs a) (halves_all hs rs a h k has)

    pub halves_once : (hs : List ℕ) (rings : List (List Point)) (a : AreTraced m at hs rings)
        → Once hs → ((h : ℕ) → Has h hs → (h < size m) × IsLeast m h)
        → Once (halves_of m at hs rings a)
    halves_once [] rings a once only = tt
    halves_once (h ∷ hs) [] a once only = absurd a
    halves_once (h ∷ hs) (r ∷ rs) (t, a) (new, once) only =
        let (l, least) = only h (inl refl) in
        once_append (way m h t.count) (halves_of m at hs rs a) (way_once t.count h l t.round.first)
        (halves_once hs rs a once (λ g i. only g (inr i)))
        (λ g i j.
        let (k, s, e) = of_way m t.count h g i in
        let (o, has, b, q) = halves_on hs rs a g j in
        let (u, low) = only o (inr has) in
        new (subst (λ (x : ℕ). Has x hs) (sym (one_least h o k b l u least low (sym e ∙ q))) has))

-- ---- the order of rings
pub rising_once : (hs : List ℕ) → Rising hs → Once hs
rising_once [] r = tt
rising_once (h ∷ hs) (first, rest) = (
  (λ has. let l = each_has (λ g. h < g) hs h first has in absurd (omega (arith, l))),
  rising_once hs rest,
)

pub has_moved : (earlier later : List ℕ) (first g : ℕ) → Has g (earlier ++ first ∷ later)
    → Has g (first ∷ (earlier ++ later))
has_moved [] later first g has = has
has_moved (h ∷ hs) later first g (inl e) = inr (inl e)
has_moved (h ∷ hs) later first g (inr has) = elim (has_moved hs later first g has) [
  | inl e ↦ inl e
  | inr i ↦ inr (inr i)
]

pub has_unmoved : (earlier later : List ℕ) (first g : ℕ) → Has g (first ∷ (earlier ++ later))
    → Has g (earlier ++ first ∷ later)
has_unmoved [] later first g has = has
has_unmoved (h ∷ hs) later first g (inl e) = inr (has_unmoved hs later first g (inl e))
has_unmoved (h ∷ hs) later first g (inr (inl e)) = inl e
has_unmoved (h ∷ hs) later first g (inr (inr i)) = inr (has_unmoved hs later first g (inr i))

pub once_moved : (earlier later : List ℕ) (first : ℕ) → Once (earlier ++ first ∷ later)
    → Once (first ∷ (earlier ++ later))
once_moved [] later first o = o
once_moved (h ∷ hs) later first (new, o) =
    let (apart, rest) = once_moved hs later first o in (
      (λ has. elim has [
        | inl e ↦ new (has_unmoved hs later first h (inl (sym e)))
        | inr i ↦ apart i
      ]),
      ((λ i. new (has_unmoved hs later first h (inr i))), rest),
    )
