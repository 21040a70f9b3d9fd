-- The bounds of a tube are the arrows of its edges, each with the tube on its left; its edges by
-- number.
use Rattle.std.proofs.Common.{◌≡◌, ℕ, suc, ◌+◌, ◌<◌, ◌≤◌, Bool, true, false, List, [], ◌∷◌, ◌++◌}
use Rattle.std.proofs.Common.{map, length, ◌⊎◌, inl, inr, refl, arith, ap, sym, ◌∙◌}
use Rattle.plane.specs.declared.kinds.Point.{Point}
use Rattle.plane.specs.Lists.{Has, Once}
use Rattle.plane.specs.Forms.Vectors.{Edge}
use Rattle.plane.specs.Faces.Halves.{Half, edge_of}
use Rattle.plane.specs.Tubes.Bays.{Bay}
use Rattle.plane.specs.Tubes.Windings.{arrow, fence, bounds}
use Rattle.plane.specs.CurveRuns.TubedRuns.{inner, outer, Owned, chain, inner_corners}
use Rattle.plane.specs.CurveRuns.TubedRuns.{outer_corners, inward, backward, onward_edges}
use Rattle.plane.specs.CurveRuns.TubedRuns.{backward_edges}
use Rattle.plane.proofs.ListLemmas.Lists.{has_append, has_front, has_back}
use Rattle.plane.proofs.Windings.Under.{by_order}
use Rattle.plane.proofs.TubedRuns.EdgeNumbers.{IsFrom}
use Rattle.plane.proofs.OneTube.BackwardBays.{last_inner, last_outer, last_outer_end, last_backward}

-- ---- lists
pub map_append : {X Y : Type 0} (f : X → Y) (xs ys : List X)
    → map f (xs ++ ys) ≡ map f xs ++ map f ys
map_append {Y = Y} f [] ys = refl
map_append {Y = Y} f (x ∷ xs) ys = ap (λ (zs : List Y). f x ∷ zs) (map_append f xs ys)

pub once_append : (xs ys : List ℕ) → Once xs → Once ys → ((x : ℕ) → Has x xs → Has x ys → ⊥)
    → Once (xs ++ ys)
once_append [] ys a b d = b
once_append (x ∷ xs) ys a b d = (
  (λ m. elim (has_append x xs ys m) [ inl i ↦ a.0 i | inr i ↦ d x (inl refl) i ]),
  once_append xs ys a.1 b (λ y i j. d y (inr i) j),
)

pub edges_back : (within : ℕ → Half) (ns : List ℕ) → ((n : ℕ) → Has n ns → edge_of (within n) ≡ n)
    → map edge_of (map within ns) ≡ ns
edges_back within [] h = refl
edges_back within (n ∷ ns) h = ap (λ (x : ℕ). x ∷ map edge_of (map within ns)) (h n (inl refl))
    ∙ ap (λ (xs : List ℕ). n ∷ xs) (edges_back within ns (λ k m. h k (inr m)))

pub map_same : {X : Type 0} (f g : ℕ → X) (ns : List ℕ) → ((n : ℕ) → Has n ns → f n ≡ g n)
    → map f ns ≡ map g ns
map_same {X = X} f g [] h = refl
map_same {X = X} f g (n ∷ ns) h = ap (λ (x : X). x ∷ map f ns) (h n (inl refl))
    ∙ ap (λ (xs : List X). g n ∷ xs) (map_same f g ns (λ k m. h k (inr m)))

pub map_twice : {X Y Z : Type 0} (f : Y → Z) (g : X → Y) (xs : List X)
    → map f (map g xs) ≡ map (λ x. f (g x)) xs
map_twice {Z = Z} f g [] = refl
map_twice {Z = Z} f g (x ∷ xs) = ap (λ (zs : List Z). f (g x) ∷ zs) (map_twice f g xs)

-- ---- bounds
module _ (f : ℕ → Owned) (i : ℕ) where
  abbrev inward_of : Bool → ℕ → Edge
  inward_of left n = inward left (f n).part (f n).from (f n).to

  inward_at : (left : Bool) (n : ℕ) (o : Owned) → f n ≡ o
      → inward_of left n ≡ inward left o.part o.from o.to
  inward_at left n o e = ap (λ (x : Owned). inward left x.part x.from x.to) e

  pub onward_bounds : (s n : ℕ) (p u e : Point) (bs : List Bay)
      → IsFrom f s (chain i inner p (inner_corners bs))
      → IsFrom f n (chain i outer u (outer_corners bs ++ e ∷ [])) → last_inner p bs ≡ e
      → fence p u bs ≡ map (inward_of false) (onward_edges s n bs)
  onward_bounds s n p u e [] a b q =
      ap (λ (x : Edge). x ∷ []) (ap (λ (x : Point). arrow x u) q ∙ sym (inward_at false n _ b.0))
  onward_bounds s n p u e (k ∷ ks) a b q =
      ap (λ (x : Edge). x ∷ arrow k.outer u ∷ fence k.inner k.outer ks)
      (sym (inward_at false s _ a.0))
      ∙ ap (λ (x : Edge). inward_of false s ∷ x ∷ fence k.inner k.outer ks)
      (sym (inward_at false n _ b.0))
      ∙ ap (λ (xs : List Edge). inward_of false s ∷ inward_of false n ∷ xs)
      (onward_bounds (suc s) (suc n) k.inner k.outer e ks a.1 b.1 q)

  -- the bounds but for the last one
  abbrev body : Point → Point → List Bay → List Edge
  body p u [] = []
  body p u (k ∷ ks) = arrow p k.inner ∷ arrow k.outer u ∷ body k.inner k.outer ks

  fence_body : (p u : Point) (ks : List Bay)
      → fence p u ks ≡ body p u ks ++ arrow (last_inner p ks) (last_outer u ks) ∷ []
  fence_body p u [] = refl
  fence_body p u (k ∷ ks) =
      ap (λ (xs : List Edge). arrow p k.inner ∷ arrow k.outer u ∷ xs)
      (fence_body k.inner k.outer ks)

  body_end : (p u : Point) (ks : List Bay) (k : Bay)
      → body p u (ks ++ k ∷ []) ≡ body p u ks ++ arrow (last_inner p ks) k.inner
      ∷ arrow k.outer (last_outer u ks) ∷ []
  body_end p u [] k = refl
  body_end p u (d ∷ ks) k =
      ap (λ (xs : List Edge). arrow p d.inner ∷ arrow d.outer u ∷ xs)
      (body_end d.inner d.outer ks k)

  -- the outer edges after the first one
  abbrev IsOuterFrom : ℕ → Point → List Bay → Type 0
  IsOuterFrom n e [] = Unit {0}
  IsOuterFrom n e (b ∷ bs) = IsFrom f n (chain i outer b.outer (outer_corners bs ++ e ∷ []))

  outer_step : (n : ℕ) (b : Bay) (e : Point) (bs : List Bay) → IsOuterFrom n e (b ∷ bs)
      → (inward_of true n ≡ arrow b.outer (last_outer e (backward b.inner bs)))
      × IsOuterFrom (suc n) e bs
  outer_step n b e [] h = (inward_at true n _ h.0, tt)
  outer_step n b e (d ∷ bs) h = (
    inward_at true n _ h.0
        ∙ ap (λ (x : Point). arrow b.outer x)
        (sym (last_outer_end e (backward d.inner bs) (record { outer = d.outer; inner = b.inner }))),
    h.1,
  )

  backward_body : (s n : ℕ) (a e : Point) (bs : List Bay)
      → IsFrom f s (chain i inner a (inner_corners bs)) → IsOuterFrom n e bs → last_inner a bs ≡ e
      → body e e (backward a bs) ≡ map (inward_of true) (backward_edges s n bs)
  backward_body s n a e [] h o q = refl
  backward_body s n a e (b ∷ bs) h o q =
      let k : Bay = record { outer = b.outer; inner = a } in
      let step = outer_step n b e bs o in
      body_end e e (backward b.inner bs) k
      ∙ ap (λ (xs : List Edge). xs ++ arrow (last_inner e (backward b.inner bs)) a
      ∷ arrow b.outer (last_outer e (backward b.inner bs)) ∷ [])
      (backward_body (suc s) (suc n) b.inner e bs h.1 step.1 q)
      ∙ ap (λ (x : Edge). map (inward_of true) (backward_edges (suc s) (suc n) bs) ++ x
      ∷ arrow b.outer (last_outer e (backward b.inner bs)) ∷ [])
      (ap (λ (x : Point). arrow x a) (last_backward e b.inner bs q)
      ∙ sym (inward_at true s _ h.0))
      ∙ ap (λ (x : Edge). map (inward_of true) (backward_edges (suc s) (suc n) bs)
      ++ inward_of true s ∷ x ∷ []) (sym step.0)
      ∙ sym (map_append (inward_of true) (backward_edges (suc s) (suc n) bs) (s ∷ n ∷ []))

  pub backward_bounds : (s n : ℕ) (a e : Point) (b : Bay) (bs : List Bay)
      → IsFrom f s (chain i inner a (inner_corners (b ∷ bs)))
      → IsFrom f n (chain i outer a (outer_corners (b ∷ bs) ++ e ∷ [])) → last_inner a (b ∷ bs) ≡ e
      → bounds e (backward a (b ∷ bs)) ≡ map (inward_of true)
      (backward_edges s (suc n) (b ∷ bs) ++ n ∷ [])
  backward_bounds s n a e b bs h o q =
      let k : Bay = record { outer = b.outer; inner = a } in
      fence_body e e (backward a (b ∷ bs))
      ∙ ap (λ (xs : List Edge). xs ++ arrow (last_inner e (backward a (b ∷ bs)))
      (last_outer e (backward a (b ∷ bs))) ∷ []) (backward_body s (suc n) a e (b ∷ bs) h o.1 q)
      ∙ ap (λ (x : Edge). map (inward_of true) (backward_edges s (suc n) (b ∷ bs)) ++ x ∷ [])
      (ap (λ (x : Point). arrow x (last_outer e (backward a (b ∷ bs))))
      (last_backward e a (b ∷ bs) q)
      ∙ ap (λ (x : Point). arrow a x) (last_outer_end e (backward b.inner bs) k)
      ∙ sym (inward_at true n _ o.0))
      ∙ sym (map_append (inward_of true) (backward_edges s (suc n) (b ∷ bs)) (n ∷ []))

-- ---- numbers
abbrev pub IsAmong : ℕ → ℕ → ℕ → Type 0
IsAmong x s k = (s ≤ x) × (x < (s + k))

among_more : (x s k : ℕ) → IsAmong x (suc s) k → IsAmong x s (suc k)
among_more x s k h = let a = h.0 in let b = h.1 in (omega (arith, a), omega (arith, b))

here : (x s k : ℕ) → x ≡ s → IsAmong x s (suc k)
here x s k e = (omega (arith, e), omega (arith, e))

rest : (x s k : ℕ) → IsAmong x s (suc k) → (x ≡ s) ⊎ IsAmong x (suc s) k
rest x s k h =
    let a = h.0 in
    let b = h.1 in
    by_order s x (λ (l : s < x). inr (omega (arith, l), omega (arith, b)))
    (λ (l : x ≤ s). inl (omega (arith, a, l)))

pub onward_among : (s n x : ℕ) (bs : List Bay) → Has x (onward_edges s n bs)
    → IsAmong x s (length bs) ⊎ IsAmong x n (suc (length bs))
onward_among s n x [] (inl e) = inr (here x n 0 e)
onward_among s n x [] (inr h) = absurd h
onward_among s n x (b ∷ bs) (inl e) = inl (here x s (length bs) e)
onward_among s n x (b ∷ bs) (inr (inl e)) = inr (here x n (suc (length bs)) e)
onward_among s n x (b ∷ bs) (inr (inr h)) =
    elim (onward_among (suc s) (suc n) x bs h) [
      | inl i ↦ inl (among_more x s (length bs) i)
      | inr i ↦ inr (among_more x n (suc (length bs)) i)
    ]

none_among : (x s : ℕ) → IsAmong x s 0 → ⊥
none_among x s h = let a = h.0 in let b = h.1 in omega (arith, a, b)

pub among_onward : (s n x : ℕ) (bs : List Bay)
    → IsAmong x s (length bs) ⊎ IsAmong x n (suc (length bs)) → Has x (onward_edges s n bs)
among_onward s n x [] (inl h) = absurd (none_among x s h)
among_onward s n x [] (inr h) =
    elim (rest x n 0 h) [ inl e ↦ inl e | inr i ↦ absurd (none_among x (suc n) i) ]
among_onward s n x (b ∷ bs) (inl h) =
    elim (rest x s (length bs) h) [
      | inl e ↦ inl e
      | inr i ↦ inr (inr (among_onward (suc s) (suc n) x bs (inl i)))
    ]
among_onward s n x (b ∷ bs) (inr h) =
    elim (rest x n (suc (length bs)) h) [
      | inl e ↦ inr (inl e)
      | inr i ↦ inr (inr (among_onward (suc s) (suc n) x bs (inr i)))
    ]

not_both : (x s n k j : ℕ) → (s + k) ≤ n → IsAmong x s k → IsAmong x n j → ⊥
not_both x s n k j l a b = let c = a.1 in let d = b.0 in omega (arith, l, c, d)

pub onward_once : (s n : ℕ) (bs : List Bay) → (s + length bs) ≤ n → Once (onward_edges s n bs)
onward_once s n [] l = ((λ h. h), tt)
onward_once s n (b ∷ bs) l = (
  (λ h. elim h [
    | inl e ↦ omega (arith, l, e)
    | inr m ↦ elim (onward_among (suc s) (suc n) s bs m) [
      | inl i ↦ (let a = i.0 in omega (arith, a))
      | inr i ↦ (let a = i.0 in omega (arith, a, l))
    ]
  ]),
  (
    (λ m. elim (onward_among (suc s) (suc n) n bs m) [
      | inl i ↦ (let a = i.1 in omega (arith, a, l))
      | inr i ↦ (let a = i.0 in omega (arith, a))
    ]),
    onward_once (suc s) (suc n) bs (omega (arith, l)),
  ),
)

pub backward_among : (s n x : ℕ) (bs : List Bay) → Has x (backward_edges s n bs)
    → IsAmong x s (length bs) ⊎ IsAmong x n (length bs)
backward_among s n x [] h = absurd h
backward_among s n x (b ∷ bs) h =
    elim (has_append x (backward_edges (suc s) (suc n) bs) (s ∷ n ∷ []) h) [
      | inl m ↦ elim (backward_among (suc s) (suc n) x bs m)
          [ inl i ↦ inl (among_more x s (length bs) i) | inr i ↦ inr (among_more x n (length bs) i) ]
      | inr m ↦ elim m [
        | inl e ↦ inl (here x s (length bs) e)
        | inr o ↦ elim o [ inl e ↦ inr (here x n (length bs) e) | inr v ↦ absurd v ]
      ]
    ]

pub among_backward : (s n x : ℕ) (bs : List Bay) → IsAmong x s (length bs) ⊎ IsAmong x n (length bs)
    → Has x (backward_edges s n bs)
among_backward s n x [] (inl h) = absurd (none_among x s h)
among_backward s n x [] (inr h) = absurd (none_among x n h)
among_backward s n x (b ∷ bs) (inl h) = elim (rest x s (length bs) h) [
  | inl e ↦ has_back x (backward_edges (suc s) (suc n) bs) (s ∷ n ∷ []) (inl e)
  | inr i ↦ has_front x (backward_edges (suc s) (suc n) bs) (s ∷ n ∷ [])
      (among_backward (suc s) (suc n) x bs (inl i))
]
among_backward s n x (b ∷ bs) (inr h) = elim (rest x n (length bs) h) [
  | inl e ↦ has_back x (backward_edges (suc s) (suc n) bs) (s ∷ n ∷ []) (inr (inl e))
  | inr i ↦ has_front x (backward_edges (suc s) (suc n) bs) (s ∷ n ∷ [])
      (among_backward (suc s) (suc n) x bs (inr i))
]

pub backward_once : (s n : ℕ) (bs : List Bay) → (s + length bs) ≤ n → Once (backward_edges s n bs)
backward_once s n [] l = tt
backward_once s n (b ∷ bs) l =
    once_append (backward_edges (suc s) (suc n) bs) (s ∷ n ∷ [])
    (backward_once (suc s) (suc n) bs (omega (arith, l)))
    ((λ h. elim h [ inl e ↦ omega (arith, l, e) | inr v ↦ v ]), ((λ v. v), tt))
    (λ x m o. elim (backward_among (suc s) (suc n) x bs m) [
      | inl i ↦ (let a = i.0 in let c = i.1 in
          elim o [
            | inl e ↦ omega (arith, a, e)
            | inr p ↦ elim p [ inl e ↦ omega (arith, c, l, e) | inr v ↦ v ]
          ])
      | inr i ↦ (let a = i.0 in
          elim o [
            | inl e ↦ omega (arith, a, l, e)
            | inr p ↦ elim p [ inl e ↦ omega (arith, a, e) | inr v ↦ v ]
          ])
    ])
