-- The two chains of one half arc's tube: along the chord each goes from the half arc's first end to
-- its second one, and they share no other corner.
use Rattle.std.proofs.Common.{◌≡◌, ◌⊎◌, ℕ, suc, ◌<◌, List, [], ◌∷◌, ◌++◌, length, get_or}
use Rattle.std.proofs.Common.{ℤ, ◌<ℤ◌, ◌≤ℤ◌, inl, inr, refl, sym, ap, subst, ◌∙◌, arith}
use Rattle.std.proofs.lemmas.Int.{ints}
use Rattle.plane.specs.CurveRuns.TubedRuns.{Owned, Part, chain, edges_of, inner, inner_corners}
use Rattle.plane.specs.CurveRuns.TubedRuns.{no_edge, outer, outer_corners, whole}
use Rattle.plane.specs.Forms.Arcs.{HalfArc, along}
use Rattle.plane.specs.Forms.Vectors.{point}
use Rattle.plane.specs.Lists.{Each, Has, Last}
use Rattle.plane.specs.Rule.Curves.{arc}
use Rattle.plane.specs.Tubes.Bays.{AreBays, Bay, IsSome, IsTube}
use Rattle.plane.specs.declared.kinds.Curve.{Curve}
use Rattle.plane.specs.declared.kinds.CurveKind.TheVariants as kind
use Rattle.plane.specs.declared.kinds.Point.{Point}
use Rattle.area_search.proofs.SettledLemmas.ChainLaws.{Pairs, each_append, pairs_append}

-- the last point of a way
abbrev pub last_point : Point → List Point → Point
last_point p [] = p
last_point p (q ∷ qs) = last_point q qs

module _ (h : HalfArc) where
  abbrev pub A : Point → ℤ
  A p = along h (point p)

  -- the points rise along the chord
  abbrev pub Climbs : Point → List Point → Type 0
  Climbs p [] = Unit {0}
  Climbs p (q ∷ qs) = (A p <ℤ A q) × Climbs q qs

  step_up : (a b c : ℤ) → a <ℤ b → b <ℤ c → a <ℤ c
  step_up a b c l k = omega (arith, ints, l, k)

  step_on : (a b c : ℤ) → a <ℤ b → b ≤ℤ c → a ≤ℤ c
  step_on a b c l k = omega (arith, ints, l, k)

  same_least : (a : ℤ) → a ≤ℤ a
  same_least a = omega (arith, ints)

  inner_climbs : (p : Point) (bs : List Bay) → AreBays h p bs → Climbs p (inner_corners bs)
  inner_climbs p [] a = tt
  inner_climbs p (b ∷ bs) a = (step_up _ _ _ a.0.up a.0.on, inner_climbs b.inner bs a.1)

  outer_later : (q p e : Point) (bs : List Bay) → A q <ℤ A p → last_point p (inner_corners bs) ≡ e
      → AreBays h p bs → Climbs q (outer_corners bs ++ e ∷ [])
  outer_later q p e [] r l a = (subst (λ (x : Point). A q <ℤ A x) l r, tt)
  outer_later q p e (b ∷ bs) r l a =
      (step_up _ _ _ r a.0.up, outer_later b.outer b.inner e bs a.0.on l a.1)

  outer_climbs : (p e : Point) (b : Bay) (bs : List Bay)
      → last_point p (inner_corners (b ∷ bs)) ≡ e → AreBays h p (b ∷ bs)
      → Climbs p (outer_corners (b ∷ bs) ++ e ∷ [])
  outer_climbs p e b bs l a = (a.0.up, outer_later b.outer b.inner e bs a.0.on l a.1)

  -- ---- a way that climbs
  least : (p : Point) (qs : List Point) → Climbs p qs → A p ≤ℤ A (last_point p qs)
  least p [] c = same_least (A p)
  least p (q ∷ qs) c = step_on _ _ _ c.0 (least q qs c.1)

  -- An edge rises, from the first point or above it to the last one or below it.
  pub record IsBetween (start stop : Point) (o : Owned) : Type 0 where
    pub rises : A o.from <ℤ A o.to
    pub low : A start ≤ℤ A o.from
    pub high : A o.to ≤ℤ A stop

  lower : (low p high : Point) (os : List Owned) → A low ≤ℤ A p → Each (IsBetween p high) os
      → Each (IsBetween low high) os
  lower low p high [] l e = tt
  lower low p high (o ∷ os) l e = (
    record {
      rises = e.0.rises;
      low = (let k = e.0.low in omega (arith, ints, l, k));
      high = e.0.high;
    },
    lower low p high os l e.1,
  )

  betweens : (i : ℕ) (part : Part) (p : Point) (qs : List Point) → Climbs p qs
      → Each (IsBetween p (last_point p qs)) (chain i part p qs)
  betweens i part p [] c = tt
  betweens i part p (q ∷ qs) c = (
    record { rises = c.0; low = same_least (A p); high = least q qs c.1 },
    lower p q (last_point q qs) (chain i part q qs)
        (let k = c.0 in omega (arith, ints, k)) (betweens i part q qs c.1),
  )

  -- of one part, the second edge begins where the first one ends or after it
  abbrev pub Follow : Owned → Owned → Type 0
  Follow x y = x.part ≡ y.part → A x.to ≤ℤ A y.from

  after : (x : Owned) (high : Point) (os : List Owned) → Each (IsBetween x.to high) os
      → Each (Follow x) os
  after x high [] e = tt
  after x high (o ∷ os) e = ((λ same. e.0.low), after x high os e.1)

  in_order : (i : ℕ) (part : Part) (p : Point) (qs : List Point) → Climbs p qs
      → Pairs Follow (chain i part p qs)
  in_order i part p [] c = tt
  in_order i part p (q ∷ qs) c = (
    after (record { from = p; to = q; curve = i; part = part }) (last_point q qs)
        (chain i part q qs) (betweens i part q qs c.1),
    in_order i part q qs c.1,
  )

  -- ---- the corners of both chains
  higher : (v : Point) (bs : List Bay) (x : Bay) → AreBays h v bs → Has x bs
      → (A v <ℤ A x.outer) × (A v <ℤ A x.inner)
  higher v [] x a k = absurd k
  higher v (b ∷ bs) x a (inl e) =
      let up = a.0.up in
      let on = a.0.on in
      subst (λ (y : Bay). (A v <ℤ A y.outer) × (A v <ℤ A y.inner)) (sym e)
      (up, step_up _ _ _ up on)
  higher v (b ∷ bs) x a (inr k) =
      let r = higher b.inner bs x a.1 k in
      let b_up = step_up _ _ _ a.0.up a.0.on in
      (step_up _ _ _ b_up r.0, step_up _ _ _ b_up r.1)

  apart_by : (p q : Point) → A p <ℤ A q → p ≡ q → ⊥
  apart_by p q l e = (let k = ap A e in omega (arith, ints, l, k))

  pub corners_apart : (v : Point) (bs : List Bay) (x y : Bay) → AreBays h v bs → Has x bs → Has y bs
      → x.inner ≡ y.outer → ⊥
  corners_apart v [] x y a k l e = absurd k
  corners_apart v (b ∷ bs) x y a (inl k) (inl l) e =
      apart_by b.outer b.inner a.0.on
      (sym (ap (λ (z : Bay). z.outer) l) ∙ sym e ∙ ap (λ (z : Bay). z.inner) k)
  corners_apart v (b ∷ bs) x y a (inl k) (inr l) e =
      apart_by b.inner y.outer (higher b.inner bs y a.1 l).0
      (sym (ap (λ (z : Bay). z.inner) k) ∙ e)
  corners_apart v (b ∷ bs) x y a (inr k) (inl l) e =
      apart_by b.outer x.inner (step_up _ _ _ a.0.on (higher b.inner bs x a.1 k).1)
      (sym (ap (λ (z : Bay). z.outer) l) ∙ sym e)
  corners_apart v (b ∷ bs) x y a (inr k) (inr l) e = corners_apart b.inner bs x y a.1 k l e

-- ---- where the edges of a chain end
-- The point is a corner of the inner chain from v.
abbrev pub IsInnerCorner : Point → List Bay → Point → Type 0
IsInnerCorner v bs p = (p ≡ v) ⊎ ((b : Bay) × Has b bs × (p ≡ b.inner))

-- The point is one of the outer chain from q to e.
abbrev pub IsOuterCorner : Point → Point → List Bay → Point → Type 0
IsOuterCorner q e bs p = (p ≡ q) ⊎ ((p ≡ e) ⊎ ((b : Bay) × Has b bs × (p ≡ b.outer)))

-- Both ends of the edge are corners of its chain.
abbrev pub HasCorners : Point → Point → List Bay → Part → Owned → Type 0
HasCorners v e bs whole o = ⊥
HasCorners v e bs inner o = IsInnerCorner v bs o.from × IsInnerCorner v bs o.to
HasCorners v e bs outer o = IsOuterCorner v e bs o.from × IsOuterCorner v e bs o.to

abbrev pub AreCorners : Point → Point → List Bay → Owned → Type 0
AreCorners v e bs o = HasCorners v e bs o.part o

more_inner : (v : Point) (b : Bay) (bs : List Bay) (p : Point) → IsInnerCorner b.inner bs p
    → IsInnerCorner v (b ∷ bs) p
more_inner v b bs p (inl e) = inr (b, inl refl, e)
more_inner v b bs p (inr (c, k, e)) = inr (c, inr k, e)

more_outer : (q e : Point) (b : Bay) (bs : List Bay) (p : Point) → IsOuterCorner b.outer e bs p
    → IsOuterCorner q e (b ∷ bs) p
more_outer q e b bs p (inl r) = inr (inr (b, inl refl, r))
more_outer q e b bs p (inr (inl r)) = inr (inl r)
more_outer q e b bs p (inr (inr (c, k, r))) = inr (inr (c, inr k, r))

each_more : (P Q : Owned → Type 0) (os : List Owned) → ((o : Owned) → P o → Q o) → Each P os
    → Each Q os
each_more P Q [] f e = tt
each_more P Q (o ∷ os) f e = (f o e.0, each_more P Q os f e.1)

abbrev InnerEnds : Point → List Bay → Owned → Type 0
InnerEnds v bs o = (o.part ≡ inner) × IsInnerCorner v bs o.from × IsInnerCorner v bs o.to

abbrev OuterEnds : Point → Point → List Bay → Owned → Type 0
OuterEnds q e bs o = (o.part ≡ outer) × IsOuterCorner q e bs o.from × IsOuterCorner q e bs o.to

inner_ends : (i : ℕ) (v : Point) (bs : List Bay)
    → Each (InnerEnds v bs) (chain i inner v (inner_corners bs))
inner_ends i v [] = tt
inner_ends i v (b ∷ bs) = (
  (refl, inl refl, inr (b, inl refl, refl)),
  each_more (InnerEnds b.inner bs) (InnerEnds v (b ∷ bs)) (chain i inner b.inner (inner_corners bs))
      (λ o k. (k.0, more_inner v b bs o.from k.1, more_inner v b bs o.to k.2))
      (inner_ends i b.inner bs),
)

outer_ends : (i : ℕ) (q e : Point) (bs : List Bay)
    → Each (OuterEnds q e bs) (chain i outer q (outer_corners bs ++ e ∷ []))
outer_ends i q e [] = ((refl, inl refl, inr (inl refl)), tt)
outer_ends i q e (b ∷ bs) = (
  (refl, inl refl, inr (inr (b, inl refl, refl))),
  each_more (OuterEnds b.outer e bs) (OuterEnds q e (b ∷ bs))
      (chain i outer b.outer (outer_corners bs ++ e ∷ []))
      (λ o k. (k.0, more_outer q e b bs o.from k.1, more_outer q e b bs o.to k.2))
      (outer_ends i b.outer e bs),
)

-- ---- one half arc
pub last_end : (q e : Point) (os : List Point) → last_point q (os ++ e ∷ []) ≡ e
last_end q e [] = refl
last_end q e (x ∷ os) = last_end x e os

last_bay : (v e : Point) (b : Bay) (bs : List Bay) → Last (λ (x : Bay). x.inner ≡ e) (b ∷ bs)
    → last_point v (inner_corners (b ∷ bs)) ≡ e
last_bay v e b [] l = l
last_bay v e b (c ∷ bs) l = last_bay b.inner e c bs l

other_parts : (x : Owned) (part : Part) (os : List Owned) (P : Owned → Type 0)
    → (x.part ≡ part → ⊥) → ((o : Owned) → P o → o.part ≡ part) → Each P os
    → (h : HalfArc) → Each (Follow h x) os
other_parts x part [] P n f e h = tt
other_parts x part (o ∷ os) P n f e h =
    ((λ same. absurd (n (same ∙ f o e.0))), other_parts x part os P n f e.1 h)

inner_then_outer : (xs ys : List Owned) (P Q : Owned → Type 0)
    → ((o : Owned) → P o → o.part ≡ inner)
    → ((o : Owned) → Q o → o.part ≡ outer) → Each P xs → Each Q ys → (h : HalfArc)
    → Each (λ (x : Owned). Each (Follow h x) ys) xs
inner_then_outer [] ys P Q f g a b h = tt
inner_then_outer (x ∷ xs) ys P Q f g a b h = (
  other_parts x outer ys Q
      (λ e. absurd (let q : inner ≡ outer = sym (f x a.0) ∙ e in cc)) g b h,
  inner_then_outer xs ys P Q f g a.1 b h,
)

module _ (i : ℕ) (c : Curve) (bs : List Bay) (t : IsTube (arc c) bs) where
  abbrev h : HalfArc
  h = arc c

  abbrev inners : List Owned
  inners = chain i inner c.from (inner_corners bs)

  abbrev outers : List Owned
  outers = chain i outer c.from (outer_corners bs ++ c.to ∷ [])

  pub inner_last : last_point c.from (inner_corners bs) ≡ c.to
  inner_last = by bs t.some t.ends
    where
      by : (ks : List Bay) → (IsSome ks) → Last (λ (x : Bay). x.inner ≡ c.to) ks
          → last_point c.from (inner_corners ks) ≡ c.to
      by [] s l = absurd s
      by (b ∷ ks) s l = last_bay c.from c.to b ks l

  climbs_in : Climbs h c.from (inner_corners bs)
  climbs_in = inner_climbs h c.from bs t.are_bays

  climbs_out : Climbs h c.from (outer_corners bs ++ c.to ∷ [])
  climbs_out = by bs t.some t.are_bays inner_last
    where
      by : (ks : List Bay) → IsSome ks → AreBays h c.from ks
          → last_point c.from (inner_corners ks) ≡ c.to
          → Climbs h c.from (outer_corners ks ++ c.to ∷ [])
      by [] s a l = absurd s
      by (b ∷ ks) s a l = outer_climbs h c.from c.to b ks l a

  pub all_between : Each (IsBetween h c.from c.to) (edges_of i kind.HalfArc c bs)
  all_between =
      each_append (IsBetween h c.from c.to) inners outers
      (subst (λ (p : Point). Each (IsBetween h c.from p) inners) inner_last
      (betweens h i inner c.from (inner_corners bs) climbs_in))
      (subst (λ (p : Point). Each (IsBetween h c.from p) outers)
      (last_end c.from c.to (outer_corners bs))
      (betweens h i outer c.from (outer_corners bs ++ c.to ∷ []) climbs_out))

  pub all_follow : Pairs (Follow h) (edges_of i kind.HalfArc c bs)
  all_follow =
      pairs_append (Follow h) inners outers (in_order h i inner c.from (inner_corners bs) climbs_in)
      (in_order h i outer c.from (outer_corners bs ++ c.to ∷ []) climbs_out)
      (inner_then_outer inners outers (InnerEnds c.from bs) (OuterEnds c.from c.to bs)
      (λ o k. k.0) (λ o k. k.0) (inner_ends i c.from bs) (outer_ends i c.from c.to bs) h)

  pub all_corners : Each (AreCorners c.from c.to bs) (edges_of i kind.HalfArc c bs)
  all_corners =
      each_append (AreCorners c.from c.to bs) inners outers
      (each_more (InnerEnds c.from bs) (AreCorners c.from c.to bs) inners
      (λ o k. subst (λ (p : Part). HasCorners c.from c.to bs p o) (sym k.0) (k.1, k.2))
      (inner_ends i c.from bs))
      (each_more (OuterEnds c.from c.to bs) (AreCorners c.from c.to bs) outers
      (λ o k. subst (λ (p : Part). HasCorners c.from c.to bs p o) (sym k.0) (k.1, k.2))
      (outer_ends i c.from c.to bs))

  -- a corner of both chains is an end of the half arc
  pub both_chains : (p : Point) → IsInnerCorner c.from bs p → IsOuterCorner c.from c.to bs p
      → (c.from ≡ p) ⊎ (c.to ≡ p)
  both_chains p (inl e) k = inl (sym e)
  both_chains p (inr j) (inl e) = inl (sym e)
  both_chains p (inr j) (inr (inl e)) = inr (sym e)
  both_chains p (inr (x, j, e)) (inr (inr (y, k, q))) =
      absurd (corners_apart h c.from bs x y t.are_bays j k (sym e ∙ q))

-- ---- the first and the last edge of a chain
-- the edge of a chain that ends at its last point
pub last_edge : (i : ℕ) (part : Part) (p q : Point) (qs : List Point)
    → (k : ℕ) × (k < length (q ∷ qs))
    × ((get_or (chain i part p (q ∷ qs)) k no_edge).to ≡ last_point q qs)
last_edge i part p q [] = (0, omega arith, refl)
last_edge i part p q (r ∷ qs) =
    let (k, l, e) = last_edge i part q r qs in
    (suc k, omega (arith, l), e)
