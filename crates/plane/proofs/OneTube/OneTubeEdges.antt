-- Every two edges of one tube share no place, or one end and nothing else.
use Rattle.std.proofs.Common.{◌≡◌, ◌⊎◌, inl, inr, ℕ, ◌<◌, ◌≤◌, List, [], ◌∷◌, ◌++◌, length, get_or}
use Rattle.std.proofs.Common.{ℤ, pos, ◌*ℤ◌, ◌<ℤ◌, ◌≤ℤ◌, refl, arith, ap, ◌∙◌, subst}
use Rattle.std.proofs.lemmas.Int.{ints}
use Rattle.plane.specs.declared.kinds.Point.{Point}
use Rattle.plane.specs.declared.kinds.Curve.{Curve}
use Rattle.plane.specs.declared.kinds.CurveKind.TheVariants as kind
use Rattle.plane.specs.Lists.{Each}
use Rattle.plane.specs.Forms.Vectors.{Vector, Place, Same, Between, point, Edge}
use Rattle.plane.specs.Forms.Arcs.{HalfArc, along}
use Rattle.plane.specs.Rule.Curves.{arc}
use Rattle.plane.specs.Forms.Meets.{OnStraight, IsEnd, Disjoint, Touch}
use Rattle.plane.specs.Tubes.Bays.{Bay, AreBays, IsTube, OnInner, OnOuter, AtEnds}
use Rattle.plane.specs.CurveRuns.TubedRuns.{inner, outer, Owned, chain, inner_corners}
use Rattle.plane.specs.CurveRuns.TubedRuns.{outer_corners, edges_of, no_edge, Connects}
use Rattle.plane.proofs.ListLemmas.Lists.{each_map}
use Rattle.plane.proofs.ListLemmas.ListPairs.{Pairs, pairs_append, pairs_at}
use Rattle.plane.proofs.Algebra.Scaling.{times_le}
use Rattle.plane.proofs.Algebra.Laws.{product_comm}
use Rattle.plane.proofs.Linear.Signs.{between_back}
use Rattle.plane.proofs.Linear.Straights.{straight_between}
use Rattle.plane.proofs.Covers.SamePlace.{same_sym, same_trans}
use Rattle.plane.proofs.Covers.NotApart.{one_point}
use Rattle.plane.proofs.Sweep.Meets.{point_test}
use Rattle.plane.proofs.Windings.Under.{by_order}
use Rattle.plane.proofs.OneTube.TubeEdges.{inner_outer_meet}
use Rattle.plane.proofs.OneTube.ChainEdges.{straight_at, at_corner, at_first, at_last, EndsAt}
use Rattle.plane.proofs.OneTube.ChainEdges.{ends_at, inner_edges_meet, inner_edges_apart}
use Rattle.plane.proofs.OneTube.ChainEdges.{outer_edges_meet, outer_edges_apart}

-- the place is on the edge
abbrev pub IsAt : Vector → Owned → Type 0
IsAt z x = Between z (point x.from) (point x.to)

-- the edges share the end c and nothing else
pub record MeetIn (x y : Owned) (c : Point) : Type 0 where
  pub of_first : (x.from ≡ c) ⊎ (x.to ≡ c)
  pub of_second : (y.from ≡ c) ⊎ (y.to ≡ c)
  pub only : (z : Vector) → Place z → IsAt z x → IsAt z y → Same z (point c)

-- the edges share no place, or one end and nothing else
abbrev pub Meet : Owned → Owned → Type 0
Meet x y = ((z : Vector) → Place z → IsAt z x → IsAt z y → ⊥) ⊎ ((c : Point) × MeetIn x y c)

meet_back : (x y : Owned) → Meet x y → Meet y x
meet_back x y (inl n) = inl (λ z hz a b. n z hz b a)
meet_back x y (inr m) =
    inr (
      m.0,
      record {
        of_first = m.1.of_second;
        of_second = m.1.of_first;
        only = λ z hz a b. m.1.only z hz b a;
      },
    )

-- ---- two edges of one chain
inner_on : (i : ℕ) (v : Point) (bs : List Bay)
    → Each (λ x. (z : Vector) → IsAt z x → OnInner z v bs) (chain i inner v (inner_corners bs))
inner_on i v [] = tt
inner_on i v (b ∷ rest) = (
  (λ z k. inl k),
  each_map (λ x. (z : Vector) → IsAt z x → OnInner z b.inner rest) _
      (chain i inner b.inner (inner_corners rest)) (λ x f z k. inr (f z k)) (inner_on i b.inner rest),
)

outer_on : (i : ℕ) (q e : Point) (bs : List Bay)
    → Each (λ x. (z : Vector) → IsAt z x → OnOuter z q e bs)
    (chain i outer q (outer_corners bs ++ e ∷ []))
outer_on i q e [] = ((λ z k. k), tt)
outer_on i q e (b ∷ rest) = (
  (λ z k. inl k),
  each_map (λ x. (z : Vector) → IsAt z x → OnOuter z b.outer e rest) _
      (chain i outer b.outer (outer_corners rest ++ e ∷ [])) (λ x f z k. inr (f z k))
      (outer_on i b.outer e rest),
)

inner_pairs : (h : HalfArc) (i : ℕ) (v : Point) (bs : List Bay) → AreBays h v bs
    → Pairs Meet (chain i inner v (inner_corners bs))
inner_pairs h i v [] a = tt
inner_pairs h i v (b ∷ rest) a = (later rest a, inner_pairs h i b.inner rest a.1)
  where
    later : (rest : List Bay) → AreBays h v (b ∷ rest)
        → Each (Meet (record { from = v; to = b.inner; curve = i; part = inner }))
        (chain i inner b.inner (inner_corners rest))
    later [] a = tt
    later (d ∷ more) a = (
      inr (
        b.inner,
        record {
          of_first = inr refl;
          of_second = inl refl;
          only = λ z hz k l. inner_edges_meet h v b (d ∷ more) z hz a k (inl l);
        },
      ),
      each_map (λ x. (z : Vector) → IsAt z x → OnInner z d.inner more) _
          (chain i inner d.inner (inner_corners more))
          (λ y on. inl (λ z hz k l. inner_edges_apart h v b d more z hz a k (on z l)))
          (inner_on i d.inner more),
    )

outer_pairs : (h : HalfArc) (i : ℕ) (q p e : Point) (bs : List Bay) → AreBays h p bs → EndsAt p e bs
    → along h (point q) ≤ℤ along h (point p)
    → Pairs Meet (chain i outer q (outer_corners bs ++ e ∷ []))
outer_pairs h i q p e [] a end l = (tt, tt)
outer_pairs h i q p e (b ∷ rest) a end l = (
  later rest a end,
  outer_pairs h i b.outer b.inner e rest a.1 end (let on = a.0.on in
      omega (arith, ints, on)),
)
  where
    later : (rest : List Bay) → AreBays h p (b ∷ rest) → EndsAt p e (b ∷ rest)
        → Each (Meet (record { from = q; to = b.outer; curve = i; part = outer }))
        (chain i outer b.outer (outer_corners rest ++ e ∷ []))
    later [] a end = (
      inr (
        b.outer,
        record {
          of_first = inr refl;
          of_second = inl refl;
          only = λ z hz k o. outer_edges_meet h q p e b [] z hz a end l k o;
        },
      ),
      tt,
    )
    later (d ∷ more) a end = (
      inr (
        b.outer,
        record {
          of_first = inr refl;
          of_second = inl refl;
          only = λ z hz k o. outer_edges_meet h q p e b (d ∷ more) z hz a end l k (inl o);
        },
      ),
      each_map (λ x. (z : Vector) → IsAt z x → OnOuter z d.outer e more) _
          (chain i outer d.outer (outer_corners more ++ e ∷ []))
          (λ y on. inl (λ z hz k o. outer_edges_apart h q p e b d more z hz a end l k (on z o)))
          (outer_on i d.outer e more),
    )

-- ---- an edge of each chain
-- the edge rises along the chord, between its ends
record Rises (h : HalfArc) (p e : Point) (x : Owned) : Type 0 where
  pub up : along h (point x.from) <ℤ along h (point x.to)
  pub low : along h (point p) ≤ℤ along h (point x.from)
  pub high : along h (point x.to) ≤ℤ along h (point e)

ends_after : (h : HalfArc) (v e : Point) (bs : List Bay) → AreBays h v bs → EndsAt v e bs
    → along h (point v) ≤ℤ along h (point e)
ends_after h v e [] a end =
    let k = ap (λ (q : Point). along h (point q)) end in omega (arith, ints, k)
ends_after h v e (b ∷ rest) a end =
    let k = ends_after h b.inner e rest a.1 end in
    let up = a.0.up in let on = a.0.on in omega (arith, ints, k, up, on)

rises_from : (h : HalfArc) (p q e : Point) (x : Owned) → along h (point p) ≤ℤ along h (point q)
    → Rises h q e x → Rises h p e x
rises_from h p q e x l r = record {
  up = r.up;
  low = (let k = r.low in omega (arith, ints, l, k));
  high = r.high;
}

inner_rises : (h : HalfArc) (i : ℕ) (v e : Point) (bs : List Bay) → AreBays h v bs → EndsAt v e bs
    → Each (Rises h v e) (chain i inner v (inner_corners bs))
inner_rises h i v e [] a end = tt
inner_rises h i v e (b ∷ rest) a end =
    let up = a.0.up in
    let on = a.0.on in
    let l : along h (point v) <ℤ along h (point b.inner) = omega (arith, ints, up, on) in (
      record { up = l; low = omega (arith, ints); high = ends_after h b.inner e rest a.1 end },
      each_map (Rises h b.inner e) (Rises h v e) (chain i inner b.inner (inner_corners rest))
          (λ x. rises_from h v b.inner e x (omega (arith, ints, l)))
          (inner_rises h i b.inner e rest a.1 end),
    )

outer_rises : (h : HalfArc) (i : ℕ) (q v e : Point) (bs : List Bay) → AreBays h v bs → EndsAt v e bs
    → along h (point q) <ℤ along h (point v)
    → Each (Rises h q e) (chain i outer q (outer_corners bs ++ e ∷ []))
outer_rises h i q v e [] a end l = (
  record {
    up = (let k = ap (λ (p : Point). along h (point p)) end in omega (arith, ints, k, l));
    low = omega (arith, ints);
    high = omega (arith, ints);
  },
  tt,
)
outer_rises h i q v e (b ∷ rest) a end l =
    let up = a.0.up in
    let on = a.0.on in
    let k = ends_after h b.inner e rest a.1 end in
    let m : along h (point q) <ℤ along h (point b.outer) = omega (arith, ints, l, up) in (
      record { up = m; low = omega (arith, ints); high = omega (arith, ints, k, on) },
      each_map (Rises h b.outer e) (Rises h q e)
          (chain i outer b.outer (outer_corners rest ++ e ∷ []))
          (λ x. rises_from h q b.outer e x (omega (arith, ints, m)))
          (outer_rises h i b.outer b.inner e rest a.1 end on),
    )

-- an edge of the outer chain is not the whole chord
record IsPart (h : HalfArc) (p e : Point) (x : Owned) : Type 0 where
  pub rises : Rises h p e x
  pub part : (along h (point p) <ℤ along h (point x.from))
      ⊎ (along h (point x.to) <ℤ along h (point e))

outer_parts : (h : HalfArc) (i : ℕ) (v e : Point) (b : Bay) (rest : List Bay)
    → AreBays h v (b ∷ rest) → EndsAt v e (b ∷ rest)
    → Each (IsPart h v e) (chain i outer v (outer_corners (b ∷ rest) ++ e ∷ []))
outer_parts h i v e b rest a end =
    let up = a.0.up in
    let on = a.0.on in
    let k = ends_after h b.inner e rest a.1 end in (
      record {
        rises = record {
          up = up;
          low = omega (arith, ints);
          high = omega (arith, ints, k, on);
        };
        part = inr (omega (arith, ints, k, on));
      },
      each_map (Rises h b.outer e) (IsPart h v e)
          (chain i outer b.outer (outer_corners rest ++ e ∷ []))
          (λ x r. record {
            rises = rises_from h v b.outer e x (omega (arith, ints, up)) r;
            part = inl (let l = r.low in omega (arith, ints, l, up));
          })
          (outer_rises h i b.outer b.inner e rest a.1 end on),
    )

times_same : (a b n : ℤ) → pos 0 <ℤ n → a ≤ℤ b → (a *ℤ n) ≤ℤ (b *ℤ n)
times_same a b n hn l =
    let k = times_le n a b (omega (arith, ints, hn)) l in
    let e = product_comm n a in let f = product_comm n b in omega (arith, ints, k, e, f)

-- an end of the chord on the edge is an end of the edge
at_low : (h : HalfArc) (p e : Point) (x : Owned) (z : Vector) → Rises h p e x → Place z → IsAt z x
    → Same z (point p) → x.from ≡ p
at_low h p e x z r hz on same =
    let c = at_corner h z p same in
    let k = times_same (along h (point p)) (along h (point x.from)) z.n hz r.low in
    one_point x.from p
    (same_trans (point x.from) z (point p) hz
    (same_sym z (point x.from)
    (at_first h z x.from x.to hz r.up (straight_at h z x.from x.to hz r.up on)
    (omega (arith, ints, c, k)))) same)

at_high : (h : HalfArc) (p e : Point) (x : Owned) (z : Vector) → Rises h p e x → Place z → IsAt z x
    → Same z (point e) → x.to ≡ e
at_high h p e x z r hz on same =
    let c = at_corner h z e same in
    let k = times_same (along h (point x.to)) (along h (point e)) z.n hz r.high in
    one_point x.to e
    (same_trans (point x.to) z (point e) hz
    (same_sym z (point x.to)
    (at_last h z x.from x.to hz r.up (straight_at h z x.from x.to hz r.up on)
    (omega (arith, ints, c, k)))) same)

both_test : (p q c : Point) → ((p ≡ c) × (q ≡ c)) ⊎ (p ≡ c → q ≡ c → ⊥)
both_test p q c = elim (point_test p c) [
  | inl e ↦ elim (point_test q c) [ inl f ↦ inl (e, f) | inr n ↦ inr (λ k. n) ]
  | inr n ↦ inr (λ k l. n k)
]

-- edges that share ends of the chord alone share one of them at most
cross_meet : (h : HalfArc) (x y : Owned) → Rises h h.from h.to x → IsPart h h.from h.to y
    → ((z : Vector) → Place z → IsAt z x → IsAt z y → AtEnds h z) → Meet x y
cross_meet h x y rx py ends = elim (both_test x.from y.from h.from) [
  | inl f ↦ inr (
    h.from,
    record {
      of_first = inl f.0;
      of_second = inl f.1;
      only = λ z hz a b. elim (ends z hz a b) [
        | inl e ↦ e
        | inr e ↦ absurd (whole f.1 (at_high h h.from h.to y z py.rises hz b e))
      ];
    },
  )
  | inr n ↦ elim (both_test x.to y.to h.to) [
    | inl t ↦ inr (
      h.to,
      record {
        of_first = inr t.0;
        of_second = inr t.1;
        only = λ z hz a b. elim (ends z hz a b) [
          | inl e ↦ absurd
              (n (at_low h h.from h.to x z rx hz a e) (at_low h h.from h.to y z py.rises hz b e))
          | inr e ↦ e
        ];
      },
    )
    | inr m ↦ inl (λ z hz a b. elim (ends z hz a b) [
      | inl e ↦ n (at_low h h.from h.to x z rx hz a e) (at_low h h.from h.to y z py.rises hz b e)
      | inr e ↦ m (at_high h h.from h.to x z rx hz a e) (at_high h h.from h.to y z py.rises hz b e)
    ])
  ]
]
  where
    whole : y.from ≡ h.from → y.to ≡ h.to → ⊥
    whole e f =
        let k = ap (λ (p : Point). along h (point p)) e in
        let l = ap (λ (p : Point). along h (point p)) f in
        elim py.part [ inl a ↦ omega (arith, ints, a, k) | inr a ↦ omega (arith, ints, a, l) ]

-- ---- all edges of a tube
each_both : {X : Type 0} (P Q : X → Type 0) (xs : List X) → Each P xs → Each Q xs
    → Each (λ x. P x × Q x) xs
each_both P Q [] h k = tt
each_both P Q (x ∷ xs) h k = ((h.0, k.0), each_both P Q xs h.1 k.1)

tube_pairs : (i : ℕ) (c : Curve) (bs : List Bay) → IsTube (arc c) bs
    → Pairs Meet (edges_of i kind.HalfArc c bs)
tube_pairs i c [] t = absurd t.some
tube_pairs i c (b ∷ rest) t =
    let h = arc c in
    let bs = b ∷ rest in
    let end = ends_at c.to c.from b rest t.ends in
    let xs = chain i inner c.from (inner_corners bs) in
    let ys = chain i outer c.from (outer_corners bs ++ c.to ∷ []) in
    let rx = each_both (Rises h c.from c.to) (λ x. (z : Vector) → IsAt z x → OnInner z c.from bs) xs
    (inner_rises h i c.from c.to bs t.are_bays end) (inner_on i c.from bs) in
    let ry = each_both (IsPart h c.from c.to) (λ x. (z : Vector) → IsAt z x
    → OnOuter z c.from c.to bs) ys (outer_parts h i c.from c.to b rest t.are_bays end)
    (outer_on i c.from c.to bs) in
    pairs_append Meet xs ys (inner_pairs h i c.from bs t.are_bays)
    (outer_pairs h i c.from c.from c.to bs t.are_bays end (omega (arith, ints)))
    (each_map _ (λ x. Each (Meet x) ys) xs
    (λ x kx. each_map _ (Meet x) ys
    (λ y ky. cross_meet h x y kx.0 ky.0
    (λ z hz a b. inner_outer_meet h bs z t hz (kx.1 z a) (ky.1 z b))) ry) rx)

-- ---- in the words of edges
on_connected : (a : Edge) (p q : Point) (z : Vector) → Connects a p q → Place z → OnStraight a z
    → Between z (point p) (point q)
on_connected a p q z k hz on =
    let one : pos 0 <ℤ pos 1 = omega (arith, ints) in
    let b = straight_between (point a.low) (point a.high) z one one hz on in
    elim k [
      | inl e ↦ subst (λ (u : Point). Between z (point u) (point q)) e.0
          (subst (λ (u : Point). Between z (point a.low) (point u)) e.1 b)
      | inr e ↦ between_back z (point q) (point p)
          (subst (λ (u : Point). Between z (point u) (point p)) e.0
          (subst (λ (u : Point). Between z (point a.low) (point u)) e.1 b))
    ]

end_connected : (a : Edge) (p q c : Point) → Connects a p q → (p ≡ c) ⊎ (q ≡ c) → IsEnd a c
end_connected a p q c (inl e) (inl f) = inl (e.0 ∙ f)
end_connected a p q c (inl e) (inr f) = inr (e.1 ∙ f)
end_connected a p q c (inr e) (inl f) = inr (e.1 ∙ f)
end_connected a p q c (inr e) (inr f) = inl (e.0 ∙ f)

meet_edges : (x y : Owned) (a b : Edge) → Connects a x.from x.to → Connects b y.from y.to → Meet x y
    → Disjoint a b ⊎ Touch a b
meet_edges x y a b ka kb (inl n) =
    inl (λ z hz oa ob. n z hz (on_connected a x.from x.to z ka hz oa)
    (on_connected b y.from y.to z kb hz ob))
meet_edges x y a b ka kb (inr m) = inr (record {
  at = m.0;
  of_first = end_connected a x.from x.to m.0 ka m.1.of_first;
  of_second = end_connected b y.from y.to m.0 kb m.1.of_second;
  only = λ z hz oa ob. m.1.only z hz (on_connected a x.from x.to z ka hz oa)
      (on_connected b y.from y.to z kb hz ob);
})

pub edges_meet : (i : ℕ) (c : Curve) (bs : List Bay) (e f : ℕ) (a b : Edge) → IsTube (arc c) bs
    → e < length (edges_of i kind.HalfArc c bs) → f < length (edges_of i kind.HalfArc c bs)
    → (e ≡ f → ⊥)
    → Connects a (get_or (edges_of i kind.HalfArc c bs) e no_edge).from
    (get_or (edges_of i kind.HalfArc c bs) e no_edge).to
    → Connects b (get_or (edges_of i kind.HalfArc c bs) f no_edge).from
    (get_or (edges_of i kind.HalfArc c bs) f no_edge).to
    → Disjoint a b ⊎ Touch a b
edges_meet i c bs e f a b t le lf other ka kb =
    let es = edges_of i kind.HalfArc c bs in
    let x = get_or es e no_edge in
    let y = get_or es f no_edge in
    meet_edges x y a b ka kb
    (by_order e f
    (λ (l : e < f). pairs_at Meet es e f no_edge (tube_pairs i c bs t) l lf)
    (λ (l : f ≤ e). meet_back y x
    (pairs_at Meet es f e no_edge (tube_pairs i c bs t) (differ e f l other) le)))
  where
    differ : (e f : ℕ) → f ≤ e → (e ≡ f → ⊥) → f < e
    differ e f l n =
        by_order f e (λ (k : f < e). k) (λ (k : e ≤ f). absurd (n (omega (arith, l, k))))
