-- The first two curves that break a level.
use Rattle.std.proofs.Common.{◌≡◌, ◌⊎◌, inl, inr, ℕ, ◌<◌, ◌≤◌, Option, Some, None, List, length}
use Rattle.std.proofs.Common.{refl, arith, sym, subst}
use Rattle.std.specs.Prelude.{IfSome}
use Rattle.plane.specs.CurveRuns.TubedRuns as runs
use Rattle.plane.specs.Forms.Meets.{Bad, Disjoint, IsEnd, Touch}
use Rattle.plane.specs.Forms.Vectors.{point}
use Rattle.plane.specs.Lists.{Has}
use Rattle.plane.specs.Rule.Curves.{arc}
use Rattle.plane.specs.Rule.Plans.{IsHalfArc, Plan, curve}
use Rattle.plane.specs.Tubes.Bays.{IsTube}
use Rattle.plane.specs.Tubes.Windings.{InTile, IsCornerOf, Tile, tiles}
use Rattle.plane.specs.declared.kinds.CurveKind.TheVariants as kind
use Rattle.plane.specs.declared.kinds.Edge.{Edge}
use Rattle.plane.specs.declared.kinds.Point.{Point}
use Rattle.straight_predicates.proofs.Orders.{by_lt}
use Rattle.near_pairs.specs.LeastPairs.{IsLeastPair, IsLess}
use Rattle.near_pairs.specs.declared.pairs.NearPair.{NearPair}
use Rattle.tubes.specs.DrawnEdges.{edge_from}
use Rattle.tubes.specs.HalfArcTubes.{HasNoTube}
use Rattle.tubes.specs.Settled.{AreTubesAt, Breaks, HaveTubes, IsFirstBreak, IsSettledAt, IsTubeFor}
use Rattle.tubes.specs.Settled.{corners, edges, missing, owned_at}
use Rattle.tubes.specs.TubedEdges.{HasTube, drawn_bays}
use Rattle.tubes.specs.declared.kinds.Tube.{Tube}
use Rattle.level_breaks.specs.LevelLists.{IsBare, IsFirstBare, IsLesser, tube_of}
use Rattle.level_breaks.specs.declared.pairs.LevelBreak.{LevelBreak}
use Rattle.level_breaks.proofs.ShortForm.{groups_of}
use Rattle.level_breaks.proofs.Unbroken.{settled}

-- ---- half arcs without a tube
module _ (d : Plan) (level : ℕ → ℕ) (tubes : List (Option Tube)) (ht : AreTubesAt d level tubes) where
  bare_has_none : (i : ℕ) → IsBare d.curves tubes i → HasNoTube (arc (curve d i)) (level i)
  bare_has_none i h = by (tube_of tubes i) h.none (ht.each i h.there)
    where
      by : (t : Option Tube) → t ≡ None → IsTubeFor (curve d i) (level i) t
          → HasNoTube (arc (curve d i)) (level i)
      by None e f = f.0 h.kind
      by (Some t) e f = none e
        where
          none : {P : Type 0} → Some t ≡ None → P
          none e = cc

  pub bare_breaks : (i : ℕ) → IsBare d.curves tubes i → Breaks d level i i
  bare_breaks i h = missing refl (record { there = h.there; kind = h.kind }) (bare_has_none i h)

  has_tube_or : (i : ℕ) → IsHalfArc d i → HasTube (arc (curve d i)) (level i) ⊎ IsBare d.curves tubes i
  has_tube_or i h = by (tube_of tubes i) refl (ht.each i h.there)
    where
      by : (t : Option Tube) → tube_of tubes i ≡ t → IsTubeFor (curve d i) (level i) t
          → HasTube (arc (curve d i)) (level i) ⊎ IsBare d.curves tubes i
      by None e f = inr (record { there = h.there; kind = h.kind; none = e })
      by (Some t) e f = let m = f.0 h.kind in inl (m.after, t.outer.items, m.tube)

  pub have_tubes : ((i : ℕ) → IsBare d.curves tubes i → ⊥) → HaveTubes d level
  have_tubes none i h = elim (has_tube_or i h) [ inl a ↦ a | inr b ↦ absurd (none i b) ]

  -- a curve that breaks the level with itself is one
  alone_is_bare : (i j : ℕ) → i ≡ j → Breaks d level i j → IsBare d.curves tubes i
  alone_is_bare i j e (missing q h n) =
      elim (has_tube_or i h) [ inl (vs, os, t) ↦ absurd (n vs os t) | inr b ↦ b ]
  alone_is_bare i j e (edges n g h m) = absurd (n e)
  alone_is_bare i j e (corners n g h m) = absurd (n e)

  second_there : (i j : ℕ) → i < j → Breaks d level i j → j < length d.curves
  second_there i j l h = (groups_of d level i j (λ e. omega (arith, l, e)) h).1.there

  -- ---- the first of all
  module _ (pair : Option NearPair) (bare : Option ℕ)
      (some : IfSome pair (λ p. IsLeastPair (Breaks d level) (length d.curves) p))
      (none : pair ≡ None → (i j : ℕ) → i < j → j < length d.curves → Breaks d level i j → ⊥)
      (first : IsFirstBare d.curves tubes bare) where
    -- no two curves that break the level are less than r
    no_two : (r : LevelBreak) → IsLesser pair bare r → (k l : ℕ) → k < l → Breaks d level k l
        → IsLess k l r.first r.second → ⊥
    no_two r h k l m b less = by pair refl
      where
        not_after : (p : NearPair) → (IsLess p.first p.second r.first r.second → ⊥)
            → IsLess k l r.first r.second → IsLess k l p.first p.second
        not_after p n (inl q) =
            by_lt k p.first (λ (x : k < p.first). inl x)
            (λ (x : p.first ≤ k). absurd (n (inl (omega (arith, x, q)))))
        not_after p n (inr (e, q)) =
            by_lt k p.first (λ (x : k < p.first). inl x)
            (λ (x : p.first ≤ k). by_lt p.first k
            (λ (y : p.first < k). absurd (n (inl (omega (arith, y, e)))))
            (λ (y : k ≤ p.first). by_lt l p.second
            (λ (z : l < p.second). inr (omega (arith, x, y), z))
            (λ (z : p.second ≤ l). absurd
            (n (inr (omega (arith, x, y, e), omega (arith, z, q)))))))

        by : (o : Option NearPair) → pair ≡ o → ⊥
        by None e = none e k l m (second_there k l m b) b
        by (Some p) e =
            let s = subst (λ o. IfSome o (λ p. IsLeastPair (Breaks d level) (length d.curves) p)) e
            some in
            let n = subst (λ o. IfSome o (λ p. IsLess p.first p.second r.first r.second → ⊥)) e
            h.not_pair in
            s.least k l m (second_there k l m b) b (not_after p n less)

    no_one : (r : LevelBreak) → IsLesser pair bare r → (k : ℕ) → IsBare d.curves tubes k
        → IsLess k k r.first r.second → ⊥
    no_one r h k b less = by bare refl
      where
        not_after : (i : ℕ) → i ≤ k → IsLess k k r.first r.second → IsLess i i r.first r.second
        not_after i l (inl q) = inl (omega (arith, l, q))
        not_after i l (inr (e, q)) =
            by_lt i k (λ (x : i < k). inl (omega (arith, x, e)))
            (λ (x : k ≤ i). inr (omega (arith, l, x, e), omega (arith, l, q)))

        by : (o : Option ℕ) → bare ≡ o → ⊥
        by None e = subst (IsFirstBare d.curves tubes) e first k b
        by (Some i) e =
            let f = subst (IsFirstBare d.curves tubes) e first in
            let n = subst (λ o. IfSome o (λ i. IsLess i i r.first r.second → ⊥)) e h.not_bare in
            by_lt k i (λ (l : k < i). f.1 k l b) (λ (l : i ≤ k). n (not_after i l less))

    no_less : (r : LevelBreak) → IsLesser pair bare r → (k l : ℕ) → k ≤ l → Breaks d level k l
        → IsLess k l r.first r.second → ⊥
    no_less r h k l m b less = by_lt k l (λ (x : k < l). no_two r h k l x b less)
        (λ (x : l ≤ k). let e : k ≡ l = omega (arith, m, x) in
        no_one r h k (alone_is_bare k l e b)
        (subst (λ (n : ℕ). IsLess k n r.first r.second) (sym e) less))

    pub lesser_is_first : (r : LevelBreak) → IsLesser pair bare r
        → IsFirstBreak d level r.first r.second
    lesser_is_first r h = record {
      order = by_order h.is;
      breaks = by_kind h.is;
      no_first = λ k l m x b. no_less r h k l x b (inl m);
      no_second = λ l m x b. no_less r h r.first l x b (inr (refl, m));
    }
      where
        of_pair : pair ≡ Some (record { first = r.first; second = r.second })
            → IsLeastPair (Breaks d level) (length d.curves) (record {
              first = r.first;
              second = r.second;
            })
        of_pair e = subst (λ o. IfSome o (λ p. IsLeastPair (Breaks d level) (length d.curves) p)) e
            some

        by_order : (pair ≡ Some (record { first = r.first; second = r.second }))
            ⊎ ((bare ≡ Some r.first) × (r.first ≡ r.second)) → r.first ≤ r.second
        by_order (inl e) = let l = (of_pair e).pair.order in omega (arith, l)
        by_order (inr (e, q)) = omega (arith, q)

        by_kind : (pair ≡ Some (record { first = r.first; second = r.second }))
            ⊎ ((bare ≡ Some r.first) × (r.first ≡ r.second)) → Breaks d level r.first r.second
        by_kind (inl e) = (of_pair e).pair.sought
        by_kind (inr (e, q)) =
            subst (λ (n : ℕ). Breaks d level r.first n) q
            (bare_breaks r.first (subst (IsFirstBare d.curves tubes) e first).0)

    module _ (any_meet : (p q r s : Point)
        → (Disjoint (edge_from p q) (edge_from r s) ⊎ Touch (edge_from p q) (edge_from r s))
        ⊎ Bad (edge_from p q) (edge_from r s))
        (own_meet : (i e f : ℕ) (a b : Edge) → (curve d i).kind ≡ kind.HalfArc
        → IsTube (arc (curve d i)) (drawn_bays d level i)
        → e < length (runs.edge_list (drawn_bays d level) 0 d.curves)
        → f < length (runs.edge_list (drawn_bays d level) 0 d.curves)
        → (owned_at d level e).curve ≡ i → (owned_at d level f).curve ≡ i → (e ≡ f → ⊥)
        → runs.Connects a (owned_at d level e).from (owned_at d level e).to
        → runs.Connects b (owned_at d level f).from (owned_at d level f).to
        → Disjoint a b ⊎ Touch a b)
        (own_enter : (i e : ℕ) (a : Edge) (p : Point) (t : Tile) → (curve d i).kind ≡ kind.HalfArc
        → IsTube (arc (curve d i)) (drawn_bays d level i)
        → e < length (runs.edge_list (drawn_bays d level) 0 d.curves)
        → (owned_at d level e).curve ≡ i
        → runs.Connects a (owned_at d level e).from (owned_at d level e).to → IsEnd a p
        → Has t (tiles (curve d i).from (drawn_bays d level i)) → InTile t (point p)
        → IsCornerOf t p)
        (tube_is : (i : ℕ) → HasTube (arc (curve d i)) (level i)
        → IsTube (arc (curve d i)) (drawn_bays d level i)) where
      pub none_is_settled : pair ≡ None → bare ≡ None → IsSettledAt d level
      none_is_settled e q =
          settled d level (have_tubes (subst (IsFirstBare d.curves tubes) q first))
          (λ i j l h. none e i j l (second_there i j l h) h) any_meet own_meet own_enter tube_is

pub some_mapped : {A : Type 0} (o : Option A) (P Q : A → Type 0) → ((a : A) → P a → Q a)
    → IfSome o P → IfSome o Q
some_mapped None P Q f h = tt
some_mapped (Some a) P Q f h = f a h
