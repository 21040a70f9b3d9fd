-- Each cell has a wall or is at the border, and cells that open to each other have a wall in
-- common.
-- So half-edges are connected exactly where the cells beside them are linked.
use Rattle.std.proofs.Common.{◌≡◌, ℕ, zero, suc, ◌+◌, ◌-◌, ◌<◌, ◌≤◌, List, ◌++◌, length, refl}
use Rattle.std.proofs.Common.{arith, ap, sym, ◌∙◌, ◌⊎◌, inl, inr, subst}
use Rattle.plane.specs.Faces.Replays.{Replay}
use Rattle.plane.proofs.Runs.RunWords.{IsRun, IsLawful}
use Rattle.plane.specs.Faces.Cells.{Sector, IsSector, corner, IsBorder, Opens, Linked, stays}
use Rattle.plane.specs.Faces.Cells.{onward, back}
use Rattle.plane.specs.Faces.Halves.{Half, under, over, edge_of, At, Beside}
use Rattle.plane.specs.Faces.Classes.{Across, Touches, Crossing, Connected, same, cross, go, return}
use Rattle.plane.specs.Faces.Classes.{outside}
use Rattle.plane.proofs.Strips.OneStrip.{linked_back, linked_join}
use Rattle.plane.proofs.Strips.Joins.{lengths_before, lengths_after, opens_from, opens_to}
use Rattle.plane.proofs.Strips.Borders.{border_linked}
use Rattle.plane.proofs.Strips.Columns.{by_less}
use Rattle.plane.proofs.Turning.ListPlaces.{at_front, at_back, at_some, at_has}
use Rattle.plane.proofs.Turning.OneSide.{beside_linked}
use Rattle.plane.proofs.Turning.Rotation.{next_cells}

module _ (r : Replay) (run : IsRun r) (law : IsLawful r) where
  -- what lies beside a cell is a half-edge of the run
  pub beside_fits : (h : Half) (c : Sector) → IsSector r c → Beside r h c → edge_of h < r.edges
  beside_fits (under e) c C b = law.live c.strip e C.strip (at_has (r.list c.strip) c.index e b)
  beside_fits (over e) c C b = split c.index b
    where
      split : (n : ℕ) → Beside r (over e) (record { strip = c.strip; index = n }) → e < r.edges
      split zero k = absurd k
      split (suc n) k = law.live c.strip e C.strip (at_has (r.list c.strip) n e k)

  -- a half-edge at the border
  pub touches_linked : (h : Half) (c : Sector) → Touches r h → IsSector r c → Beside r h c
      → Linked r c corner
  touches_linked h c t C b =
      linked_join r c t.0 corner (beside_linked r run law h c t.0 C t.1 b t.2)
      (border_linked r run law t.0 t.1 t.3)

  -- a wall, or the border
  pub wall : (c : Sector) → IsSector r c → IsBorder r c ⊎ ((h : Half) × Beside r h c)
  wall c C = split c.index refl
    where
      split : (n : ℕ) → c.index ≡ n → IsBorder r c ⊎ ((h : Half) × Beside r h c)
      split zero q = inl (inl q)
      split (suc n) q =
          let i = C.index in
          let a = at_some (r.list c.strip) n (omega (arith, i, q)) in
          inr (
            over a.0,
            subst (λ (m : ℕ). Beside r (over a.0) (record { strip = c.strip; index = m }))
                (sym q) a.1,
          )

  -- a common wall
  pub common_wall : (c d : Sector) → Opens r c d
      → (IsBorder r c × IsBorder r d) ⊎ ((h : Half) × Beside r h c × Beside r h d)
  common_wall c d (inl o) = split c.index refl
    where
      split : (n : ℕ) → c.index ≡ n
          → (IsBorder r c × IsBorder r d) ⊎ ((h : Half) × Beside r h c × Beside r h d)
      split zero q = inl (inl q, inl (o.kept ∙ q))
      split (suc n) q =
          let l = o.fits in
          let low = o.low in
          let s = r.step c.strip in
          let a = at_some s.below n (omega (arith, low, q)) in
          let stand : (now zs : List ℕ) → now ≡ s.below ++ zs
          → At now n a.0 =
          λ now zs e. subst (λ (es : List ℕ). At es n a.0) (sym e)
          (at_front s.below zs n a.0 a.1) in
          let b : At (r.list c.strip) n a.0 = stand (r.list c.strip) (s.ending ++ s.above)
          (run.before c.strip l) in
          let k : At (r.list d.strip) n a.0 = stand (r.list d.strip) (s.starting ++ s.above)
          (ap r.list o.next ∙ run.after c.strip l) in
          inr (
            over a.0,
            subst (λ (m : ℕ). Beside r (over a.0) (record { strip = c.strip; index = m }))
                (sym q) b,
            subst (λ (m : ℕ). Beside r (over a.0) (record { strip = d.strip; index = m }))
                (sym (o.kept ∙ q)) k,
          )
  common_wall c d (inr o) =
      let l = o.fits in
      let high = o.high in
      let top = o.top in
      let kept = o.kept in
      let s = r.step c.strip in
      let m = c.index - (length s.below + length s.ending) in
      let size = lengths_before r run law c.strip l in
      let size2 = ap (λ (es : List ℕ). length es) (ap r.list o.next)
      ∙ lengths_after r run law c.strip l in
      by_less m (length s.above)
      (λ (f : m < length s.above).
      let a = at_some s.above m f in
      let stand : (now ys : List ℕ) (n : ℕ) → now ≡ s.below ++ (ys ++ s.above)
      → n ≡ length s.below + (length ys + m) → At now n a.0 =
      λ now ys n e q. subst (λ (es : List ℕ). At es n a.0) (sym e)
      (at_back s.below (ys ++ s.above) n (length ys + m) a.0 q
      (at_back ys s.above (length ys + m) m a.0 refl a.1)) in
      inr (
        under a.0,
        stand (r.list c.strip) s.ending c.index (run.before c.strip l)
            (omega (arith, high)),
        stand (r.list d.strip) s.starting d.index (ap r.list o.next
            ∙ run.after c.strip l) (omega (arith, high, kept)),
      ))
      (λ (f : length s.above ≤ m). inl (
        inr (omega (arith, size, top, high)),
        inr (omega (arith, size, size2, top, high, kept)),
      ))

  -- ---- by cells between two edges alone
  -- g is so connected to a half-edge beside the cell, or to one that touches the border
  abbrev Reaches : Half → Sector → Type 0
  Reaches g c =
      ((h : Half) × Crossing r g h × Beside r h c) ⊎ ((h : Half) × Crossing r g h × Touches r h)

  crossing_more : (g h i : Half) → Crossing r g h → Across r h i → Crossing r g i
  crossing_more _ _ i (same g h e) a =
      cross g i i (subst (λ (x : Half). Across r x i) (sym e) a) (same i i refl)
  crossing_more _ _ i (cross g x h a k) b = cross g x i a (crossing_more x h i k b)

  reach_on : (g : Half) (c d : Sector) → Reaches g c → IsSector r c
      → (IsBorder r c × IsBorder r d) ⊎ ((h : Half) × Beside r h c × Beside r h d) → Reaches g d
  reach_on g c d (inr x) C w = inr x
  reach_on g c d (inl x) C (inl w) = inr (x.0, x.1, (c, C, x.2, w.0))
  reach_on g c d (inl x) C (inr w) = inl (w.0, crossing_more g x.0 w.0 x.1 (c, C, x.2, w.1), w.2)

  turned : (c d : Sector)
      → (IsBorder r c × IsBorder r d) ⊎ ((h : Half) × Beside r h c × Beside r h d)
      → (IsBorder r d × IsBorder r c) ⊎ ((h : Half) × Beside r h d × Beside r h c)
  turned c d (inl w) = inl (w.1, w.0)
  turned c d (inr w) = inr (w.0, w.2, w.1)

  reach_linked : (g : Half) (c d : Sector) → Linked r c d → IsSector r c → Reaches g c → Reaches g d
  reach_linked g _ _ (stays c d e) C x = subst (λ (u : Sector). Reaches g u) e x
  reach_linked g _ _ (onward c u d o l) C x =
      reach_linked g u d l (opens_to r run law c u o) (reach_on g c u x C (common_wall c u o))
  reach_linked g _ _ (back c u d o l) C x =
      reach_linked g u d l (opens_from r run law u c o)
      (reach_on g c u x C (turned u c (common_wall u c o)))

  pub crossing_linked : (g h : Half) (c d : Sector) → IsSector r c → IsSector r d → Beside r g c
      → Beside r h d → Linked r c d
      → Crossing r g h ⊎ ((t : Half) × Crossing r g t × Touches r t)
  crossing_linked g h c d C D b k l = elim (reach_linked g c d l C (inl (g, same g g refl, b))) [
    | inl x ↦ inl (crossing_more g x.0 h x.1 (d, D, x.2, k))
    | inr x ↦ inr x
  ]

  -- ---- connected half-edges and linked cells
  pub crossing_connected : (g h : Half) → Crossing r g h → Connected r g h
  crossing_connected _ _ (same g h e) = same g h e
  crossing_connected _ _ (cross g x h a k) = cross g x h a (crossing_connected x h k)

  pub connected_join : (g h i : Half) → Connected r g h → Connected r h i → Connected r g i
  connected_join _ _ i (same g h e) k = subst (λ (x : Half). Connected r x i) (sym e) k
  connected_join _ _ i (cross g x h a j) k = cross g x i a (connected_join x h i j k)
  connected_join _ _ i (go g x h n j) k = go g x i n (connected_join x h i j k)
  connected_join _ _ i (return g x h n j) k = return g x i n (connected_join x h i j k)
  connected_join _ _ i (outside g x h s t j) k = outside g x i s t (connected_join x h i j k)

  pub linked_connected : (g h : Half) (c d : Sector) → IsSector r c → IsSector r d → Beside r g c
      → Beside r h d → Linked r c d → Connected r g h
  linked_connected g h c d C D b k l = elim (crossing_linked g h c d C D b k l) [
    | inl x ↦ crossing_connected g h x
    | inr x ↦ elim (crossing_linked h g d c D C k b (linked_back r c d l)) [
      | inl y ↦ connected_back_cross h g y
      | inr y ↦ connected_join g x.0 h (crossing_connected g x.0 x.1)
          (outside x.0 y.0 h x.2 y.2 (connected_back_cross h y.0 y.1))
    ]
  ]
    where
      connected_back_cross : (g h : Half) → Crossing r g h → Connected r h g
      connected_back_cross _ _ (same g h e) = same h g (sym e)
      connected_back_cross _ _ (cross g x h a j) =
          connected_join h x g (connected_back_cross x h j)
          (cross x g g (a.0, a.1, a.3, a.2) (same g g refl))

  pub connected_linked : (g h : Half) → Connected r g h → (c d : Sector) → IsSector r c
      → IsSector r d → Beside r g c → Beside r h d → Linked r c d
  connected_linked _ _ (same g h e) c d C D b k =
      beside_linked r run law h c d C D (subst (λ (x : Half). Beside r x c) e b) k
  connected_linked _ _ (cross g x h a j) c d C D b k =
      linked_join r c a.0 d (beside_linked r run law g c a.0 C a.1 b a.2)
      (connected_linked x h j a.0 d a.1 D a.3 k)
  connected_linked _ _ (go g x h n j) c d C D b k =
      let m = next_cells r run law x g n in
      linked_join r c m.1 d
      (linked_join r c m.0 m.1 (beside_linked r run law g c m.0 C m.2 b m.4) m.6)
      (connected_linked x h j m.1 d m.3 D m.5 k)
  connected_linked _ _ (return g x h n j) c d C D b k =
      let m = next_cells r run law g x n in
      linked_join r c m.0 d
      (linked_join r c m.1 m.0 (beside_linked r run law g c m.1 C m.3 b m.5)
      (linked_back r m.0 m.1 m.6)) (connected_linked x h j m.0 d m.2 D m.4 k)
  connected_linked _ _ (outside g x h s t j) c d C D b k =
      linked_join r c t.0 d
      (linked_join r c corner t.0 (touches_linked g c s C b)
      (linked_back r t.0 corner (border_linked r run law t.0 t.1 t.3)))
      (connected_linked x h j t.0 d t.1 D t.2 k)
