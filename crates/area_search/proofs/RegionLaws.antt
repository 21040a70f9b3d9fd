-- A place has one region in a partition.
use Rattle.std.proofs.Common.{◌≡◌, ◌↔◌, ◌<◌, ℕ, ℤ, pos, Bool, List, length, arith, refl, sym, ap}
use Rattle.std.proofs.Common.{◌∙◌, subst}
use Rattle.std.proofs.lemmas.Int.{ints}
use Rattle.plane.specs.Rule.Partition.{IsOuter, IsPartition, Joined}
use Rattle.plane.specs.Rule.Places.{Place, Vector, point}
use Rattle.plane.specs.Rule.Plans.{Plan, object}
use Rattle.plane.specs.declared.kinds.Point.{Point}
use Rattle.certificate.specs.declared.notes.Certificate.{Certificate}
use Rattle.area_search.specs.declared.kinds.AreaAnswer.{AreaAnswer}
use Rattle.area_search.specs.declared.kinds.AreaAnswer.TheVariants.{Proved}
use Rattle.area_search.specs.declared.kinds.FoundObjects.{FoundObjects}
use Rattle.area_search.specs.declared.kinds.Region.{Region}
use Rattle.area_search.specs.declared.kinds.Region.TheVariants as region
use Rattle.area_search.specs.Grounds.{IsAnswerBy, IsRightGround}
use Rattle.area_search.specs.Regions.{AreRegions, AreRegionsBy, AreRegionsOfGround, HasRegion}
use Rattle.area_search.specs.Regions.{place_at, region_at}
use Rattle.area_search.proofs.AnswerLaws.{no_smaller}
use Rattle.area_search.proofs.GroundLaws.{Laws, one_right, proves_ground}
use Rattle.area_search.proofs.PlaneLaws.{joined_back, joined_through}

a_place : (p : Point) → Place (point p)
a_place p = omega (arith, ints)

-- what is joined to an outer place is outer
outer_along : (g : Plan) (p q : Vector) → Place p → Place q → Joined g p q → IsOuter g p
    → IsOuter g q
outer_along g p q a b j o = λ n.
    let (z, c, k, l) = o n in
    (z, c, joined_through g q p z b a (joined_back g p q a b j) k, l)

module _ (g : Plan) (parts : IsPartition g) (z : Vector) (place : Place z) where
  never_inner : (k : ℕ) → k < length g.points → Joined g z (point (object g k)) → IsOuter g z → ⊥
  never_inner k l j o =
      parts.bounded k l (outer_along g z (point (object g k)) place (a_place (object g k)) j o)

  one_object : (k l : ℕ) → k < length g.points → l < length g.points
      → Joined g z (point (object g k)) → Joined g z (point (object g l)) → k ≡ l
  one_object k l m n i j = no_smaller k l (k ≡ l)
      (λ o. parts.alone k l m n (λ e. absurd (omega (arith, e, o))) (along k l i j))
      (λ o. parts.alone l k n m (λ e. absurd (omega (arith, e, o))) (along l k j i)) (λ e. e)
    where
      along : (a b : ℕ) → Joined g z (point (object g a)) → Joined g z (point (object g b))
          → Joined g (point (object g a)) (point (object g b))
      along a b i j =
          let p = a_place (object g a) in
          joined_through g (point (object g a)) z (point (object g b)) p place
          (joined_back g z (point (object g a)) place p i) j

  pub one_region : (r s : Region) → HasRegion g z r → HasRegion g z s → r ≡ s
  one_region region.OnCurve region.OnCurve h k = refl
  one_region region.OnCurve region.Outer (i, l, on) k = absurd (k.0 i l on)
  one_region region.OnCurve (region.Of b) (i, l, on) k = absurd (k.1 i l on)
  one_region region.Outer region.OnCurve h (i, l, on) = absurd (h.0 i l on)
  one_region region.Outer region.Outer h k = refl
  one_region region.Outer (region.Of b) h k = absurd (never_inner b k.0 k.2 h.1)
  one_region (region.Of a) region.OnCurve h (i, l, on) = absurd (h.1 i l on)
  one_region (region.Of a) region.Outer h k = absurd (never_inner a h.0 h.2 k.1)
  one_region (region.Of a) (region.Of b) h k =
      ap (λ (n : ℕ). region.Of n) (one_object a b h.0 k.0 h.2 k.2)

module _ (laws : Laws) where
  ground_parts : (t : ℤ) (d g : Plan) (c : Certificate) (x : Bool) (os : List ℕ)
      → IsAnswerBy t d (Proved c) → IsRightGround t d x g os → IsPartition g
  ground_parts t d g c x os h r =
      let p = proves_ground laws t d c h in
      subst IsPartition (one_right laws.bent t d p.g g c.bent x p.origin os p.right r) p.area.parts

  pub one_of_ground : (t : ℤ) (d g : Plan) (c : Certificate) (x : Bool) (os : List ℕ) (z : Vector)
      (r s : Region) → IsAnswerBy t d (Proved c) → IsRightGround t d x g os → Place z
      → HasRegion g z r → HasRegion g z s → r ≡ s
  one_of_ground t d g c x os z r s h q place =
      one_region g (ground_parts t d g c x os h q) z place r s

  found_region : (t : ℤ) (d g : Plan) (c : Certificate) (x : Bool) (os : List ℕ)
      (places : List Point) (rs : List Region) → AreRegionsOfGround t d c.bent places rs
      → IsRightGround t d x g os → (j : ℕ) → j < length places
      → HasRegion g (point (place_at places j)) (region_at rs j)
  found_region t d g c x os places rs a q j l =
      let e = one_right laws.bent t d a.g g c.bent x a.origin os a.right q in
      subst (λ (w : Plan). HasRegion w (point (place_at places j)) (region_at rs j)) e
      (a.regions_are.each j l)

  pub exact_found : (t : ℤ) (d g : Plan) (c : Certificate) (x : Bool) (os : List ℕ)
      (places : List Point) (f : FoundObjects) → f.answer ≡ Proved c → IsAnswerBy t d f.answer
      → AreRegions t d places f → IsRightGround t d x g os → (j k : ℕ) → j < length places
      → HasRegion g (point (place_at places j)) (region.Of k)
      ↔ (region_at f.regions.items j ≡ region.Of k)
  exact_found t d g c x os places f e h a q j k l =
      let z = point (place_at places j) in
      let r = region_at f.regions.items j in
      let by = subst (λ (y : AreaAnswer). AreRegionsBy y t d places f.regions.items) e a in
      let own = found_region t d g c x os places f.regions.items by q j l in (
        (λ m. one_of_ground t d g c x os z r (region.Of k) (subst (IsAnswerBy t d) e h) q
            (a_place (place_at places j)) own m),
        (λ m. subst (HasRegion g z) m own),
      )
