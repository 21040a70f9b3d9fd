-- The sides that follow one another in the rest go round its faces.
use Rattle.std.proofs.Common.{◌≡◌, ◌⊎◌, Bool, true, false, ℕ, ◌*◌, ◌<◌, Some, None, List}
use Rattle.std.proofs.Common.{length, slice_index, arith, refl, inl, inr, sym, ◌∙◌, subst, ap}
use Rattle.area_search.proofs.SettledLemmas.SideHalves.{twin_edge, twin_is}
use Rattle.event_mesh.specs.Turned.{IsEventAt, nth_step}
use Rattle.fault_lists.specs.FaceLists.{IsSide, face_beside}
use Rattle.fault_lists.specs.Rings.{GoRound, IsSaidNext, end_of, end_on, start_of, start_on}
use Rattle.fault_lists.specs.declared.faces.CurveFaces.{CurveFaces}
use Rattle.fault_lists.specs.declared.faces.DrawingFaces.{DrawingFaces}
use Rattle.fault_lists.specs.declared.kinds.SideAt.{SideAt}
use Rattle.fault_lists.proofs.LeastSides.{one_face_beside, one_side}
use Rattle.half_edges.specs.HalfEdges.{HalfEdges, face_of, next_of, origin_of, over_of, prev_of}
use Rattle.half_edges.specs.HalfEdges.{size, twin_of, under_of}
use Rattle.half_edges.specs.Meshes.{IsMesh}
use Rattle.near_pairs.specs.Boxes.{mark_of}
use Rattle.plane.specs.Faces.Directions.{origin}
use Rattle.plane.specs.Faces.Halves.{Half, edge_of as half_edge_of, number, over, twin, under}
use Rattle.plane.specs.Forms.Vectors.{Before}
use Rattle.plane.specs.Rule.Doubled.{twice}
use Rattle.plane.specs.Rule.Plans.{Plan, curve}
use Rattle.plane.specs.Runs.Steps.{Step}
use Rattle.plane.specs.declared.kinds.Curve.{Curve}
use Rattle.plane.specs.declared.kinds.Edge.{Edge}
use Rattle.plane.specs.declared.kinds.Point.{Point}
use Rattle.plane.proofs.Turning.FanNumbers.{number_below, number_one}
use Rattle.straight_predicates.specs.EdgeLists.{edge_of}
use Rattle.area_faults.specs.NextSides.{AreFollowedTo, IsFollowed, IsHalfOn}
use Rattle.area_faults.specs.RestFaces.{AreCurveFacesTo, AreParted, AreSidesOf, half_edges, sides_at}
use Rattle.area_faults.proofs.HalfUnits.{before_once, twice_once}
use Rattle.area_faults.proofs.SidesOfRest.{ends_of, forward, known_side, one_half_of, one_side_of}
use Rattle.area_faults.proofs.SidesOfRest.{side_is}

some_once : (i j : ℕ) → Some i ≡ Some j → i ≡ j
some_once i j e = cc

-- of two values that differ one is any third
one_of_two : (a b c : Bool) → (b ≡ c → ⊥) → (b ≡ a) ⊎ (c ≡ a)
one_of_two true true c n = inl refl
one_of_two false false c n = inl refl
one_of_two true false true n = inr refl
one_of_two true false false n = absurd (n refl)
one_of_two false true false n = inr refl
one_of_two false true true n = absurd (n refl)

by_mark : (b : Bool) → (b ≡ true) ⊎ (b ≡ false)
by_mark true = inl refl
by_mark false = inr refl

module _ (d : Plan) (marks : List Bool) (kept left : List ℕ) (parted : AreParted d marks kept left)
    (flat : (i : ℕ) → i < length d.curves → (curve d i).from ≡ (curve d i).to → ⊥)
    (mesh : HalfEdges) (is : IsMesh mesh) (count : size mesh ≡ 2 * length kept) (steps : List Step)
    (begins : (x : Half) → half_edge_of x < length kept
    → IsEventAt steps (origin_of mesh (number x)) (origin (edge_of (half_edges d kept)) x))
    (f : DrawingFaces)
    (curves : AreCurveFacesTo d.curves kept mesh.face (length kept) f.curves.items)
    (next : AreFollowedTo d kept mesh (size mesh) f.next.items) where
  abbrev E : ℕ → Edge
  E = edge_of (half_edges d kept)

  abbrev On : SideAt → ℕ → Type 0
  On s h = IsHalfOn d kept s h

  known : (m : ℕ) → m < length kept → slice_index kept m < length d.curves
  known = parted.kept_are.known

  one_side_on : (s t : SideAt) (h : ℕ) → On s h → On t h → s ≡ t
  one_side_on = one_side_of d kept known flat

  one_half_on : (s : SideAt) (h g : ℕ) → On s h → On s g → h ≡ g
  one_half_on = one_half_of d kept known flat parted.kept_are.rising

  -- ---- places
  abbrev at : ℕ → Point
  at v = (nth_step steps v).at

  place : (x : Half) → half_edge_of x < length kept → at (origin_of mesh (number x)) ≡ origin E x
  place x l = (begins x l).point

  -- the next half-edge begins where the half-edge ends
  meets : (s t : SideAt) (h : ℕ) → h < size mesh → On s h → On t (next_of mesh h)
      → end_of d s ≡ start_of d t
  meets s t h l a b = twice_once (end_of d s) (start_of d t)
      (sym a.ends
      ∙ sym (place (twin a.half)
      (subst (λ (e : ℕ). e < length kept) (sym (twin_edge a.half)) a.there))
      ∙ ap (λ (n : ℕ). at (origin_of mesh n)) (twin_is a.half ∙ ap twin_of a.is)
      ∙ ap at (sym (is.joined h l))
      ∙ ap (λ (n : ℕ). at (origin_of mesh n)) (sym b.is)
      ∙ place b.half b.there
      ∙ b.starts)

  -- ---- the face beside a side
  over_number : (m : ℕ) → over_of m ≡ number (over m)
  over_number m = omega arith

  under_number : (m : ℕ) → under_of m ≡ number (under m)
  under_number m = omega arith

  face_on : (x : Half) (c : Curve) (left : Bool) (g : CurveFaces)
      → Before (E (half_edge_of x)).low (E (half_edge_of x)).high
      → origin E x ≡ twice (start_on left c) → origin E (twin x) ≡ twice (end_on left c)
      → AreSidesOf c mesh.face (half_edge_of x) g → face_beside left g ≡ face_of mesh (number x)
  face_on (over m) c true g b p q s =
      (s.forth (forward (E m) c.from c.to b p q)).0 ∙ ap (face_of mesh) (over_number m)
  face_on (over m) c false g b p q s =
      (s.back (before_once c.to c.from (forward (E m) c.to c.from b p q))).1
      ∙ ap (face_of mesh) (over_number m)
  face_on (under m) c true g b p q s =
      (s.back (before_once c.to c.from (forward (E m) c.to c.from b q p))).0
      ∙ ap (face_of mesh) (under_number m)
  face_on (under m) c false g b p q s =
      (s.forth (forward (E m) c.from c.to b q p)).1 ∙ ap (face_of mesh) (under_number m)

  beside : (s : SideAt) (h : ℕ) → On s h → IsSide f (face_of mesh h) s
  beside s h a =
      let m = half_edge_of a.half in
      let (g, g_is, sides) = curves.each m a.there in
      record {
        there = (let z = curves.size in let k = known_side d kept known flat s h a in
            omega (arith, z, k));
        faces = g;
        is = ap (sides_at f.curves.items) (sym a.curve_is) ∙ g_is;
        on = face_on a.half (curve d s.curve) s.left g (ends_of d kept known flat m a.there).0
            a.starts a.ends
            (subst (λ (i : ℕ). AreSidesOf (curve d i) mesh.face m g) a.curve_is sides)
            ∙ ap (face_of mesh) a.is;
      }

  -- ---- the half-edge of a side
  at_half : (x : Half) → half_edge_of x < length kept
      → IsFollowed d kept mesh f.next.items (number x)
  at_half x l = next (number x) (let k = number_below x (length kept) l in omega (arith, k, count))

  curve_on : (x : Half) (s : SideAt) → On s (number x) → slice_index kept (half_edge_of x) ≡ s.curve
  curve_on x s a =
      ap (λ (y : Half). slice_index kept (half_edge_of y)) (sym (number_one a.half x a.is))
      ∙ a.curve_is

  -- one half of the edge is on the side
  some_half : (s : SideAt) (m : ℕ) → m < length kept → slice_index kept m ≡ s.curve
      → (h : ℕ) × (h < size mesh) × On s h
  some_half s m l e =
      elim (one_of_two s.left (at_half (under m) l).side.left (at_half (over m) l).side.left differ)
      [ inl p ↦ half_of (under m) l e p | inr p ↦ half_of (over m) l e p ]
    where
      half_of : (x : Half) (k : half_edge_of x < length kept)
          → slice_index kept (half_edge_of x) ≡ s.curve → (at_half x k).side.left ≡ s.left
          → (h : ℕ) × (h < size mesh) × On s h
      half_of x k q p =
          let w = at_half x k in (
            number x,
            (let n = number_below x (length kept) k in omega (arith, n, count)),
            subst (λ (t : SideAt). On t (number x))
                (side_is w.side s (sym (curve_on x w.side w.on) ∙ q) p) w.on,
          )

      differ : (at_half (under m) l).side.left ≡ (at_half (over m) l).side.left → ⊥
      differ q =
          let u = at_half (under m) l in
          let o = at_half (over m) l in
          let same = side_is u.side o.side
          (sym (curve_on (under m) u.side u.on) ∙ curve_on (over m) o.side o.on) q in
          let n = one_half_on o.side (number (under m)) (number (over m))
          (subst (λ (t : SideAt). On t (number (under m))) same u.on) o.on in
          omega (arith, n)

  -- a curve with faces stays
  stays : (n : ℕ) (s : SideAt) → IsSide f n s
      → (m : ℕ) × (m < length kept) × (slice_index kept m ≡ s.curve)
  stays n s a = elim (by_mark (mark_of marks s.curve)) [
    | inl t ↦ absurd (let none = curves.none s.curve
        (λ m l q. gone (mark_of marks (slice_index kept m)) (parted.kept_are.mark_is m l)
        (ap (mark_of marks) q ∙ t)) in
        let e : None ≡ Some a.faces = sym none ∙ a.is in cc)
    | inr t ↦ parted.kept_are.whole s.curve
        (let k = a.there in let z = curves.size in omega (arith, k, z)) t
  ]
    where
      gone : (b : Bool) → b ≡ false → b ≡ true → ⊥
      gone b p q = absurd (let e : true ≡ false = sym q ∙ p in cc)

  -- ---- what follows a side
  record Follower (s : SideAt) : Type 0 where
    half : ℕ
    there : half < size mesh
    on : On s half
    side : SideAt
    after : On side (next_of mesh half)
    said : IsSaidNext f s side

  follower : (n : ℕ) (s : SideAt) → IsSide f n s → Follower s
  follower n s a =
      let (m, l, e) = stays n s a in
      let (h, there, on) = some_half s m l e in
      let w = next h there in
      record {
        half = h;
        there = there;
        on = on;
        side = w.after;
        after = w.next_on;
        said = subst (λ (v : SideAt). IsSaidNext f v w.after) (one_side_on w.side s h w.on on)
            w.said;
      }

  next_side : (n : ℕ) (s : SideAt) → IsSide f n s
      → (t : SideAt) × IsSaidNext f s t × IsSide f n t × (end_of d s ≡ start_of d t)
  next_side n s a =
      let w = follower n s a in (
        w.side,
        w.said,
        subst (λ (i : ℕ). IsSide f i w.side)
            (is.one_face.same w.half w.there
            ∙ one_face_beside f _ n s (beside s w.half w.on) a)
            (beside w.side (next_of mesh w.half) w.after),
        meets s w.side w.half w.there w.on w.after,
      )

  once : (i n : ℕ) (s t u : SideAt) → IsSide f i s → IsSide f n t → IsSaidNext f s u
      → IsSaidNext f t u → s ≡ t
  once i n s t u a b p q =
      let v = follower i s a in
      let w = follower n t b in
      let e : v.side ≡ w.side = one_side v.side w.side
      (some_once _ _ (sym v.said ∙ p ∙ sym q ∙ w.said)) in
      let g : next_of mesh v.half ≡ next_of mesh w.half = one_half_on w.side _ _
      (subst (λ (x : SideAt). On x (next_of mesh v.half)) e v.after) w.after in
      let h : v.half ≡ w.half = sym (is.prev_next v.half v.there)
      ∙ ap (prev_of mesh) g ∙ is.prev_next w.half w.there in
      one_side_on s t w.half (subst (On s) h v.on) w.on

  pub rest_rounds : GoRound d f
  rest_rounds = record { next = next_side; once = once }
