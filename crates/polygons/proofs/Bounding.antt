-- The rings of a face bound what is joined to a point in it.
use Rattle.std.proofs.Common.{◌≡◌, ◌↔◌, ℕ, ◌<◌, arith, ap, sym, ◌∙◌, refl, inl, inr, ◌⊎◌, Bool}
use Rattle.std.proofs.Common.{true, ℤ, List, [], ◌∷◌, length, map, slice_index, slice_index_or}
use Rattle.std.proofs.Common.{subst}
use Rattle.std.proofs.Math.ListN.{get_or-map}
use Rattle.plane.specs.declared.kinds.Edge.{Edge}
use Rattle.plane.specs.declared.kinds.Point.{Point}
use Rattle.plane.specs.Faces.Cells.{position}
use Rattle.plane.specs.Faces.Classes.{IsFaces, numbers}
use Rattle.plane.specs.Faces.Classes as classes
use Rattle.plane.specs.Faces.Directions.{IsClockwiseNext, origin}
use Rattle.plane.specs.Faces.DrawnRuns.{IsRunOf, drawn}
use Rattle.plane.specs.Faces.Halves.{Half, edge_of, half_of, number, over, twin, under}
use Rattle.plane.specs.Faces.Parity.{crosses_vertical, differ, one_side, parity, same_number}
use Rattle.plane.specs.Faces.PlacedPoints.{IsLocated}
use Rattle.plane.specs.Faces.Replays.{no_step}
use Rattle.plane.specs.Forms.Vectors.{Place, Vector, point}
use Rattle.plane.specs.Lists.{Has, Once}
use Rattle.plane.specs.Rule.Cuts.{HasNoCut}
use Rattle.plane.specs.Rule.Partition.{IsOff, Joined}
use Rattle.plane.specs.Rule.Plans.{Plan}
use Rattle.plane.specs.Runs.Steps.{Step}
use Rattle.half_edges.specs.Cycles.{steps as round_steps}
use Rattle.half_edges.specs.HalfEdges.{HalfEdges, face_of, next_of, origin_of, size}
use Rattle.half_edges.specs.Meshes.{IsMesh}
use Rattle.half_edges.proofs.Cycles.{kept_along}
use Rattle.event_mesh.specs.Turned.{IsTurned, points_of}
use Rattle.event_mesh.proofs.TurnedEvents.{next_is}
use Rattle.polygons.specs.Circles.{IsLeast}
use Rattle.polygons.specs.Polygons.{IsOrder, IsPolygonOf, led, no_point, no_ring, place_of}
use Rattle.polygons.specs.Regions.{AreHalvesOf, AreLines, AreRingsAbout, HasOnLeft}
use Rattle.polygons.proofs.Circling.{halves_all, halves_on, halves_once, has_moved, has_unmoved}
use Rattle.polygons.proofs.Circling.{least_on, once_moved, rising_once}
use Rattle.polygons.proofs.PlaneLaws.{above_joined, below_joined, by_test, each_from, enclosed}
use Rattle.polygons.proofs.PlaneLaws.{half_number, has_map, next_clockwise_is, number_below}
use Rattle.polygons.proofs.PlaneLaws.{number_half, number_is, number_self, one_face_cuts}
use Rattle.polygons.proofs.PlaneLaws.{other_number, some_inner_crossing}
use Rattle.polygons.proofs.Rounds.{way_back, within}
use Rattle.polygons.proofs.Sides.{along_rings, halves_of, line, line_below}

-- ---- an order holds what it orders
ordered_has : (m : HalfEdges) (at : List Point) (starts order : List ℕ) → IsOrder m at starts order
    → (g : ℕ) → Has g starts → Has g order
ordered_has m at starts order (no_ring s o) g has = absurd (subst (λ (hs : List ℕ). Has g hs) s has)
ordered_has m at starts order (led earlier first later s o l) g has =
    subst (λ (hs : List ℕ). Has g hs) (sym o)
    (has_moved earlier later first g (subst (λ (hs : List ℕ). Has g hs) s has))

of_ordered : (m : HalfEdges) (at : List Point) (starts order : List ℕ) → IsOrder m at starts order
    → (g : ℕ) → Has g order → Has g starts
of_ordered m at starts order (no_ring s o) g has = absurd (subst (λ (hs : List ℕ). Has g hs) o has)
of_ordered m at starts order (led earlier first later s o l) g has =
    subst (λ (hs : List ℕ). Has g hs) (sym s)
    (has_unmoved earlier later first g (subst (λ (hs : List ℕ). Has g hs) o has))

ordered_once : (m : HalfEdges) (at : List Point) (starts order : List ℕ) → IsOrder m at starts order
    → Once starts → Once order
ordered_once m at starts order (no_ring s o) once = subst Once (sym o) tt
ordered_once m at starts order (led earlier first later s o l) once =
    subst Once (sym o) (once_moved earlier later first (subst Once s once))

-- ---- lists
once_map : (f : ℕ → ℕ) (xs : List ℕ) → Once xs
    → ((x y : ℕ) → Has x xs → Has y xs → f x ≡ f y → x ≡ y) → Once (map f xs)
once_map f [] o one = tt
once_map f (x ∷ xs) (new, o) one = (
  (λ has. let (y, i, e) = of_map f xs (f x) has in
      new (subst (λ (z : ℕ). Has z xs) (sym (one x y (inl refl) (inr i) e)) i)),
  once_map f xs o (λ y z i j e. one y z (inr i) (inr j) e),
)
  where
    of_map : (f : ℕ → ℕ) (xs : List ℕ) (y : ℕ) → Has y (map f xs) → (x : ℕ) × Has x xs × (y ≡ f x)
    of_map f [] y has = absurd has
    of_map f (x ∷ xs) y (inl e) = (x, inl refl, e)
    of_map f (x ∷ xs) y (inr has) = let (z, i, e) = of_map f xs y has in (z, inr i, e)

of_map : (f : ℕ → ℕ) (xs : List ℕ) (y : ℕ) → Has y (map f xs) → (x : ℕ) × Has x xs × (y ≡ f x)
of_map f [] y has = absurd has
of_map f (x ∷ xs) y (inl e) = (x, inl refl, e)
of_map f (x ∷ xs) y (inr has) = let (z, i, e) = of_map f xs y has in (z, inr i, e)

parity_mapped : (p : Edge → Bool) (E : ℕ → Edge) (xs : List ℕ)
    → parity p (map E xs) ≡ parity (λ e. p (E e)) xs
parity_mapped p E [] = refl
parity_mapped p E (x ∷ xs) = ap (differ (p (E x))) (parity_mapped p E xs)

-- ---- one side
one_true : (f a b : ℕ) → f ≡ a → (f ≡ b → ⊥) → differ (same_number f a) (same_number f b) ≡ true
one_true f a b e n =
    ap (λ (t : Bool). differ t (same_number f b)) (ap (same_number f) (sym e) ∙ number_self f)
    ∙ ap (differ true) (other_number f b n)

other_true : (f a b : ℕ) → (f ≡ a → ⊥) → f ≡ b → differ (same_number f a) (same_number f b) ≡ true
other_true f a b n e =
    ap (λ (t : Bool). differ t (same_number f b)) (other_number f a n)
    ∙ (ap (same_number f) (sym e) ∙ number_self f)

true_one : (f a b : ℕ) → differ (same_number f a) (same_number f b) ≡ true → (f ≡ a) ⊎ (f ≡ b)
true_one f a b t =
    by_test (same_number f a) (λ h. inl (number_is f a h))
    (λ h. inr (number_is f b (ap (λ (s : Bool). differ s (same_number f b)) (sym h) ∙ t)))

module _ (w : ℤ) (d : Plan) (E : ℕ → Edge) (steps : List Step) (on : IsRunOf d E steps)
    (whole : HasNoCut d) (m : HalfEdges) (mesh : IsMesh m)
    (turned : IsTurned (length d.curves) E steps m (length steps)) (at : List Point)
    (places : at ≡ points_of steps)
    (faces : IsFaces (drawn w d E steps) (λ h. slice_index m.face (number h))) (a : Point) (k i : ℕ)
    (located : IsLocated (drawn w d E steps) a k i)
    (f : ℕ) (is : classes.face_of (drawn w d E steps) (λ h. slice_index m.face (number h))
    (position k i) ≡ f) (inner : f ≡ 0 → ⊥) where
  abbrev n : ℕ
  n = length d.curves

  abbrev face : Half → ℕ
  face h = slice_index m.face (number h)

  -- ---- the half-edges
  begins : (h : Half) → edge_of h < n → place_of m at (number h) ≡ origin E h
  begins h l =
      let b = turned.begins h l in
      ap (λ (ps : List Point). slice_index_or ps (origin_of m (number h)) no_point) places
      ∙ (get_or-map (λ (s : Step). s.at) steps (origin_of m (number h)) no_step ∙ b.point)

  below_line : (g : ℕ) → g < size m → line g < n
  below_line g l = line_below E m at n mesh turned.count begins g l

  next : (h : Half) → edge_of h < n
      → (edge_of (half_of (next_of m (number h))) < n)
      × IsClockwiseNext n E (twin h) (half_of (next_of m (number h)))
  next h l =
      let count = turned.count in
      let b = number_below h n l in (
        below_line (next_of m (number h)) (mesh.next_within (number h) (omega (arith, b, count))),
        next_clockwise_is w n E steps on.run h (half_of (next_of m (number h)))
            ((next_is w n E steps m h (half_of (next_of m (number h))) on.run turned l).0
            (sym (number_half (next_of m (number h))))),
      )

  on_left : (h : Half) → edge_of h < n → (face h ≡ f) ↔ HasOnLeft d E a h
  on_left (under e) l = (
    (λ q. let (x, y, c, o) = some_inner_crossing w d E steps on e l in
        (x, y, c, (below_joined w d E steps on face faces e l x y a k i c located).1 (q ∙ sym is))),
    (λ (x, y, c, j). (below_joined w d E steps on face faces e l x y a k i c located).0 j ∙ is),
  )
  on_left (over e) l = (
    (λ q. let (x, y, c, o) = some_inner_crossing w d E steps on e l in
        (x, y, c, (above_joined w d E steps on face faces e l x y a k i c located).1 (q ∙ sym is))),
    (λ (x, y, c, j). (above_joined w d E steps on face faces e l x y a k i c located).0 j ∙ is),
  )

  halves : AreHalvesOf d E a m at f
  halves = record { count = turned.count; begins = begins; next = next; face = on_left }

  -- ---- the lines of the rings
  apart : (e : ℕ) → e < n → face (over e) ≡ face (under e) → ⊥
  apart e l q = whole e l (one_face_cuts w d E steps on face faces e l q)

  one_half : (x y : Half) → edge_of x < n → edge_of x ≡ edge_of y → face x ≡ face y → x ≡ y
  one_half (under e) (under g) l q s = ap under q
  one_half (over e) (over g) l q s = ap over q
  one_half (under e) (over g) l q s = absurd (apart e l (ap (λ (j : ℕ). face (over j)) q ∙ sym s))
  one_half (over e) (under g) l q s =
      absurd (apart e l (s ∙ ap (λ (j : ℕ). face (under j)) (sym q)))

  face_number : (g : ℕ) → face (half_of g) ≡ face_of m g
  face_number g = ap (slice_index m.face) (number_half g)

  module _ (rings : List (List Point)) (p : IsPolygonOf m at f rings) where
    abbrev of_rings : List ℕ
    of_rings = halves_of m at p.order rings p.traced

    only : (h : ℕ) → Has h p.order → (h < size m) × IsLeast m h
    only h has =
        let s = p.of_face.only h (of_ordered m at p.starts p.order p.ordered h has) in (s.0, s.1)

    kept : (j h : ℕ) → h < size m → face_of m (round_steps (next_of m) j h) ≡ face_of m h
    kept j h l =
        kept_along (next_of m) (face_of m) (size m) mesh.next_within
        (λ g s. mesh.one_face.same g s) j h l

    in_face : (g : ℕ) → Has g of_rings → (g < size m) × (face_of m g ≡ f)
    in_face g has =
        let (h, i, j, e) = halves_on m mesh at p.order rings p.traced g has in
        let s = p.of_face.only h (of_ordered m at p.starts p.order p.ordered h i) in (
          subst (λ (x : ℕ). x < size m) (sym e) (within m mesh j h s.0),
          ap (face_of m) e
              ∙ (kept j h s.0 ∙ s.2),
        )

    all_of_face : (g : ℕ) → g < size m → face_of m g ≡ f → Has g of_rings
    all_of_face g l e =
        let (j, least) = least_on m mesh g l in
        let h = round_steps (next_of m) j g in
        let back = way_back m mesh j g h l refl in
        let start = p.of_face.all h (within m mesh j g l) least (kept j g l ∙ e) in
        subst (λ (x : ℕ). Has x of_rings) back.there
        (halves_all m mesh at p.order rings p.traced h back.count
        (ordered_has m at p.starts p.order p.ordered h start))

    abbrev lines : List ℕ
    lines = map line of_rings

    once : Once lines
    once =
        once_map line of_rings
        (halves_once m mesh at p.order rings p.traced
        (ordered_once m at p.starts p.order p.ordered (rising_once p.starts p.of_face.rising))
        only)
        (λ x y i j e.
        let (l, q) = in_face x i in
        let (u, r) = in_face y j in
        sym (number_half x)
        ∙ (ap number
        (one_half (half_of x) (half_of y) (below_line x l) e (face_number x
        ∙ (q ∙ (sym r ∙ sym (face_number y))))) ∙ number_half y))

    there : (e : ℕ) → Has e lines → e < n
    there e has =
        let (g, i, q) = of_map line of_rings e has in
        subst (λ (x : ℕ). x < n) (sym q) (below_line g (in_face g i).0)

    are_lines : AreLines d E rings lines
    are_lines = record {
      there = each_from (λ e. e < length d.curves) lines there;
      along = along_rings E m at n mesh turned.count begins p.order rings p.traced
          (λ h has. (only h has).0);
      once = once;
    }

    -- ---- what they enclose
    abbrev f_at : ℕ
    f_at = classes.face_of (drawn w d E steps) face (position k i)

    half_side : (x : Half) → edge_of x < n → face x ≡ f
        → one_side (numbers face) f_at (edge_of x) ≡ true
    half_side (under e) l q =
        one_true f_at (face (under e)) (face (over e)) (is ∙ sym q)
        (λ r. apart e l (sym r ∙ (is ∙ sym q)))
    half_side (over e) l q =
        other_true f_at (face (under e)) (face (over e)) (λ r. apart e l (q ∙ (sym is ∙ r))) (is
        ∙ sym q)

    line_side : (e : ℕ) → Has e lines → (e < n) × (one_side (numbers face) f_at e ≡ true)
    line_side e has =
        let (g, i, q) = of_map line of_rings e has in
        let (l, r) = in_face g i in (
          there e has,
          subst (λ (x : ℕ). one_side (numbers face) f_at x ≡ true) (sym q)
              (half_side (half_of g) (below_line g l) (face_number g ∙ r)),
        )

    has_half : (x : Half) → edge_of x < n → face x ≡ f → Has (edge_of x) lines
    has_half x l q =
        let count = turned.count in
        let b = number_below x n l in
        subst (λ (y : Half). Has (edge_of y) lines) (half_number x)
        (has_map line (number x) of_rings (all_of_face (number x) (omega (arith, b, count)) q))

    side_line : (e : ℕ) → e < n → one_side (numbers face) f_at e ≡ true → Has e lines
    side_line e l t = elim (true_one f_at (face (under e)) (face (over e)) t) [
      | inl q ↦ has_half (under e) l (sym q ∙ is)
      | inr q ↦ has_half (over e) l (sym q ∙ is)
    ]

    encloses : (z : Vector) → Place z → IsOff d z
        → (parity (crosses_vertical z) (map E lines) ≡ true) ↔ Joined d z (point a)
    encloses z Z off =
        let law = enclosed w d E steps on face faces a k i lines z located
        (λ q. inner (sym is ∙ q)) once line_side side_line Z off in
        let e = parity_mapped (crosses_vertical z) E lines in
        ((λ q. law.0 (sym e ∙ q)), (λ j. e ∙ law.1 j))

    pub bounds : AreRingsAbout d E a rings
    bounds = record {
      edges = record { edges = on.edges; rising = on.run.edges };
      line_numbers = lines;
      lines = are_lines;
      enclose = encloses;
      order = record { m = m; at = at; f = f; halves = halves; rings_are = p };
    }
