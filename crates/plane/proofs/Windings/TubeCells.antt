-- A place off the edges is in a tube exactly where its cell has the tube's label; the edges of a
-- tube come in adjacent pairs.
use Rattle.std.proofs.Common.{◌≡◌, ℕ, ◌<◌, ◌≤◌, List, [], ◌∷◌, ◌++◌, length, map, ℤ, pos, ◌<ℤ◌}
use Rattle.std.proofs.Common.{◌≤ℤ◌, inl, inr, refl, arith, ap, sym, ◌∙◌, subst}
use Rattle.std.specs.Prelude.{◌↔◌}
use Rattle.std.proofs.lemmas.Int.{ints}
use Rattle.plane.specs.declared.kinds.Point.{Point}
use Rattle.plane.specs.Lists.{Has, Once}
use Rattle.plane.specs.Forms.Vectors.{Vector, Place, Between, point, Edge, side, rise, On}
use Rattle.plane.specs.Faces.Replays.{Replay, IsOffEdges}
use Rattle.plane.proofs.Runs.RunWords.{IsRun, IsLawful, IsStrip}
use Rattle.plane.specs.Faces.Cells.{raised, sector, strip}
use Rattle.plane.specs.Faces.Halves.{Half, under, over, edge_of, IsMatched}
use Rattle.plane.specs.Faces.Labels.{Labels, Match, last_label, label_at}
use Rattle.plane.specs.Faces.Cells.{label_of}
use Rattle.plane.specs.Tubes.Windings.{turning, total, Bay, tiles, bounds, InSomeTile, IsClearOf}
use Rattle.plane.specs.Tubes.Facing.{way, IsDrawnTube}
use Rattle.plane.proofs.Windings.FacingWords.{one_at}
use Rattle.plane.proofs.ListLemmas.Lists.{each_has, has_front, has_back}
use Rattle.plane.proofs.Linear.Signs.{between_back}
use Rattle.plane.proofs.Strips.OneStrip.{strip_is}
use Rattle.plane.proofs.Strips.CountBelow.{raised_append, raised_all, raised_none}
use Rattle.plane.proofs.LabelLemmas.HalfLabels.{labelled}
use Rattle.plane.proofs.LabelLemmas.Matches.{match_back, at_front, at_end}
use Rattle.plane.proofs.Windings.Facing.{mark_same, mark_is}
use Rattle.plane.proofs.Windings.Rounds.{tube_round, tube_holds}
use Rattle.plane.proofs.Windings.Under.{cut_turning}
use Rattle.plane.proofs.Linear.Straights.{between_on}

-- ---- a place between the ends of an edge is on it
pub way_on : (w : ℤ) (E : ℕ → Edge) (h : Half) (z : Vector) → pos 0 <ℤ rise w (E (edge_of h))
    → Place z → Between z (point (way E h).low) (point (way E h).high) → On w (E (edge_of h)) z
way_on w E (over e) z up Z b = between_on w (E e) z up Z b
way_on w E (under e) z up Z b = between_on w (E e) z up Z (between_back z _ _ b)

pub from_map : {X Y : Type 0} (f : X → Y) (y : Y) (xs : List X) → Has y (map f xs)
    → (x : X) × Has x xs × (y ≡ f x)
from_map f y [] h = absurd h
from_map f y (x ∷ xs) (inl e) = (x, inl refl, e)
from_map f y (x ∷ xs) (inr h) = let r = from_map f y xs h in (r.0, inr r.1, r.2)

-- the label over the lower edges, where no other edge of the list is below z
pub floor_is : (r : Replay) (lab : Labels) (z : Vector) (k : ℕ) (lower upper : List ℕ)
    → r.list k ≡ lower ++ upper → ((e : ℕ) → Has e lower → pos 0 <ℤ side (r.edge e) z)
    → ((e : ℕ) → Has e upper → side (r.edge e) z ≤ℤ pos 0)
    → label_at lab 0 (raised r z (r.list k)) (r.list k) ≡ last_label lab 0 lower
floor_is r lab z k lower upper e u o =
    let n : raised r z (r.list k) ≡ length lower =
    let x = ap (raised r z) e in
    let y = raised_append r z lower upper in
    let v = raised_all r z lower u in
    let q = raised_none r z upper o in
    omega (arith, x, y, v, q) in
    ap (λ (i : ℕ). label_at lab 0 i (r.list k)) n
    ∙ ap (λ (es : List ℕ). label_at lab 0 (length lower) es) e
    ∙ at_front lab 0 (length lower) lower upper (omega arith) ∙ at_end lab 0 lower

module _ (r : Replay) (run : IsRun r) (law : IsLawful r) (no_repeats : (k : ℕ) → k ≤ r.steps
    → Once (r.list k)) (lab : Labels) (matched : IsMatched r lab) where
  module _ (t : ℕ) (a : Point) (b : Bay) (bs : List Bay) (hs : List Half)
      (tube : IsDrawnTube r lab t a b bs hs) where
    -- a place on no edge of the tube is on none of its bounds
    pub clear_of : (z : Vector) → Place z
        → ((h : Half) → Has h hs → On r.weight (r.edge (edge_of h)) z → ⊥)
        → IsClearOf (bounds a (b ∷ bs)) z
    clear_of z Z off e m between =
        let h = from_map (way r.edge) e hs (subst (λ (es : List Edge). Has e es) tube.bounds m) in
        off h.0 h.1 (way_on r.weight r.edge h.0 z
        (run.rise (edge_of h.0) (tube.faced.fits h.0 h.1)) Z
        (subst (λ (f : Edge). Between z (point f.low) (point f.high)) h.2 between))

    -- a place, a cut of its live list, and no edge of the tube through the place: it is in the tube
    -- exactly where the label over the lower edges is the tube's
    module _ (k : ℕ) (z : Vector) (Z : Place z) (strip : IsStrip r k z) (lower rest : List ℕ)
        (cut : r.list k ≡ lower ++ rest)
        (beneath : (e : ℕ) → Has e lower → pos 0 <ℤ side (r.edge e) z) (not_beneath : (e : ℕ)
        → Has e rest → side (r.edge e) z ≤ℤ pos 0) where
      turning_is : total (turning r.weight z) (bounds a (b ∷ bs))
          ≡ one_at t (last_label lab 0 lower)
      turning_is = ap (λ (es : List Edge). total (turning r.weight z) es) tube.bounds
          ∙ cut_turning r run law no_repeats k z Z strip lower rest cut beneath not_beneath lab t hs
          matched tube.faced

      pub cut_label : IsClearOf (bounds a (b ∷ bs)) z → InSomeTile (tiles a (b ∷ bs)) z
          → last_label lab 0 lower ≡ t
      cut_label clear s =
          let n = tube_round r.weight z a b bs Z tube.tiled clear s in
          let e = turning_is in
          elim (mark_is t (last_label lab 0 lower)) [
            | inl q ↦ q.0
            | inr q ↦ let m = q.1 in absurd (omega (arith, ints, n, e, m))
          ]

      pub cut_holds : last_label lab 0 lower ≡ t → InSomeTile (tiles a (b ∷ bs)) z
      cut_holds q =
          let m = mark_same t (last_label lab 0 lower) q in
          tube_holds r.weight z a b bs Z tube.tiled (let e = turning_is in
          omega (arith, ints, e, m))

    -- by its cell
    pub in_tube : (z : Vector) → Place z → IsOffEdges r z
        → InSomeTile (tiles a (b ∷ bs)) z ↔ (label_of lab r (sector r z) ≡ t)
    in_tube z Z off =
        let k = strip r z in
        let s = strip_is r run z Z in
        let d = law.divided k z Z off s in
        let u : (e : ℕ) → Has e d.lower
        → pos 0 <ℤ side (r.edge e) z =
        λ e m. each_has (λ e. pos 0 <ℤ side (r.edge e) z) d.lower e d.under m in
        let o : (e : ℕ) → Has e d.upper
        → side (r.edge e) z ≤ℤ pos 0 =
        λ e m. weak (each_has (λ e. side (r.edge e) z <ℤ pos 0) d.upper e d.over m) in
        let label : label_of lab r (sector r z)
        ≡ last_label lab 0 d.lower = floor_is r lab z k d.lower d.upper d.is u o in
        let clear = clear_of z Z (λ h m. off (edge_of h) (tube.faced.fits h m)) in (
          λ h. label ∙ cut_label k z Z s d.lower d.upper d.is u o clear h,
          λ e. cut_holds k z Z s d.lower d.upper d.is u o (sym label ∙ e),
        )
      where
        weak : {v : ℤ} → v <ℤ pos 0 → v ≤ℤ pos 0
        weak l = omega (arith, ints)

    -- ---- adjacent pairs
    -- just over an edge that faces the tube upward stands one that faces it downward
    pub pair_above : (k : ℕ) (xs : List ℕ) (e : ℕ) (ys : List ℕ) → k ≤ r.steps
        → r.list k ≡ xs ++ (e ∷ ys) → Has (over e) hs
        → (d : ℕ) × (zs : List ℕ) × (ys ≡ d ∷ zs) × Has (under d) hs
    pair_above k xs e ys fits cut m =
        let all = subst (λ (es : List ℕ). Match lab 0 es 0) cut
        (labelled r run law lab matched k fits) in
        let rest = match_back lab 0 0 xs (e ∷ ys) all in
        next ys (tube.faced.faces (over e) m) rest.1
        (λ d h. law.live k d fits
        (subst (λ (es : List ℕ). Has d es) (sym cut) (has_back d xs (e ∷ ys) (inr h))))
      where
        next : (ys : List ℕ) → lab.above e ≡ t → Match lab (lab.above e) ys 0
            → ((d : ℕ) → Has d ys → d < r.edges)
            → (d : ℕ) × (zs : List ℕ) × (ys ≡ d ∷ zs) × Has (under d) hs
        next [] q c f = absurd (tube.faced.some_label (sym q ∙ c))
        next (d ∷ zs) q c f =
            (d, zs, refl, tube.faced.only (under d) (f d (inl refl)) (sym c.0 ∙ q))

    -- just under an edge that faces the tube downward stands one that faces it upward
    pub pair_below : (k : ℕ) (xs : List ℕ) (e : ℕ) (ys : List ℕ) → k ≤ r.steps
        → r.list k ≡ xs ++ (e ∷ ys) → Has (under e) hs
        → (d : ℕ) × (zs : List ℕ) × (xs ≡ zs ++ (d ∷ [])) × Has (over d) hs
    pair_below k xs e ys fits cut m =
        let all = subst (λ (es : List ℕ). Match lab 0 es 0) cut
        (labelled r run law lab matched k fits) in
        let rest = match_back lab 0 0 xs (e ∷ ys) all in
        last 0 xs (λ q. tube.faced.some_label (sym q)) (rest.0 ∙ tube.faced.faces (under e) m)
        (λ d h. law.live k d fits
        (subst (λ (es : List ℕ). Has d es) (sym cut) (has_front d xs (e ∷ ys) h)))
      where
        last : (f : ℕ) (xs : List ℕ) → (f ≡ t → ⊥) → last_label lab f xs ≡ t
            → ((d : ℕ) → Has d xs → d < r.edges)
            → (d : ℕ) × (zs : List ℕ) × (xs ≡ zs ++ (d ∷ [])) × Has (over d) hs
        last f [] other q l = absurd (other q)
        last f (x ∷ []) other q l = (x, [], refl, tube.faced.only (over x) (l x (inl refl)) q)
        last f (x ∷ (y ∷ ys)) other q l =
            let i = last f (y ∷ ys) other q (λ d m. l d (inr m)) in
            (i.0, x ∷ i.1, ap (λ (es : List ℕ). x ∷ es) i.2, i.3)
