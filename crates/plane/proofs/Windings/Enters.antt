-- No place of another edge is in a tube, and an event in a tube is a corner of it.
use Rattle.std.proofs.Common.{◌≡◌, ℕ, zero, suc, ◌<◌, ◌≤◌, List, [], ◌∷◌, ◌++◌, ℤ, pos, ◌*ℤ◌, ◌<ℤ◌}
use Rattle.std.proofs.Common.{◌≤ℤ◌, ◌⊎◌, inl, inr, refl, arith, ap, sym, ◌∙◌, subst}
use Rattle.std.proofs.lemmas.Int.{ints, by_lt_z}
use Rattle.plane.specs.declared.kinds.Point.{Point}
use Rattle.plane.specs.Lists.{Has}
use Rattle.plane.specs.Forms.Vectors.{Vector, Place, Same, point, Edge, side, sweep, rise, lift, On}
use Rattle.plane.specs.Forms.Meets.{IsEnd}
use Rattle.plane.specs.Faces.Replays.{Replay, reach}
use Rattle.plane.proofs.Runs.RunWords.{IsStrip}
use Rattle.plane.specs.Faces.Cells.{strip}
use Rattle.plane.specs.Faces.Halves.{Half, under, edge_of, IsMatched}
use Rattle.plane.specs.Faces.Labels.{Labels, Match, last_label}
use Rattle.plane.specs.Tubes.Windings.{Bay, tiles, InSomeTile}
use Rattle.plane.specs.Tubes.Facing.{IsDrawnTube, IsTubeCorner}
use Rattle.plane.proofs.ListLemmas.Lists.{has_back, has_append, has_three}
use Rattle.plane.proofs.Linear.Vectors.{rise-is, side-low, side-high}
use Rattle.plane.proofs.Linear.Signs.{by_sign}
use Rattle.plane.proofs.Runs.Order.{higher_side, lower_side}
use Rattle.plane.proofs.Runs.Places.{one_through}
use Rattle.plane.proofs.Strips.OneStrip.{by_last, strip_is}
use Rattle.plane.proofs.LabelLemmas.HalfLabels.{labelled}
use Rattle.plane.proofs.LabelLemmas.Matches.{match_back}
use Rattle.plane.proofs.Windings.Under.{by_order, lead_not_after, lead_after, spans_live}
use Rattle.plane.proofs.Windings.TubeCells.{clear_of, cut_label}
use Rattle.plane.proofs.Windings.Whole.{cut_edge, IsWhole}
use Rattle.plane.proofs.Runs.Meeting.{same_place}

-- a place of an edge on the sweep line of its high end is that end
pub high_same : (w : ℤ) (e : Edge) (z : Vector) → pos 0 <ℤ rise w e → Place z → side e z ≡ pos 0
    → sweep w z ≡ sweep w (point e.high) *ℤ z.n → Same z (point e.high)
high_same w e z up Z line level =
    let q = side-high e in
    by_sign (lift z (point e.high))
    (λ (l : lift z (point e.high) <ℤ pos 0). let x = lower_side w e z e.high level Z up l
    (omega (arith, ints, q)) in absurd (omega (arith, ints, x, line)))
    (λ l. same_place w z e.high level l)
    (λ (l : pos 0 <ℤ lift z (point e.high)). let x = higher_side w e z e.high level Z up l
    (omega (arith, ints, q)) in absurd (omega (arith, ints, x, line)))

-- ---- equal points and equal places are decided
abbrev pub Decided : Type 0 → Type 0
Decided P = P ⊎ (P → ⊥)

pub decide_z : (a b : ℤ) → Decided (a ≡ b)
decide_z a b = by_lt_z a b (λ (l : a <ℤ b). inr (λ e. omega (arith, ints, l, e)))
    (λ (l : b ≤ℤ a). by_lt_z b a (λ (k : b <ℤ a). inr (λ e. omega (arith, ints, k, e)))
    (λ (k : a ≤ℤ b). inl (omega (arith, ints, l, k))))

pub decide_point : (p q : Point) → Decided (p ≡ q)
decide_point p q = elim (decide_z p.x q.x) [
  | inr n ↦ inr (λ e. n (ap (λ (u : Point). u.x) e))
  | inl x ↦ elim (decide_z p.y q.y) [
    | inr n ↦ inr (λ e. n (ap (λ (u : Point). u.y) e))
    | inl y ↦ inl (λ i. record { x = x i; y = y i })
  ]
]

pub decide_same : (p q : Vector) → Decided (Same p q)
decide_same p q = elim (decide_z (p.x *ℤ q.n) (q.x *ℤ p.n)) [
  | inr n ↦ inr (λ e. n e.x)
  | inl x ↦ elim (decide_z (p.y *ℤ q.n) (q.y *ℤ p.n)) [
    | inr n ↦ inr (λ e. n e.y)
    | inl y ↦ inl (record { x = x; y = y })
  ]
]

pub decide_either : (P Q : Type 0) → Decided P → Decided Q → Decided (P ⊎ Q)
decide_either P Q (inl p) d = inl (inl p)
decide_either P Q (inr n) (inl q) = inl (inr q)
decide_either P Q (inr n) (inr m) = inr (λ h. elim h [ inl p ↦ n p | inr q ↦ m q ])

not_later : (X : Type 0) (P : X → Type 0) (x : X) (xs : List X) → (P x → ⊥)
    → ((y : X) × Has y xs × P y → ⊥) → (y : X) → Has y (x ∷ xs) → P y → ⊥
not_later X P x xs n m y (inl e) p = n (subst P e p)
not_later X P x xs n m y (inr h) p = m (y, h, p)

pub look : (X : Type 0) (P : X → Type 0) (xs : List X) → ((x : X) → Decided (P x))
    → Decided ((x : X) × Has x xs × P x)
look X P [] d = inr (λ h. h.1)
look X P (x ∷ xs) d = elim (d x) [
  | inl p ↦ inl (x, inl refl, p)
  | inr n ↦ elim (look X P xs d) [
    | inl h ↦ inl (h.0, inr h.1, h.2)
    | inr m ↦ inr (λ h. not_later X P x xs n m h.0 h.1 h.2)
  ]
]

pub look_fitting : (P : ℕ → Type 0) (n : ℕ) → ((k : ℕ) → k < n → Decided (P k))
    → Decided ((k : ℕ) × (k < n) × P k)
look_fitting P zero d = inr (λ h. let l = h.1 in omega (arith, l))
look_fitting P (suc n) d = elim (d n (omega arith)) [
  | inl p ↦ inl (n, omega arith, p)
  | inr m ↦ elim (look_fitting P n (λ k l. d k (omega arith))) [
    | inl h ↦ let l = h.1 in inl (h.0, omega (arith, l), h.2)
    | inr o ↦ inr
        (λ h. by_last h.0 n h.1 (λ (l : h.0 < n). o (h.0, l, h.2))
        (λ (e : h.0 ≡ n). m (subst P e h.2)))
  ]
]

pub look_below : (P : ℕ → Type 0) (n : ℕ) → ((k : ℕ) → Decided (P k))
    → Decided ((k : ℕ) × (k < n) × P k)
look_below P n d = look_fitting P n (λ k l. d k)

module _ (r : Replay) (whole : IsWhole r) (lab : Labels) (matched : IsMatched r lab) where
  -- the place is no event
  abbrev pub IsPlain : Vector → Type 0
  IsPlain z = (j : ℕ) → j < r.steps → Same z (point (r.step j).at) → ⊥

  -- an edge through a place that is no event is live there
  pub live_on : (f : ℕ) (z : Vector) → f < r.edges → Place z → IsPlain z → On r.weight (r.edge f) z
      → Has f (r.list (strip r z))
  live_on f z l Z plain on =
      let up = whole.run.rise f l in
      let high = on.high in
      spans_live r whole.run whole.law whole.once (strip r z) f z (strip_is r whole.run z Z) l
      (lead_not_after r.weight (r.edge f).low z on.low)
      (lead_after r.weight (r.edge f).high z
      (by_lt_z (sweep r.weight z) (sweep r.weight (point (r.edge f).high) *ℤ z.n) (λ h. h)
      (λ (h : (sweep r.weight (point (r.edge f).high) *ℤ z.n) ≤ℤ sweep r.weight z).
      let j = whole.run.ends f l in
      let s = high_same r.weight (r.edge f) z up Z on.line (omega (arith, ints, h, high)) in
      absurd (plain j.0 j.1 (subst (λ (p : Point). Same z (point p)) (sym j.2) s)))))

  -- ---- events
  pub event_strip : (k : ℕ) → k < r.steps → IsStrip r (suc k) (point (r.step k).at)
  event_strip k l = record {
    fits = omega arith;
    from = λ (j : ℕ) (h : j < suc k). by_last j k h
        (λ (i : j < k). let x = whole.run.rising j k i l in omega (arith, ints, x))
        (λ (i : j ≡ k). let x = ap (reach r) i in omega (arith, ints, x));
    to = λ (j : ℕ) (h : suc k ≤ j) (i : j < r.steps). let x =
        whole.run.rising k j (omega arith) i in omega (arith, ints, x);
  }

  -- steps in the order of their sweep values
  pub reach_order : (i j : ℕ) → i < r.steps → j < r.steps → reach r i <ℤ reach r j → i < j
  reach_order i j a b h = by_order i j (λ l. l) (λ (l : j ≤ i). absurd (by_order j i
      (λ (q : j < i). let x = whole.run.rising j i q a in omega (arith, ints, x, h))
      (λ (q : i ≤ j). let e : i ≡ j = omega arith in let x = ap (reach r) e in
      omega (arith, ints, x, h))))

  pub start_live : (k e : ℕ) → k < r.steps → e < r.edges → (r.edge e).low ≡ (r.step k).at
      → Has e (r.list (suc k))
  start_live k e l m q =
      let j = whole.run.ends e m in
      let up = whole.run.rise e m in
      let f = rise-is r.weight (r.edge e) in
      let x = ap (λ (p : Point). sweep r.weight (point p)) q in
      let y = ap (λ (p : Point). sweep r.weight (point p)) j.2 in
      whole.law.alive (suc k) e k j.0 m (omega arith) (sym q)
      (let o = reach_order k j.0 l j.1 (omega (arith, ints, up, f, x, y)) in
      omega (arith, o)) j.1 j.2

  pub end_live : (k e : ℕ) → k < r.steps → e < r.edges → (r.edge e).high ≡ (r.step k).at
      → Has e (r.list k)
  end_live k e l m q =
      let j = whole.run.begins e m in
      let up = whole.run.rise e m in
      let f = rise-is r.weight (r.edge e) in
      let x = ap (λ (p : Point). sweep r.weight (point p)) q in
      let y = ap (λ (p : Point). sweep r.weight (point p)) j.2 in
      whole.law.alive k e j.0 k m (reach_order j.0 k j.1 l (omega (arith, ints, up, f, x, y))) j.2
      (omega arith) l (sym q)

  pub starts : (k e : ℕ) → k < r.steps → e < r.edges → (r.edge e).low ≡ (r.step k).at
      → Has e (r.step k).starting
  starts k e l m q =
      let s = r.step k in
      let z : side (r.edge e) (point s.at)
      ≡ pos 0 = subst (λ (p : Point). side (r.edge e) (point p) ≡ pos 0) q
      (side-low (r.edge e)) in
      elim (has_three e s.below s.starting s.above
      (subst (λ (es : List ℕ). Has e es) (whole.run.after k l) (start_live k e l m q))) [
        | inl h ↦ let x = whole.law.under k l e h in absurd (omega (arith, ints, x, z))
        | inr h ↦ elim h [
          | inl i ↦ i
          | inr i ↦ let x = whole.law.over k l e i in
              absurd (omega (arith, ints, x, z))
        ]
      ]

  pub finishes : (k e : ℕ) → k < r.steps → e < r.edges → (r.edge e).high ≡ (r.step k).at
      → Has e (r.step k).ending
  finishes k e l m q =
      let s = r.step k in
      let z : side (r.edge e) (point s.at)
      ≡ pos 0 = subst (λ (p : Point). side (r.edge e) (point p) ≡ pos 0) q
      (side-high (r.edge e)) in
      elim (has_three e s.below s.ending s.above
      (subst (λ (es : List ℕ). Has e es) (whole.run.before k l) (end_live k e l m q))) [
        | inl h ↦ let x = whole.law.under k l e h in absurd (omega (arith, ints, x, z))
        | inr h ↦ elim h [
          | inl i ↦ i
          | inr i ↦ let x = whole.law.over k l e i in
              absurd (omega (arith, ints, x, z))
        ]
      ]

  module _ (t : ℕ) (a : Point) (b : Bay) (bs : List Bay) (hs : List Half)
      (tube : IsDrawnTube r lab t a b bs hs) where
    -- a place of an edge that is none of the tube's, other than an event, is not in the tube
    pub edge_outside : (f : ℕ) (z : Vector) → f < r.edges
        → ((h : Half) → Has h hs → edge_of h ≡ f → ⊥) → Place z → IsPlain z
        → On r.weight (r.edge f) z → InSomeTile (tiles a (b ∷ bs)) z → ⊥
    edge_outside f z l other Z plain on inside =
        let k = strip r z in
        let s = strip_is r whole.run z Z in
        let order = whole.crossed k z Z s plain in
        let live = live_on f z l Z plain on in
        let c = cut_edge r.edge z f (r.list k) order live on.line in
        let clear = clear_of r whole.run whole.law whole.once lab matched t a b bs hs tube z Z
        (λ h m o. other h m
        (one_through r.edge z (edge_of h) f (r.list k) order
        (live_on (edge_of h) z (tube.faced.fits h m) Z plain o) live o.line on.line)) in
        let q = cut_label r whole.run whole.law whole.once lab matched t a b bs hs tube k z Z s
        c.lower (f ∷ c.upper) c.is c.beneath (rest c.upper on.line c.over) clear inside in
        let all = subst (λ (es : List ℕ). Match lab 0 es 0) c.is
        (labelled r whole.run whole.law lab matched k s.fits) in
        let up = match_back lab 0 0 c.lower (f ∷ c.upper) all in
        other (under f) (tube.faced.only (under f) l (sym up.0 ∙ q)) refl
      where
        rest : (upper : List ℕ) → side (r.edge f) z ≡ pos 0
            → ((e : ℕ) → Has e upper → side (r.edge e) z <ℤ pos 0) → (e : ℕ) → Has e (f ∷ upper)
            → side (r.edge e) z ≤ℤ pos 0
        rest upper q g e (inl x) =
            subst (λ (d : ℕ). side (r.edge d) z ≤ℤ pos 0) (sym x) (omega (arith, ints, q))
        rest upper q g e (inr m) = let y = g e m in omega (arith, ints, y)

    -- the edge over the block faces the tube, if the label under the block is the tube's
    facing_first : (k : ℕ) (xs block above : List ℕ) (e : ℕ) → k ≤ r.steps
        → r.list k ≡ xs ++ (block ++ above) → last_label lab 0 xs ≡ t → Has e block
        → (x : ℕ) × Has x block × Has (under x) hs
    facing_first k xs [] above e fits cut q m = absurd m
    facing_first k xs (x ∷ block) above e fits cut q m =
        let all = subst (λ (es : List ℕ). Match lab 0 es 0) cut
        (labelled r whole.run whole.law lab matched k fits) in
        let up = match_back lab 0 0 xs ((x ∷ block) ++ above) all in
        let l = whole.law.live k x fits
        (subst (λ (es : List ℕ). Has x es) (sym cut)
        (has_back x xs ((x ∷ block) ++ above) (inl refl))) in
        (x, inl refl, tube.faced.only (under x) l (sym up.0 ∙ q))

    -- an event in the tube is a corner of it
    pub event_corner : (k : ℕ) → k < r.steps → InSomeTile (tiles a (b ∷ bs)) (point (r.step k).at)
        → IsTubeCorner r hs (r.step k).at
    event_corner k l inside =
        let v = (r.step k).at in
        elim (look Half (λ h. IsEnd (r.edge (edge_of h)) v) hs
        (λ h. decide_either _ _ (decide_point (r.edge (edge_of h)).low v)
        (decide_point (r.edge (edge_of h)).high v))) [
          | inl h ↦ h
          | inr none ↦ absurd (not_inside none)
        ]
      where
        sides_rest : (es : List ℕ)
            → ((e : ℕ) → Has e es → side (r.edge e) (point (r.step k).at) ≡ pos 0) → (e : ℕ)
            → Has e (es ++ (r.step k).above) → side (r.edge e) (point (r.step k).at) ≤ℤ pos 0
        sides_rest es f e m = elim (has_append e es (r.step k).above m) [
          | inl h ↦ let x = f e h in omega (arith, ints, x)
          | inr h ↦ let x = whole.law.over k l e h in omega (arith, ints, x)
        ]

        not_inside : (IsTubeCorner r hs (r.step k).at → ⊥) → ⊥
        not_inside none =
            let s = r.step k in
            let z = point s.at in
            let Z : Place z = omega (arith, ints) in
            let clear = clear_of r whole.run whole.law whole.once lab matched t a b bs hs tube z Z
            (λ h m o. none (h, m, whole.event_end k l (edge_of h) (tube.faced.fits h m) o)) in
            let rest = sides_rest s.starting
            (λ e m. subst (λ (p : Point). side (r.edge e) (point p) ≡ pos 0)
            (whole.run.starting k l e m) (side-low (r.edge e))) in
            let q = cut_label r whole.run whole.law whole.once lab matched t a b bs hs tube
            (suc k) z Z (event_strip k l) s.below (s.starting ++ s.above) (whole.run.after k l)
            (λ e m. whole.law.under k l e m) rest clear inside in
            let m = whole.run.met k l in
            elim m.2 [
              | inl low ↦
                  let f = facing_first (suc k) s.below s.starting s.above m.0 (omega arith)
                  (whole.run.after k l) q (starts k m.0 l m.1 low) in
                  none (under f.0, f.2, inl (whole.run.starting k l f.0 f.1))
              | inr high ↦
                  let f = facing_first k s.below s.ending s.above m.0 (omega arith)
                  (whole.run.before k l) q (finishes k m.0 l m.1 high) in
                  none (under f.0, f.2, inr (whole.run.ending k l f.0 f.1))
            ]
