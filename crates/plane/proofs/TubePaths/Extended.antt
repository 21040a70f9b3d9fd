-- A segment that hits no curve keeps the label of its places.
use Rattle.std.proofs.Common.{◌≡◌, ℕ, zero, suc, ◌+◌, ◌-◌, ◌<◌, ◌≤◌, List, [], ◌∷◌, ◌++◌, length, ℤ}
use Rattle.std.proofs.Common.{pos, ◌+ℤ◌, ◌*ℤ◌, ◌-ℤ◌, ◌<ℤ◌, ◌≤ℤ◌, ◌⊎◌, inl, inr, refl, arith, ap}
use Rattle.std.proofs.Common.{sym, ◌∙◌, subst}
use Rattle.std.proofs.lemmas.Int.{ints, by_lt_z}
use Rattle.plane.specs.Lists.{Has}
use Rattle.plane.specs.Forms.Vectors.{Vector, Place, mix, side, sweep, On}
use Rattle.plane.specs.Faces.Replays.{Replay, IsOffEdges, reach}
use Rattle.plane.proofs.Runs.RunWords.{IsStrip}
use Rattle.plane.specs.Faces.Cells.{sector, strip}
use Rattle.plane.specs.Faces.Halves.{Half, twin, edge_of, IsMatched, mark}
use Rattle.plane.specs.Faces.Labels.{Labels, last_label}
use Rattle.plane.specs.Faces.Cells.{label_of}
use Rattle.plane.specs.Tubes.Windings.{tiles}
use Rattle.plane.specs.Tubes.Facing.{IsDrawnTube}
use Rattle.plane.specs.CurveRuns.Extended.{Tubes, InTubeAt, AtArcEnd, IsWall, AreTubes, HasLabel}
use Rattle.plane.specs.CurveRuns.Extended.{IsOnWay, IsFreeOfCurves}
use Rattle.plane.proofs.Algebra.Ring.{at, num, plus, minus, times, vars, ring}
use Rattle.plane.proofs.ListLemmas.Lists.{has_append}
use Rattle.plane.proofs.Linear.Vectors.{side-mix}
use Rattle.plane.proofs.Linear.Signs.{mix_place}
use Rattle.plane.proofs.Strips.OneStrip.{strip_is}
use Rattle.plane.proofs.Strips.OnSweepLine.{IsLevel}
use Rattle.plane.proofs.Strips.ToTheRight.{IsClosed, closed_strip, meet, meet_level, level_closed}
use Rattle.plane.proofs.Strips.ToTheRight.{level_strip}
use Rattle.plane.proofs.Windings.Under.{by_order}
use Rattle.plane.proofs.Windings.TubeCells.{in_tube}
use Rattle.plane.proofs.Windings.Whole.{IsWhole}
use Rattle.plane.proofs.Windings.Enters.{look_fitting, look_below}
use Rattle.plane.proofs.Windings.CommonPlaces.{decide_on, decide_number, common_place}
use Rattle.plane.proofs.Windings.Closures.{WeakOrder, AllRise, weak_order, weak_first, weak_rest}
use Rattle.plane.proofs.Windings.Closures.{IsClose, close_some}
use Rattle.plane.proofs.Windings.Limits.{close_in_tube, close_label, decide_in_some}
use Rattle.plane.proofs.Windings.Touching.{IsTouched, touched}
use Rattle.plane.proofs.TubePaths.Bounding.{wall_in}
use Rattle.plane.proofs.Windings.Ways.{way_mix, way_start, way_end, way_place, closed_mix}
use Rattle.plane.proofs.Windings.Ways.{close_mix, front_in, half_or_twin}

chain : (a b c : ℕ) → a ≡ b → b ≡ c → a ≡ c
chain a b c x y = x ∙ y

-- the place is strictly on the side of the circle that the label outside the half-edge's edge tells
abbrev pub IsAtWall : Labels → Tubes → ℕ → Half → Vector → Type 0
IsAtWall lab T c h z =
    ((mark lab (twin h) ≡ T.inner c) × (T.form c z <ℤ pos 0))
    ⊎ ((mark lab (twin h) ≡ T.outer c) × (pos 0 <ℤ T.form c z))

-- ---- what the walk needs of a segment
-- Edges on it are the tubes'; no place of it is in two tubes or on a circle in its tube; each place
-- of it on an edge of a tube is strictly
-- on the side of the circle that the edge's outer label tells; and in a tube it stays on its side.
pub record IsKeeping (r : Replay) (lab : Labels) (T : Tubes) (p q : Vector) : Type 0 where
  pub tube : (c : ℕ) → c < T.count
      → IsDrawnTube r lab (T.label c) (T.first c) (T.bay c) (T.bays c) (T.halves c)
  pub straights : (z : Vector) → IsOnWay p q z → (e : ℕ) → e < r.edges → On r.weight (r.edge e) z
      → (c : ℕ) × (c < T.count) × (h : Half) × Has h (T.halves c) × (edge_of h ≡ e)
  pub one : (c d : ℕ) (z : Vector) → c < T.count → d < T.count → IsOnWay p q z → InTubeAt T c z
      → InTubeAt T d z → c ≡ d
  pub walls : (c : ℕ) (z : Vector) (h : Half) → c < T.count → IsOnWay p q z → Has h (T.halves c)
      → On r.weight (r.edge (edge_of h)) z → IsAtWall lab T c h z
  pub circle : (c : ℕ) (z : Vector) → c < T.count → IsOnWay p q z → InTubeAt T c z
      → T.form c z ≡ pos 0 → ⊥
  pub kept : (c : ℕ) (u v : Vector) → c < T.count → IsOnWay p q u → IsOnWay p q v
      → ((s t : ℤ) → pos 0 ≤ℤ s → pos 0 ≤ℤ t → pos 0 <ℤ (s +ℤ t) → InTubeAt T c (mix s u t v))
      → T.form c u <ℤ pos 0 → pos 0 <ℤ T.form c v → ⊥

-- ---- the walk
module _ (r : Replay) (whole : IsWhole r) (lab : Labels) (matched : IsMatched r lab) (T : Tubes)
    (p q : Vector) (P : Place p) (Q : Place q) (keeps : IsKeeping r lab T p q) where
  -- each place of the segment has a label
  pub place_label : (z : Vector) → IsOnWay p q z → (l : ℕ) × HasLabel r lab T z l
  place_label z w =
      elim (look_fitting (λ c. InTubeAt T c z) T.count
      (λ c l. decide_in_some r.weight z (tiles (T.first c) (T.bay c ∷ T.bays c)) Z
      (keeps.tube c l).tiled)) [
        | inl h ↦ by_lt_z (T.form h.0 z) (pos 0)
            (λ (k : T.form h.0 z <ℤ pos 0). (T.inner h.0, inl (h.0, h.1, h.2, inl (k, refl))))
            (λ (k : pos 0 ≤ℤ T.form h.0 z). by_lt_z (pos 0) (T.form h.0 z)
            (λ (j : pos 0 <ℤ T.form h.0 z). (T.outer h.0, inl (h.0, h.1, h.2, inr (j, refl))))
            (λ (j : T.form h.0 z ≤ℤ pos 0). absurd
            (keeps.circle h.0 z h.1 w h.2 (omega (arith, ints, k, j)))))
        | inr n ↦ (label_of lab r (sector r z), inr ((λ c l h. n (c, l, h)), off n, refl))
      ]
    where
      Z : Place z
      Z = way_place p q z P Q w

      off : ((c : ℕ) × (c < T.count) × InTubeAt T c z → ⊥) → IsOffEdges r z
      off n e l on =
          let s = keeps.straights z w e l on in
          let on2 : On r.weight (r.edge (edge_of s.2)) z = subst
          (λ (d : ℕ). On r.weight (r.edge d) z) (sym s.4) on in
          let up = whole.run.rise (edge_of s.2) (subst (λ (d : ℕ). d < r.edges) (sym s.4) l) in
          n (
            s.0,
            s.1,
            wall_in r lab (T.label s.0) (T.first s.0) (T.bay s.0) (T.bays s.0)
                (T.halves s.0) (keeps.tube s.0 s.1) s.2 s.3 z Z up on2,
          )

  -- ---- two places in the closure of one cell
  module _ (k : ℕ) (lower upper : List ℕ) where
    -- where the cell's label is no tube's, it is the place's label
    plain_label : (z : Vector) (l : ℕ) → IsOnWay p q z → IsClose r k lower upper z
        → ((c : ℕ) → c < T.count → T.label c ≡ last_label lab 0 lower → ⊥) → HasLabel r lab T z l
        → l ≡ last_label lab 0 lower
    plain_label z l w close other (inr h) =
        h.2 ∙ close_label r whole lab matched k lower upper z (way_place p q z P Q w) h.1 close
    plain_label z l w close other (inl h) =
        elim (look_below (λ f. On r.weight (r.edge f) z) r.edges
        (λ f. decide_on r.weight (r.edge f) z)) [
          | inl f ↦ on_edge
              (touched r whole lab matched k lower upper z (way_place p q z P Q w) close f.0 f.1 f.2)
          | inr n ↦
              let off : IsOffEdges r z = λ e m o. n (e, m, o) in
              let a = (in_tube r whole.run whole.law whole.once lab matched (T.label h.0) (T.first h.0)
              (T.bay h.0) (T.bays h.0) (T.halves h.0) (keeps.tube h.0 h.1) z Z off).0 h.2 in
              absurd (other h.0 h.1 (sym a
              ∙ close_label r whole lab matched k lower upper z Z off close))
        ]
      where
        Z : Place z
        Z = way_place p q z P Q w

        at_wall : (g : Half) → mark lab (twin g) ≡ last_label lab 0 lower → IsAtWall lab T h.0 g z
            → l ≡ last_label lab 0 lower
        at_wall g e (inl v) =
            elim h.3 [
              | inl x ↦ x.1 ∙ sym v.0 ∙ e
              | inr x ↦ (let y = x.0 in let low = v.1 in absurd (omega (arith, ints, y, low)))
            ]
        at_wall g e (inr v) =
            elim h.3 [
              | inl x ↦ (let y = x.0 in let high = v.1 in
                  absurd (omega (arith, ints, y, high)))
              | inr x ↦ x.1 ∙ sym v.0 ∙ e
            ]

        on_edge : IsTouched r whole lab matched z (last_label lab 0 lower)
            → l ≡ last_label lab 0 lower
        on_edge t =
            let s = keeps.straights z w (edge_of t.half) t.fits t.on in
            let on2 : On r.weight (r.edge (edge_of s.2)) z = subst
            (λ (d : ℕ). On r.weight (r.edge d) z) (sym s.4) t.on in
            let up = whole.run.rise (edge_of s.2)
            (subst (λ (d : ℕ). d < r.edges) (sym s.4) t.fits) in
            let i = wall_in r lab (T.label s.0) (T.first s.0) (T.bay s.0) (T.bays s.0)
            (T.halves s.0) (keeps.tube s.0 s.1) s.2 s.3 z Z up on2 in
            let c = keeps.one s.0 h.0 z s.1 h.1 w i h.2 in
            let m = subst (λ (d : ℕ). Has s.2 (T.halves d)) c s.3 in
            elim (half_or_twin s.2 t.half s.4) [
              | inl e ↦ absurd
                  (other h.0 h.1 (sym ((keeps.tube h.0 h.1).faced.faces s.2 m)
                  ∙ sym (ap (mark lab) e) ∙ t.labelled))
              | inr e ↦ at_wall s.2 (sym (ap (mark lab) e) ∙ t.labelled)
                  (keeps.walls h.0 z s.2 h.1 w m on2)
            ]

    -- in a tube the place's side tells its label
    tube_side : (c : ℕ) (z : Vector) (l : ℕ) → c < T.count → IsOnWay p q z → InTubeAt T c z
        → HasLabel r lab T z l
        → ((T.form c z <ℤ pos 0) × (l ≡ T.inner c)) ⊎ ((pos 0 <ℤ T.form c z) × (l ≡ T.outer c))
    tube_side c z l lc w i (inl h) =
        subst (λ (d : ℕ). ((T.form d z <ℤ pos 0) × (l ≡ T.inner d))
        ⊎ ((pos 0 <ℤ T.form d z) × (l ≡ T.outer d))) (keeps.one h.0 c z h.1 lc w h.2 i) h.3
    tube_side c z l lc w i (inr h) = absurd (h.0 c lc i)

    same_close : (u v : Vector) (l m : ℕ) → IsOnWay p q u → IsOnWay p q v
        → IsClose r k lower upper u → IsClose r k lower upper v → HasLabel r lab T u l
        → HasLabel r lab T v m → l ≡ m
    same_close u v l m wu wv cu cv hu hv =
        elim (look_below (λ c. T.label c ≡ last_label lab 0 lower) T.count
        (λ c. decide_number (T.label c) (last_label lab 0 lower))) [
          | inr n ↦ plain_label u l wu cu (λ c lc e. n (c, lc, e)) hu
              ∙ sym (plain_label v m wv cv (λ c lc e. n (c, lc, e)) hv)
          | inl c ↦ sides c.0 c.1 c.2 (tube_side c.0 u l c.1 wu (inside c.0 c.1 c.2 u U cu) hu)
              (tube_side c.0 v m c.1 wv (inside c.0 c.1 c.2 v V cv) hv)
        ]
      where
        U : Place u
        U = way_place p q u P Q wu

        V : Place v
        V = way_place p q v P Q wv

        inside : (c : ℕ) → c < T.count → T.label c ≡ last_label lab 0 lower → (z : Vector) → Place z
            → IsClose r k lower upper z → InTubeAt T c z
        inside c lc e z Z close =
            close_in_tube r whole lab matched (T.label c) (T.first c) (T.bay c) (T.bays c)
            (T.halves c) (keeps.tube c lc) k lower upper z Z close (sym e)

        sides : (c : ℕ) → c < T.count → T.label c ≡ last_label lab 0 lower
            → ((T.form c u <ℤ pos 0) × (l ≡ T.inner c)) ⊎ ((pos 0 <ℤ T.form c u) × (l ≡ T.outer c))
            → ((T.form c v <ℤ pos 0) × (m ≡ T.inner c)) ⊎ ((pos 0 <ℤ T.form c v) × (m ≡ T.outer c))
            → l ≡ m
        sides c lc e (inl a) (inl b) = a.1 ∙ sym b.1
        sides c lc e (inr a) (inr b) = a.1 ∙ sym b.1
        sides c lc e (inl a) (inr b) = absurd (keeps.kept c u v lc wu wv
            (λ s t hs ht some. inside c lc e (mix s u t v) (mix_place s u t v U V hs ht some)
            (close_mix r k lower upper u v s t hs ht cu cv))
            a.0 b.0)
        sides c lc e (inr a) (inl b) = absurd (keeps.kept c v u lc wv wu
            (λ s t hs ht some. inside c lc e (mix s v t u) (mix_place s v t u V U hs ht some)
            (close_mix r k lower upper v u s t hs ht cv cu))
            b.0 a.0)

  -- ---- within one closed strip, from cell to cell
  climb : (k : ℕ) (upper lower : List ℕ) (u v : Vector) (l m : ℕ) → IsOnWay p q u → IsOnWay p q v
      → IsClose r k lower upper u → IsClosed r k v
      → ((e : ℕ) → Has e lower → pos 0 ≤ℤ side (r.edge e) v)
      → HasLabel r lab T u l → HasLabel r lab T v m → l ≡ m
  climb k [] lower u v l m wu wv cu cv low hu hv =
      same_close k lower [] u v l m wu wv cu (record {
        fits = cu.fits;
        closed = cv;
        is = cu.is;
        beneath = low;
        over = λ e i. absurd i;
      }) hu hv
  climb k (e ∷ upper) lower u v l m wu wv cu cv low hu hv =
      by_lt_z (pos 0) (side (r.edge e) v)
      (cross (λ z n w c f h. climb k upper (lower ++ (e ∷ [])) z v n m w wv c cv f h hv)) stay
    where
      U : Place u
      U = way_place p q u P Q wu

      V : Place v
      V = way_place p q v P Q wv

      rises : AllRise r v (lower ++ (e ∷ upper))
      rises d i = whole.run.rise d
          (whole.law.live k d cu.fits (subst (λ (es : List ℕ). Has d es) (sym cu.is) i))

      order_at : (z : Vector) → Place z → IsClosed r k z → WeakOrder r z (lower ++ (e ∷ upper))
      order_at z Z c =
          subst (λ (es : List ℕ). WeakOrder r z es) cu.is
          (weak_order r whole.run whole.law k z cu.fits Z c)

      over_all : (z : Vector) → Place z → IsClosed r k z → side (r.edge e) z ≤ℤ pos 0 → (d : ℕ)
          → Has d (e ∷ upper) → side (r.edge d) z ≤ℤ pos 0
      over_all z Z c h d (inl i) = subst (λ (x : ℕ). side (r.edge x) z ≤ℤ pos 0) (sym i) h
      over_all z Z c h d (inr i) = weak_rest r z lower e upper rises (order_at z Z c) h d i

      stay : side (r.edge e) v ≤ℤ pos 0 → l ≡ m
      stay h = same_close k lower (e ∷ upper) u v l m wu wv cu (record {
        fits = cu.fits;
        closed = cv;
        is = cu.is;
        beneath = low;
        over = over_all v V cv h;
      }) hu hv

      regroup_list : (xs ys : List ℕ) → xs ++ (e ∷ ys) ≡ (xs ++ (e ∷ [])) ++ ys
      regroup_list [] ys = refl
      regroup_list (x ∷ xs) ys = ap (λ (es : List ℕ). x ∷ es) (regroup_list xs ys)

      with_last : (z : Vector) → ((d : ℕ) → Has d lower → pos 0 ≤ℤ side (r.edge d) z)
          → pos 0 ≤ℤ side (r.edge e) z → (d : ℕ) → Has d (lower ++ (e ∷ []))
          → pos 0 ≤ℤ side (r.edge d) z
      with_last z f h d i = elim (has_append d lower (e ∷ []) i) [
        | inl j ↦ f d j
        | inr j ↦ elim j [
          | inl x ↦ subst (λ (y : ℕ). pos 0 ≤ℤ side (r.edge y) z) (sym x) h
          | inr x ↦ absurd x
        ]
      ]

      balance : (x y : ℤ) → (y *ℤ x) +ℤ ((pos 0 -ℤ x) *ℤ y) ≡ pos 0
      balance x y =
          ring (plus (times (at 1) (at 0)) (times (minus (num (pos 0)) (at 0)) (at 1)))
          (num (pos 0)) (vars (x ∷ y ∷ [])) refl

      cross : ((z : Vector) (n : ℕ) → IsOnWay p q z → IsClose r k (lower ++ (e ∷ [])) upper z
          → ((d : ℕ) → Has d (lower ++ (e ∷ [])) → pos 0 ≤ℤ side (r.edge d) v)
          → HasLabel r lab T z n → n ≡ m)
          → pos 0 <ℤ side (r.edge e) v → l ≡ m
      cross again h =
          let x = side (r.edge e) u in
          let y = side (r.edge e) v in
          let xl = cu.over e (inl refl) in
          let s_least : pos 0 ≤ℤ y = omega (arith, ints, h) in
          let t_least : pos 0 ≤ℤ (pos 0 -ℤ x) = omega (arith, ints, xl) in
          let some : pos 0 <ℤ (y +ℤ (pos 0 -ℤ x)) = omega (arith, ints, xl, h) in
          let z = mix y u (pos 0 -ℤ x) v in
          let w = way_mix p q u v y (pos 0 -ℤ x) s_least t_least some wu wv in
          let Z = way_place p q z P Q w in
          let c = closed_mix r k u v y (pos 0 -ℤ x) s_least t_least cu.closed cv in
          let zero_side : side (r.edge e) z ≡ pos 0 = side-mix (r.edge e) y u (pos 0 -ℤ x) v
          ∙ balance x y in
          let f = (weak_first r z lower e upper rises (order_at z Z c)
          (omega (arith, ints, zero_side))).1 in
          let g = over_all z Z c (omega (arith, ints, zero_side)) in
          let n = place_label z w in
          let one : l ≡ n.0 = same_close k lower (e ∷ upper) u z l n.0 wu w cu
          (record { fits = cu.fits; closed = c; is = cu.is; beneath = f; over = g }) hu n.1 in
          let two : n.0 ≡ m = again z n.0 w
          (record {
            fits = cu.fits;
            closed = c;
            is = cu.is ∙ regroup_list lower upper;
            beneath = with_last z f (omega (arith, ints, zero_side));
            over = λ d i. g d (inr i);
          })
          (with_last v low (omega (arith, ints, h))) n.1 in
          chain l n.0 m one two

  strip_keeps : (k : ℕ) (u v : Vector) (l m : ℕ) → k ≤ r.steps → IsOnWay p q u → IsOnWay p q v
      → IsClosed r k u → IsClosed r k v → HasLabel r lab T u l → HasLabel r lab T v m → l ≡ m
  strip_keeps k u v l m fits wu wv cu cv hu hv =
      let a = close_some r whole.run whole.law k u fits (way_place p q u P Q wu) cu in
      let b = close_some r whole.run whole.law k v fits (way_place p q v P Q wv) cv in
      let ab = sym a.2.is ∙ b.2.is in
      by_order (length a.0) (length b.0)
      (λ (h : length a.0 < length b.0). climb k a.1 a.0 u v l m wu wv a.2 cv
      (λ e i. b.2.beneath e (front_in a.0 a.1 b.0 b.1 ab (omega arith) e i)) hu hv)
      (λ (h : length b.0 ≤ length a.0). sym
      (climb k b.1 b.0 v u m l wv wu b.2 cu
      (λ e i. a.2.beneath e (front_in b.0 b.1 a.0 a.1 (sym ab) h e i)) hv hu))

  -- ---- from strip to strip
  keeps_right : (d k n : ℕ) (u v : Vector) (l m : ℕ) → n ≡ k + d → IsOnWay p q u → IsOnWay p q v
      → IsStrip r k u → IsStrip r n v → HasLabel r lab T u l → HasLabel r lab T v m → l ≡ m
  keeps_right zero k n u v l m e wu wv a b hu hv =
      let f : n ≡ k = omega arith in
      strip_keeps k u v l m a.fits wu wv (closed_strip r k u a)
      (closed_strip r k v (subst (λ (j : ℕ). IsStrip r j v) f b)) hu hv
  keeps_right (suc d) k n u v l m e wu wv a b hu hv =
      let w = r.weight in
      let c = reach r k in
      let h : k < r.steps = (let x = b.fits in omega arith) in
      let ahead = a.to k (omega arith) h in
      let behind = b.from k (omega arith) in
      let s = sweep w v -ℤ (c *ℤ v.n) in
      let t = (c *ℤ u.n) -ℤ sweep w u in
      let hs : pos 0 ≤ℤ s = omega (arith, ints) in
      let ht : pos 0 ≤ℤ t = omega (arith, ints) in
      let some : pos 0 <ℤ (s +ℤ t) = omega (arith, ints) in
      let o = meet w c u v in
      let wo = way_mix p q u v s t hs ht some wu wv in
      let O = way_place p q o P Q wo in
      let level : IsLevel r k o = meet_level w c u v in
      let i = place_label o wo in
      let one : l ≡ i.0 = strip_keeps k u o l i.0 a.fits wu wo (closed_strip r k u a)
      (level_closed r whole.run k o O h level) hu i.1 in
      let two : i.0 ≡ m = keeps_right d (suc k) n o v i.0 m (omega arith) wo wv
      (level_strip r whole.run k o O h level) b i.1 hv in
      chain l i.0 m one two

  pub label_along : (l m : ℕ) → HasLabel r lab T p l → HasLabel r lab T q m → l ≡ m
  label_along l m hp hq =
      let a = strip_is r whole.run p P in
      let b = strip_is r whole.run q Q in
      by_order (strip r p) (strip r q)
      (λ (h : strip r p < strip r q). keeps_right (strip r q - strip r p) (strip r p)
      (strip r q) p q l m (omega arith) (way_start p q) (way_end p q) a b hp hq)
      (λ (h : strip r q ≤ strip r p). sym
      (keeps_right (strip r p - strip r q) (strip r q) (strip r p) q p m l (omega arith)
      (way_end p q) (way_start p q) b a hq hp))

-- ---- a segment that hits no curve
module _ (r : Replay) (whole : IsWhole r) (lab : Labels) (matched : IsMatched r lab) (T : Tubes)
    (Meets : ℕ → Vector → Vector → Type 0) (tubes : AreTubes r lab T Meets)
    (p q : Vector) (P : Place p) (Q : Place q) (free : IsFreeOfCurves r T Meets p q) where
  not_end : (c : ℕ) (z : Vector) → c < T.count → IsOnWay p q z → AtArcEnd T c z → ⊥
  not_end c z l w h = free.arcs c l z z w w (tubes.ends c l z (way_place p q z P Q w) h)

  one_tube : (c d : ℕ) (z : Vector) → c < T.count → d < T.count → IsOnWay p q z → InTubeAt T c z
      → InTubeAt T d z → c ≡ d
  one_tube c d z lc ld w hc hd = elim (decide_number c d) [
    | inl e ↦ e
    | inr n ↦ absurd
        (not_end c z lc w
        (common_place r whole lab matched (T.label c) (T.first c) (T.bay c) (T.bays c) (T.halves c)
        (T.label d) (T.first d) (T.bay d) (T.bays d) (T.halves d)
        (tubes.tube c lc) (tubes.tube d ld) (tubes.labels c d lc ld n) (tubes.apart c d lc ld n)
        (tubes.clean c lc) z (way_place p q z P Q w) hc hd))
  ]

  wall_side : (c : ℕ) (z : Vector) (h : Half) → c < T.count → IsOnWay p q z → IsWall r lab T c h
      → On r.weight (r.edge (edge_of h)) z → IsAtWall lab T c h z
  wall_side c z h l w (inl v) on =
      elim (v.1 z (way_place p q z P Q w) on) [
        | inl low ↦ inl (v.0, low)
        | inr end ↦ absurd (not_end c z l w end)
      ]
  wall_side c z h l w (inr v) on =
      elim (v.1 z (way_place p q z P Q w) on) [
        | inl high ↦ inr (v.0, high)
        | inr end ↦ absurd (not_end c z l w end)
      ]

  keeps : IsKeeping r lab T p q
  keeps = record {
    tube = tubes.tube;
    straights = free.straights;
    one = one_tube;
    walls = λ c z h l w m on. wall_side c z h l w (tubes.walls c l h m) on;
    circle = λ c z l w i e. free.arcs c l z z w w (tubes.circle c l z (way_place p q z P Q w) i e);
    kept = λ c u v l wu wv i a b. tubes.kept c l u v (way_place p q u P Q wu)
        (way_place p q v P Q wv) i (free.arcs c l u v wu wv) (free.arcs c l v u wv wu) a b;
  }

  -- each place of the segment has a label
  pub has_label : (z : Vector) → IsOnWay p q z → (l : ℕ) × HasLabel r lab T z l
  has_label z w = place_label r whole lab matched T p q P Q keeps z w

  -- the whole segment
  pub label_kept : (l m : ℕ) → HasLabel r lab T p l → HasLabel r lab T q m → l ≡ m
  label_kept l m hp hq = label_along r whole lab matched T p q P Q keeps l m hp hq
