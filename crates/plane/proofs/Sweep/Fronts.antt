-- A sweep that is under way: which edges are live, and their order between the last event and the
-- next.
-- At the next event the edges above it follow those through it, and these those below it.
use Rattle.std.proofs.Common.{◌≡◌, ℕ, ◌<◌, ℤ, pos, ◌*ℤ◌, ◌<ℤ◌, ◌≤ℤ◌, ◌⊎◌, inl, inr, List, [], ◌∷◌}
use Rattle.std.proofs.Common.{◌++◌, refl, arith, sym, ◌∙◌, subst}
use Rattle.std.proofs.lemmas.Int.{ints, by_lt_z}
use Rattle.plane.specs.declared.kinds.Point.{Point}
use Rattle.plane.specs.Forms.Vectors.{Vector, Place, point, Edge, side, sweep, rise, gap}
use Rattle.plane.specs.Lists.{Each, Neighbours, Has}
use Rattle.plane.specs.Runs.Steps.{Step, after, AtSome, live}
use Rattle.plane.specs.Runs.Sweeps.{trail, Lies, FinePair, Front}
use Rattle.plane.proofs.Sweep.SweepWords.{RisingPoints, Ready, FallsUp}
use Rattle.plane.proofs.ListLemmas.Lists.{each_has, neighbours_map, neighbours_both}
use Rattle.plane.proofs.ListLemmas.Lists.{neighbours_back, up_from_first}
use Rattle.plane.proofs.Linear.Signs.{over_lower}
use Rattle.plane.proofs.Runs.LiveEdges.{live_started, side_through_high}
use Rattle.plane.proofs.Runs.Moments.{scaled}
use Rattle.plane.proofs.Sweep.Pairs.{Spans, EndTogether, order_kept}

-- ---- the points that were passed and those that are to come
pub cut_points : (w : ℤ) (done : List Step) (coming : List Point)
    → RisingPoints w (trail done coming)
    → RisingPoints w coming × ((s : Step) (p : Point) → Has s done → Has p coming
    → sweep w (point s.at) <ℤ sweep w (point p))
cut_points w [] coming h = (h, λ s p k l. absurd k)
cut_points w (s ∷ done) coming h =
    let r = cut_points w done (s.at ∷ coming) h in (
      r.0.1,
      λ u p k l. elim k [
        | inl e ↦ subst (λ (v : Step). sweep w (point v.at) <ℤ sweep w (point p)) (sym e)
            (each_has (λ q. sweep w (point s.at) <ℤ sweep w (point q)) coming p r.0.0 l)
        | inr i ↦ r.1 u p i (inr l)
      ],
    )

pub passed_or_coming : (p : Point) (done : List Step) (coming : List Point)
    → Has p (trail done coming) → AtSome p done ⊎ Has p coming
passed_or_coming p [] coming k = inr k
passed_or_coming p (s ∷ done) coming k = elim (passed_or_coming p done (s.at ∷ coming) k) [
  | inl (t, i, q) ↦ inl (t, inr i, q)
  | inr i ↦ elim i [ inl e ↦ inl (s, inl refl, e) | inr j ↦ inr j ]
]

-- what is known of a sweep that is under way, without its lists
pub record Cut (w : ℤ) (m : ℕ) (E : ℕ → Edge) (done : List Step)
    (coming : List Point) : Type 0 where
  pub rising : RisingPoints w coming
  pub cut : (s : Step) (p : Point) → Has s done → Has p coming
      → sweep w (point s.at) <ℤ sweep w (point p)
  pub low : (e : ℕ) → e < m → AtSome (E e).low done ⊎ Has (E e).low coming
  pub high : (e : ℕ) → e < m → AtSome (E e).high done ⊎ Has (E e).high coming
  pub rises : (e : ℕ) → e < m → pos 0 <ℤ rise w (E e)

pub front_cut : (w : ℤ) (m : ℕ) (E : ℕ → Edge) (pts : List Point) (done : List Step)
    (coming : List Point)
    → Ready w m E pts → Front w m E pts done coming → Cut w m E done coming
front_cut w m E pts done coming h f =
    let c = cut_points w done coming (subst (λ ps. RisingPoints w ps) (sym f.is) h.rising) in
    let is : (p : Point) → Has p pts → AtSome p done
    ⊎ Has p coming =
    λ p k. passed_or_coming p done coming (subst (λ ps. Has p ps) (sym f.is) k) in
    record {
      rising = c.0;
      cut = c.1;
      low = λ e l. is (E e).low (h.ends e l).0;
      high = λ e l. is (E e).high (h.ends e l).1;
      rises = h.rises;
    }

-- a point that comes is not before the first one; on its sweep line it is the first one
pub first_least : (w : ℤ) (v p : Point) (coming : List Point) → RisingPoints w (v ∷ coming)
    → Has p (v ∷ coming) → sweep w (point v) ≤ℤ sweep w (point p)
first_least w v p coming h (inl e) =
    subst (λ q. sweep w (point v) ≤ℤ sweep w (point q)) (sym e) (omega (arith, ints))
first_least w v p coming h (inr k) =
    let l = each_has (λ q. sweep w (point v) <ℤ sweep w (point q)) coming p h.0 k in
    omega (arith, ints, l)

pub first_only : (w : ℤ) (v p : Point) (coming : List Point) → RisingPoints w (v ∷ coming)
    → Has p (v ∷ coming) → sweep w (point p) ≤ℤ sweep w (point v) → p ≡ v
first_only w v p coming h (inl e) k = e
first_only w v p coming h (inr i) k =
    let l = each_has (λ q. sweep w (point v) <ℤ sweep w (point q)) coming p h.0 i in
    absurd (omega (arith, ints, l, k))

-- ---- the live list between the latest event and the next one
-- z is after the latest event and not after the next one
pub record IsNext (w : ℤ) (s : Step) (v : Point) (z : Vector) : Type 0 where
  pub place : Place z
  pub after : (sweep w (point s.at) *ℤ z.n) <ℤ sweep w z
  pub upto : sweep w z ≤ℤ (sweep w (point v) *ℤ z.n)

upto_later : (u v s n : ℤ) → pos 0 <ℤ n → s ≤ℤ (v *ℤ n) → v ≤ℤ u → s ≤ℤ (u *ℤ n)
upto_later u v s n h k l = by_lt_z v u
    (λ (i : v <ℤ u). let x = scaled v u n h i in omega (arith, ints, x, k))
    (λ (i : u ≤ℤ v). subst (λ t. s ≤ℤ (t *ℤ n)) (equal_both v u l i) k)
  where
    equal_both : (x y : ℤ) → x ≤ℤ y → y ≤ℤ x → x ≡ y
    equal_both x y h k = omega (arith, ints)

pub live_spans : (w : ℤ) (m : ℕ) (E : ℕ → Edge) (pts : List Point) (s : Step) (done : List Step)
    (v : Point) (coming : List Point) (z : Vector) (a b : ℕ)
    → Ready w m E pts → Front w m E pts (s ∷ done) (v ∷ coming) → IsNext w s v z → Has a (after s)
    → Has b (after s) → Spans w (E a) (E b) s.at z
live_spans w m E pts s done v coming z a b h f i ka kb =
    let c = front_cut w m E pts (s ∷ done) (v ∷ coming) h f in
    let up : (e : ℕ) → Has e (after s)
    → pos 0 <ℤ rise w (E e) = λ e k. c.rises e (live_started m E (s ∷ done) e f.replayed k).0 in
    let late : (e : ℕ) → Has e (after s) → sweep w z ≤ℤ (sweep w (point (E e).high) *ℤ z.n) =
    λ e k. upto_later (sweep w (point (E e).high)) (sweep w (point v))
    (sweep w z) z.n i.place i.upto (first_least w v (E e).high coming c.rising (f.late e k)) in
    record {
      place = i.place;
      rise_first = up a ka;
      rise_second = up b kb;
      low_first = f.order.1 a ka;
      low_second = f.order.1 b kb;
      after = i.after;
      high_first = late a ka;
      high_second = late b kb;
    }

-- from neighbour to neighbour: strictly below at z, or z is on the sweep line of a common end
pub kept : (w : ℤ) (m : ℕ) (E : ℕ → Edge) (pts : List Point) (s : Step) (done : List Step)
    (v : Point) (coming : List Point) (z : Vector)
    → Ready w m E pts → Front w m E pts (s ∷ done) (v ∷ coming) → IsNext w s v z
    → Neighbours (λ a b. (gap w (E a) (E b) z <ℤ pos 0) ⊎ EndTogether w (E a) (E b) z) (after s)
kept w m E pts s done v coming z h f i =
    neighbours_both (Lies w E s.at) (FinePair E)
    (λ a b. (gap w (E a) (E b) z <ℤ pos 0) ⊎ EndTogether w (E a) (E b) z) (after s)
    (λ a b ka kb l fine. order_kept w E s.at z a b
    (live_spans w m E pts s done v coming z a b h f i ka kb) fine l) f.order.0 f.fine

strict_of : (w : ℤ) (E : ℕ → Edge) (v : Point) (coming : List Point) (z : Vector) (a b : ℕ)
    → Place z → sweep w z <ℤ (sweep w (point v) *ℤ z.n) → RisingPoints w (v ∷ coming)
    → Has (E a).high (v ∷ coming)
    → (gap w (E a) (E b) z <ℤ pos 0) ⊎ EndTogether w (E a) (E b) z → gap w (E a) (E b) z <ℤ pos 0
strict_of w E v coming z a b hz before h k (inl g) = g
strict_of w E v coming z a b hz before h k (inr (same, at)) =
    let up = upto_later (sweep w (point (E a).high)) (sweep w (point v))
    (sweep w (point v) *ℤ z.n) z.n hz (omega (arith, ints))
    (first_least w v (E a).high coming h k) in
    absurd (omega (arith, ints, before, at, up))

-- the order up to the next event: strict between two events
pub strict_between : (w : ℤ) (m : ℕ) (E : ℕ → Edge) (pts : List Point) (s : Step) (done : List Step)
    (v : Point) (coming : List Point) (z : Vector)
    → Ready w m E pts → Front w m E pts (s ∷ done) (v ∷ coming) → IsNext w s v z
    → sweep w z <ℤ (sweep w (point v) *ℤ z.n)
    → Neighbours (λ a b. gap w (E a) (E b) z <ℤ pos 0) (after s)
strict_between w m E pts s done v coming z h f i before =
    let c = front_cut w m E pts (s ∷ done) (v ∷ coming) h f in
    neighbours_map (λ a b. (gap w (E a) (E b) z <ℤ pos 0) ⊎ EndTogether w (E a) (E b) z)
    (λ a b. gap w (E a) (E b) z <ℤ pos 0) (after s)
    (λ a b ka kb x. strict_of w E v coming z a b i.place before c.rising (f.late a ka) x)
    (kept w m E pts s done v coming z h f i)

-- what is strictly below a at p is not above b
pub gap_falls : (w : ℤ) (E : ℕ → Edge) (p : Point) (a b : ℕ) → pos 0 <ℤ rise w (E a)
    → pos 0 <ℤ rise w (E b) → gap w (E a) (E b) (point p) <ℤ pos 0 → FallsUp E p a b
gap_falls w E p a b ra rb g = record {
  above = λ h. over_lower w (E a) (E b) (point p) ra rb g (omega (arith, ints, h));
  below = λ h. by_lt_z (side (E b) (point p)) (pos 0) (λ l. l)
      (λ (l : pos 0 ≤ℤ side (E b) (point p)). let x = over_lower w (E a) (E b)
      (point p) ra rb g l in absurd (omega (arith, ints, x, h)));
}

level_falls : (E : ℕ → Edge) (p : Point) (a b : ℕ) → side (E a) (point p) ≡ pos 0
    → side (E b) (point p) ≡ pos 0 → FallsUp E p a b
level_falls E p a b ea eb = record {
  above = λ h. absurd (omega (arith, ints, h, eb));
  below = λ h. absurd (omega (arith, ints, h, ea));
}

pub live_rise : (w : ℤ) (m : ℕ) (E : ℕ → Edge) (pts : List Point) (done : List Step)
    (coming : List Point)
    → Ready w m E pts → Front w m E pts done coming → (e : ℕ) → Has e (live done)
    → pos 0 <ℤ rise w (E e)
live_rise w m E pts done coming h f e k = h.rises e (live_started m E done e f.replayed k).0

-- at an event: strictly below, or both go through it
abbrev pub Passes : ℤ → (ℕ → Edge) → Point → ℕ → ℕ → Type 0
Passes w E v a b =
    (gap w (E a) (E b) (point v) <ℤ pos 0)
    ⊎ ((side (E a) (point v) ≡ pos 0) × (side (E b) (point v) ≡ pos 0))

passes_of : (w : ℤ) (E : ℕ → Edge) (v : Point) (coming : List Point) (a b : ℕ)
    → RisingPoints w (v ∷ coming) → Has (E a).high (v ∷ coming)
    → (gap w (E a) (E b) (point v) <ℤ pos 0) ⊎ EndTogether w (E a) (E b) (point v)
    → Passes w E v a b
passes_of w E v coming a b h k (inl g) = inl g
passes_of w E v coming a b h k (inr (same, at)) =
    let ea = first_only w v (E a).high coming h k (omega (arith, ints, at)) in
    inr (side_through_high E a v ea, side_through_high E b v (sym same ∙ ea))

-- the order at the next event
pub passes : (w : ℤ) (m : ℕ) (E : ℕ → Edge) (pts : List Point) (done : List Step) (v : Point)
    (coming : List Point)
    → Ready w m E pts → Front w m E pts done (v ∷ coming)
    → Neighbours (Passes w E v) (live done)
passes w m E pts [] v coming h f = tt
passes w m E pts (s ∷ done) v coming h f =
    let c = front_cut w m E pts (s ∷ done) (v ∷ coming) h f in
    let l = c.cut s v (inl refl) (inl refl) in
    let i : IsNext w s v (point v) = record {
      place = omega (arith, ints);
      after = omega (arith, ints, l);
      upto = omega (arith, ints);
    } in
    neighbours_map (λ a b. (gap w (E a) (E b) (point v) <ℤ pos 0)
    ⊎ EndTogether w (E a) (E b) (point v)) (Passes w E v) (after s)
    (λ a b ka kb x. passes_of w E v coming a b c.rising (f.late a ka) x)
    (kept w m E pts s done v coming (point v) h f i)

passes_falls : (w : ℤ) (E : ℕ → Edge) (v : Point) (a b : ℕ) → pos 0 <ℤ rise w (E a)
    → pos 0 <ℤ rise w (E b) → Passes w E v a b → FallsUp E v a b
passes_falls w E v a b ra rb (inl g) = gap_falls w E v a b ra rb g
passes_falls w E v a b ra rb (inr (ea, eb)) = level_falls E v a b ea eb

pub falls : (w : ℤ) (m : ℕ) (E : ℕ → Edge) (pts : List Point) (done : List Step) (v : Point)
    (coming : List Point)
    → Ready w m E pts → Front w m E pts done (v ∷ coming)
    → Neighbours (FallsUp E v) (live done)
falls w m E pts done v coming h f =
    let up = live_rise w m E pts done (v ∷ coming) h f in
    neighbours_map (Passes w E v) (FallsUp E v) (live done)
    (λ a b ka kb x. passes_falls w E v a b (up a ka) (up b kb) x)
    (passes w m E pts done v coming h f)

-- ---- the tests 'the point is strictly above e' are true for a front part of the list and false
-- after it
pub true_before : (E : ℕ → Edge) (p : Point) (xs : List ℕ) (e : ℕ) (ys : List ℕ)
    → Neighbours (FallsUp E p) (xs ++ (e ∷ ys)) → pos 0 <ℤ side (E e) (point p)
    → Each (λ d. pos 0 <ℤ side (E d) (point p)) xs
true_before E p [] e ys h k = tt
true_before E p (x ∷ []) e ys h k = (h.0.above k, tt)
true_before E p (x ∷ (y ∷ xs)) e ys h k =
    let r = true_before E p (y ∷ xs) e ys h.1 k in (h.0.above r.0, r)

pub not_above_up : (E : ℕ → Edge) (p : Point) (a b : ℕ) → FallsUp E p a b
    → side (E a) (point p) ≤ℤ pos 0 → side (E b) (point p) ≤ℤ pos 0
not_above_up E p a b h k =
    by_lt_z (pos 0) (side (E b) (point p))
    (λ (l : pos 0 <ℤ side (E b) (point p)). let x = h.above l in
    absurd (omega (arith, ints, x, k))) (λ l. l)

pub not_below_down : (E : ℕ → Edge) (p : Point) (a b : ℕ) → FallsUp E p a b
    → pos 0 ≤ℤ side (E b) (point p) → pos 0 ≤ℤ side (E a) (point p)
not_below_down E p a b h k =
    by_lt_z (side (E a) (point p)) (pos 0)
    (λ (l : side (E a) (point p) <ℤ pos 0). let x = h.below l in
    absurd (omega (arith, ints, x, k))) (λ l. l)

pub false_after : (E : ℕ → Edge) (p : Point) (xs : List ℕ) (e : ℕ) (ys : List ℕ)
    → Neighbours (FallsUp E p) (xs ++ (e ∷ ys)) → side (E e) (point p) ≤ℤ pos 0
    → Each (λ d. side (E d) (point p) ≤ℤ pos 0) (e ∷ ys)
false_after E p xs e ys h k = up_from_first (λ d. side (E d) (point p) ≤ℤ pos 0) (e ∷ ys)
    (neighbours_map (FallsUp E p) (λ a b. side (E a) (point p) ≤ℤ pos 0
    → side (E b) (point p) ≤ℤ pos 0) (e ∷ ys) (λ a b ka kb f. not_above_up E p a b f)
    (neighbours_back (FallsUp E p) xs (e ∷ ys) h)) k
