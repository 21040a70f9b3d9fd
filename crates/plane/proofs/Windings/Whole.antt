-- A place of an edge that is no event: it cuts the live list in the edges below, that edge, and the
-- edges above.
use Rattle.std.proofs.Common.{◌≡◌, ℕ, ◌<◌, ◌≤◌, List, [], ◌∷◌, ◌++◌, length, ℤ, pos, ◌*ℤ◌, ◌<ℤ◌}
use Rattle.std.proofs.Common.{◌≤ℤ◌, inl, inr, refl, arith, ap, sym, subst}
use Rattle.std.proofs.lemmas.Int.{ints, by_lt_z}
use Rattle.plane.specs.Lists.{Has, Neighbours, Once}
use Rattle.plane.specs.Forms.Vectors.{Vector, Place, Same, point, Edge, side, sweep, rise, lift, On}
use Rattle.plane.specs.Runs.Steps.{Step, onto, live, WeighedRun, IsAt}
use Rattle.plane.proofs.Runs.MomentWords.{Over}
use Rattle.plane.specs.Forms.Meets.{IsEnd}
use Rattle.plane.specs.Faces.Replays.{Replay, replay, list_after}
use Rattle.plane.proofs.Runs.RunWords.{IsRun, IsLawful, IsStrip}
use Rattle.plane.proofs.ListLemmas.Lists.{each_has, each_from, each_append}
use Rattle.plane.proofs.Linear.Signs.{by_sign}
use Rattle.plane.proofs.Runs.LiveEdges.{side_through_low}
use Rattle.plane.proofs.Runs.Moments.{moment}
use Rattle.plane.proofs.Runs.Order.{under_higher, untouched_rises, untouched_order, event_sides}
use Rattle.plane.proofs.Runs.Order.{higher_side, lower_side}
use Rattle.plane.proofs.Runs.Places.{all_over, then_under, raised, inner_order}
use Rattle.plane.proofs.Runs.Numbered.{nth, cut_at, late, swept_run}
use Rattle.plane.proofs.Runs.Lawful.{at_step, swept_lawful}
use Rattle.plane.proofs.Runs.Meeting.{event_is_end, live_once, same_place}

pub crossed_order : (w : ℤ) (m : ℕ) (E : ℕ → Edge) (done todo : List Step) (z : Vector)
    → WeighedRun w m E (onto done todo) → IsAt w done todo z → Place z
    → ((s : Step) → Has s done → Same z (point s.at) → ⊥) → Neighbours (Over E z) (live done)
crossed_order w m E [] todo z all i hz off = tt
crossed_order w m E (s ∷ done) todo z all i hz off =
    let h = moment w m E done (s ∷ todo) all in
    let g = h.todo_good.1 in
    by_lt_z (sweep w (point s.at) *ℤ z.n) (sweep w z)
    (λ (l : (sweep w (point s.at) *ℤ z.n) <ℤ sweep w z). inner_order w m E done todo s z all i hz l)
    (λ (l : sweep w z ≤ℤ (sweep w (point s.at) *ℤ z.n)).
    let p = i.passed.0 in
    let e : sweep w z ≡ sweep w (point s.at) *ℤ z.n = omega (arith, ints, l, p) in
    let o = untouched_order w m E done todo s z all hz e in
    let sides = event_sides w m E done todo s all in
    let rs = untouched_rises w m E done todo s h in
    let zero : (x : ℕ) → Has x s.starting
    → side (E x) (point s.at) ≡ pos 0 =
    λ x k. side_through_low E x s.at (g.starting_only x k).1 in
    let up : (x : ℕ) → Has x s.starting
    → pos 0 <ℤ rise w (E x) = λ x k. h.rises x (g.starting_only x k).0 in
    by_sign (lift z (point s.at))
    (λ (d : lift z (point s.at) <ℤ pos 0). then_under E z s.below (s.starting ++ s.above) o.0
    (each_append (λ x. side (E x) z <ℤ pos 0) s.starting s.above
    (each_from (λ x. side (E x) z <ℤ pos 0) s.starting (λ x k. let q = zero x k in
    lower_side w (E x) z s.at e hz (up x k) d (omega (arith, ints, q))))
    (each_from (λ x. side (E x) z <ℤ pos 0) s.above
    (λ x k. let q = each_has (λ y. side (E y) (point s.at) <ℤ pos 0) s.above x sides.1 k in
    lower_side w (E x) z s.at e hz (rs.1 x k) d (omega (arith, ints, q))))))
    (λ (d : lift z (point s.at) ≡ pos 0). absurd (off s (inl refl) (same_place w z s.at e d)))
    (λ (d : pos 0 <ℤ lift z (point s.at)). all_over E z s.below (s.starting ++ s.above)
    (each_from (λ x. pos 0 <ℤ side (E x) z) s.below
    (λ x k. let q = each_has (λ y. pos 0 <ℤ side (E y) (point s.at)) s.below x sides.0 k in
    higher_side w (E x) z s.at e hz (rs.0 x k) d (omega (arith, ints, q))))
    (all_over E z s.starting s.above
    (each_from (λ x. pos 0 <ℤ side (E x) z) s.starting (λ x k. let q = zero x k in
    higher_side w (E x) z s.at e hz (up x k) d (omega (arith, ints, q))))
    o.1)))

-- ---- the cut at an edge
pub record IsCutAt (E : ℕ → Edge) (z : Vector) (f : ℕ) (xs : List ℕ) : Type 0 where
  pub lower : List ℕ
  pub upper : List ℕ
  pub is : xs ≡ lower ++ (f ∷ upper)
  pub beneath : (e : ℕ) → Has e lower → pos 0 <ℤ side (E e) z
  pub over : (e : ℕ) → Has e upper → side (E e) z <ℤ pos 0

all_above : (E : ℕ → Edge) (z : Vector) (x : ℕ) (xs : List ℕ) → Neighbours (Over E z) (x ∷ xs)
    → side (E x) z ≤ℤ pos 0 → (e : ℕ) → Has e xs → side (E e) z <ℤ pos 0
all_above E z x [] h l e m = absurd m
all_above E z x (y ∷ ys) h l e (inl q) =
    subst (λ (c : ℕ). side (E c) z <ℤ pos 0) (sym q) (under_higher E z x y h.0 l)
all_above E z x (y ∷ ys) h l e (inr m) =
    let k = under_higher E z x y h.0 l in all_above E z y ys h.1 (omega (arith, ints, k)) e m

pub cut_edge : (E : ℕ → Edge) (z : Vector) (f : ℕ) (xs : List ℕ) → Neighbours (Over E z) xs
    → Has f xs → side (E f) z ≡ pos 0 → IsCutAt E z f xs
cut_edge E z f [] h m q = absurd m
cut_edge E z f (x ∷ xs) h (inl e) q = record {
  lower = [];
  upper = xs;
  is = ap (λ (y : ℕ). y ∷ xs) (sym e);
  beneath = λ d k. absurd k;
  over = all_above E z x xs h (subst (λ (y : ℕ). side (E y) z ≤ℤ pos 0) e (omega (arith, ints, q)));
}
cut_edge E z f (x ∷ xs) h (inr m) q =
    let r = cut_edge E z f xs h.1 m q in
    let l = raised E z x f xs h m (omega (arith, ints, q)) in
    record {
      lower = x ∷ r.lower;
      upper = r.upper;
      is = ap (λ (ys : List ℕ). x ∷ ys) r.is;
      beneath = λ d k. first r.lower d k l r.beneath;
      over = r.over;
    }
  where
    first : (ys : List ℕ) (d : ℕ) → Has d (x ∷ ys) → pos 0 <ℤ side (E x) z
        → ((e : ℕ) → Has e ys → pos 0 <ℤ side (E e) z) → pos 0 <ℤ side (E d) z
    first ys d (inl e) l f = subst (λ (y : ℕ). pos 0 <ℤ side (E y) z) (sym e) l
    first ys d (inr k) l f = f d k

-- all that is used of a complete run
pub record IsWhole (r : Replay) : Type 0 where
  pub run : IsRun r
  pub law : IsLawful r
  pub once : (k : ℕ) → k ≤ r.steps → Once (r.list k)
  pub crossed : (k : ℕ) (z : Vector) → Place z → IsStrip r k z
      → ((j : ℕ) → j < r.steps → Same z (point (r.step j).at) → ⊥)
      → Neighbours (Over r.edge z) (r.list k)
  pub event_end : (k : ℕ) → k < r.steps → (e : ℕ) → e < r.edges
      → On r.weight (r.edge e) (point (r.step k).at) → IsEnd (r.edge e) (r.step k).at

module _ (w : ℤ) (m : ℕ) (E : ℕ → Edge) (steps : List Step) (swept : WeighedRun w m E steps) where
  crossed_list : (k : ℕ) (z : Vector) → Place z → IsStrip (replay w m E steps) k z
      → ((j : ℕ) → j < length steps → Same z (point (nth steps j).at) → ⊥)
      → Neighbours (Over E z) (list_after [] steps k)
  crossed_list k z Z strip off =
      let c = cut_at steps k strip.fits in
      let done = c.0 in
      let todo = c.1 in
      let i : IsAt w done todo z = record {
        passed = each_from (λ s. (sweep w (point s.at) *ℤ z.n) ≤ℤ sweep w z) done
            (λ s n. let j = c.2.early s n in
            subst (λ (t : Step). (sweep w (point t.at) *ℤ z.n) ≤ℤ sweep w z) j.2
            (strip.from j.0 j.1));
        coming = each_from (λ s. sweep w z <ℤ (sweep w (point s.at) *ℤ z.n)) todo
            (λ s n. let j = late steps k done todo c.2 s n in
            subst (λ (t : Step). sweep w z <ℤ (sweep w (point t.at) *ℤ z.n)) j.3
            (strip.to j.0 j.1 j.2));
      } in
      let fits = strip.fits in
      subst (λ (es : List ℕ). Neighbours (Over E z) es) c.2.now
      (crossed_order w m E done todo z
      (subst (λ (s : List Step). WeighedRun w m E s) (sym c.2.whole) swept) i Z
      (λ s n q. let j = c.2.early s n in let l = j.1 in
      off j.0 (omega (arith, fits, l)) (subst (λ (t : Step). Same z (point t.at)) (sym j.2) q)))

  no_repeats : (k : ℕ) → k ≤ length steps → Once (list_after [] steps k)
  no_repeats k fits =
      let c = cut_at steps k fits in
      subst (λ (es : List ℕ). Once es) c.2.now
      (live_once w m E c.0 c.1
      (subst (λ (s : List Step). WeighedRun w m E s) (sym c.2.whole) swept))

  event_end : (k : ℕ) → k < length steps → (e : ℕ) → e < m → On w (E e) (point (nth steps k).at)
      → IsEnd (E e) (nth steps k).at
  event_end k fits e l on =
      let a = at_step w m E steps swept k fits in
      subst (λ (s : Step). On w (E e) (point s.at) → IsEnd (E e) s.at) a.3.is
      (λ o. event_is_end w m E a.0 a.2 a.1 e a.3.all l o) on

  pub swept_whole : IsWhole (replay w m E steps)
  swept_whole = record {
    run = swept_run w m E steps swept;
    law = swept_lawful w m E steps swept;
    once = no_repeats;
    crossed = crossed_list;
    event_end = event_end;
  }
