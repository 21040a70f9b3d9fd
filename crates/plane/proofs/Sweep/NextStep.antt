-- Making the next step: a walk along the live list, or a cut by two tests.
-- The edges that start are put in by slope.
use Rattle.std.proofs.Common.{◌≡◌, ℕ, zero, suc, ◌<◌, pos, ◌<ℤ◌, ◌≤ℤ◌, ◌⊎◌, inl, inr, List, [], ◌∷◌}
use Rattle.std.proofs.Common.{◌++◌, refl, arith, ap, sym, ◌∙◌, subst}
use Rattle.std.proofs.lemmas.Int.{ints, by_lt_z}
use Rattle.plane.specs.declared.kinds.Point.{Point}
use Rattle.plane.specs.Forms.Vectors.{point, Edge, side}
use Rattle.plane.specs.Lists.{Each, First, Neighbours, Has}
use Rattle.plane.specs.Runs.Steps.{Step}
use Rattle.plane.specs.Runs.Sweeps.{Made}
use Rattle.plane.proofs.Sweep.SweepWords.{FallsUp, Walked, Fan}
use Rattle.plane.proofs.ListLemmas.Lists.{each_map, each_back, first_from, last_from}
use Rattle.plane.proofs.ListLemmas.Lists.{neighbours_map, neighbours_back, up_from_first}
use Rattle.plane.proofs.Linear.Signs.{by_sign}
use Rattle.plane.proofs.Sweep.Fronts.{not_above_up}
use Rattle.plane.proofs.Sweep.Fans.{turn_back}

-- ---- the walk
level : (E : ℕ → Edge) (p : Point) (now : List ℕ)
    → (ending : List ℕ) × (above : List ℕ) × (now ≡ ending ++ above)
    × Each (λ e. side (E e) (point p) ≡ pos 0) ending
    × First (λ e. side (E e) (point p) ≡ pos 0 → ⊥) above
level E p [] = ([], [], refl, tt, tt)
level E p (x ∷ xs) = by_sign (side (E x) (point p))
    (λ l. ([], x ∷ xs, refl, tt, λ z. omega (arith, ints, l, z)))
    (λ l. let (ending, above, is, all, on) = level E p xs in
    (x ∷ ending, above, ap (λ ys. x ∷ ys) is, (l, all), on))
    (λ l. ([], x ∷ xs, refl, tt, λ z. omega (arith, ints, l, z)))

level_first : (E : ℕ → Edge) (p : Point) (x : ℕ) (ys zs : List ℕ) → x ∷ ys ≡ zs
    → side (E x) (point p) ≤ℤ pos 0 → First (λ e. side (E e) (point p) ≤ℤ pos 0) zs
level_first E p x ys zs e h = subst (λ us. First (λ e. side (E e) (point p) ≤ℤ pos 0) us) e h

pub walk : (E : ℕ → Edge) (p : Point) (now : List ℕ) → Walked E p now
walk E p [] = record {
  below = [];
  ending = [];
  above = [];
  is = refl;
  below_all = tt;
  stops = tt;
  ending_all = tt;
  goes_on = tt;
}
walk E p (x ∷ xs) = by_lt_z (pos 0) (side (E x) (point p))
    (λ (l : pos 0 <ℤ side (E x) (point p)).
    let r = walk E p xs in
    record {
      below = x ∷ r.below;
      ending = r.ending;
      above = r.above;
      is = ap (λ ys. x ∷ ys) r.is;
      below_all = (l, r.below_all);
      stops = r.stops;
      ending_all = r.ending_all;
      goes_on = r.goes_on;
    })
    (λ (l : side (E x) (point p) ≤ℤ pos 0).
    let (ending, above, is, all, on) = level E p (x ∷ xs) in
    record {
      below = [];
      ending = ending;
      above = above;
      is = is;
      below_all = tt;
      stops = level_first E p x xs (ending ++ above) is l;
      ending_all = all;
      goes_on = on;
    })

first_both : (P Q R : ℕ → Type 0) (xs : List ℕ) → ((x : ℕ) → P x → Q x → R x) → First P xs
    → First Q xs → First R xs
first_both P Q R [] f h k = tt
first_both P Q R (x ∷ xs) f h k = f x h k

-- in an ordered list the edge after those through p is above it
pub above_first : (E : ℕ → Edge) (p : Point) (now : List ℕ) (r : Walked E p now)
    → Neighbours (FallsUp E p) now → First (λ e. side (E e) (point p) <ℤ pos 0) r.above
above_first E p now r h =
    let F = FallsUp E p in
    let N : ℕ → Type 0 = λ e. side (E e) (point p) ≤ℤ pos 0 in
    let others = neighbours_back F r.below (r.ending ++ r.above)
    (subst (λ xs. Neighbours F xs) r.is h) in
    let all = up_from_first N (r.ending ++ r.above)
    (neighbours_map F (λ a b. N a → N b) (r.ending ++ r.above)
    (λ a b ka kb f. not_above_up E p a b f) others) r.stops in
    first_both N (λ e. side (E e) (point p) ≡ pos 0 → ⊥)
    (λ e. side (E e) (point p) <ℤ pos 0) r.above
    (λ e i n. by_lt_z (side (E e) (point p)) (pos 0) (λ l. l)
    (λ (l : pos 0 ≤ℤ side (E e) (point p)). absurd (n (omega (arith, ints, i, l)))))
    (first_from N r.above (each_back N r.ending r.above all)) r.goes_on

abbrev pub step_of : {m : ℕ} {E : ℕ → Edge} (p : Point) {now : List ℕ} → Walked E p now → Fan m E p
    → Step
step_of p r fan = record {
  at = p;
  below = r.below;
  ending = r.ending;
  starting = fan.list;
  above = r.above;
}

pub walked_made : (m : ℕ) (E : ℕ → Edge) (p : Point) (now : List ℕ) (r : Walked E p now)
    (fan : Fan m E p)
    → Neighbours (FallsUp E p) now → Made m E now (step_of p r fan)
walked_made m E p now r fan h = record {
  is = r.is;
  below_last = last_from (λ e. pos 0 <ℤ side (E e) (point p)) r.below r.below_all;
  ending_first =
      first_from (λ e. side (E e) (point p) ≤ℤ pos 0) r.ending
      (each_map (λ e. side (E e) (point p) ≡ pos 0) (λ e. side (E e) (point p) ≤ℤ pos 0) r.ending
      (λ e z. omega (arith, ints, z)) r.ending_all);
  ending_last =
      last_from (λ e. pos 0 ≤ℤ side (E e) (point p)) r.ending
      (each_map (λ e. side (E e) (point p) ≡ pos 0) (λ e. pos 0 ≤ℤ side (E e) (point p)) r.ending
      (λ e z. omega (arith, ints, z)) r.ending_all);
  above_first = above_first E p now r h;
  starting_only = fan.only;
  starting_all = fan.all;
  sorted = fan.sorted;
}

-- ---- the edges that start
abbrev Slope : (ℕ → Edge) → ℕ → ℕ → Type 0
Slope E a b = pos 0 ≤ℤ side (E a) (point (E b).high)

pub record Inserted (E : ℕ → Edge) (e : ℕ) (xs : List ℕ) : Type 0 where
  pub list : List ℕ
  pub only : (d : ℕ) → Has d list → (d ≡ e) ⊎ Has d xs
  pub new : Has e list
  pub old : (d : ℕ) → Has d xs → Has d list
  pub first : (x : ℕ) → Slope E x e → First (Slope E x) xs → First (Slope E x) list
  pub sorted : Neighbours (Slope E) list

has_more : (d x : ℕ) (xs : List ℕ) (e : ℕ) → (d ≡ e) ⊎ Has d xs → (d ≡ e) ⊎ Has d (x ∷ xs)
has_more d x xs e (inl q) = inl q
has_more d x xs e (inr k) = inr (inr k)

put : (E : ℕ → Edge) (p : Point) (e : ℕ) (xs : List ℕ) → (E e).low ≡ p
    → ((d : ℕ) → Has d xs → (E d).low ≡ p) → Neighbours (Slope E) xs → Inserted E e xs
put E p e [] le lows h = record {
  list = e ∷ [];
  only = λ d k. k;
  new = inl refl;
  old = λ d k. absurd k;
  first = λ x l f. l;
  sorted = (tt, tt);
}
put E p e (x ∷ xs) le lows h = by_lt_z (side (E e) (point (E x).high)) (pos 0)
    (λ (l : side (E e) (point (E x).high) <ℤ pos 0).
    let r = put E p e xs le (λ d k. lows d (inr k)) h.1 in
    let t = turn_back (E e) (E x) (le ∙ sym (lows x (inl refl))) in
    record {
      list = x ∷ r.list;
      only = λ d k. elim k [ inl q ↦ inr (inl q) | inr i ↦ has_more d x xs e (r.only d i) ];
      new = inr r.new;
      old = λ d k. elim k [ inl q ↦ inl q | inr i ↦ inr (r.old d i) ];
      first = λ y i f. f;
      sorted = (r.first x (omega (arith, ints, t, l)) h.0, r.sorted);
    })
    (λ (l : pos 0 ≤ℤ side (E e) (point (E x).high)). record {
      list = e ∷ (x ∷ xs);
      only = λ d k. k;
      new = inl refl;
      old = λ d k. inr k;
      first = λ y i f. i;
      sorted = (l, h);
    })

-- deciding whether an edge starts at p, and the fan of the edges with numbers below n
pub fan_of : (m : ℕ) (E : ℕ → Edge) (p : Point)
    → ((e : ℕ) → e < m → ((E e).low ≡ p) ⊎ ((E e).low ≡ p → ⊥)) → Fan m E p
fan_of zero E p test = record {
  list = [];
  only = λ e k. absurd k;
  all = λ e l q. absurd (omega (arith, l));
  sorted = tt;
}
fan_of (suc m) E p test =
    let r = fan_of m E p (λ e l. test e (omega (arith, l))) in
    elim (test m (omega arith)) [
      | inl q ↦
          let i = put E p m r.list q (λ d k. (r.only d k).1) r.sorted in
          record {
            list = i.list;
            only = λ e k. elim (i.only e k) [
              | inl s ↦ (
                subst (λ n. n < suc m) (sym s) (omega arith),
                subst (λ n. (E n).low ≡ p) (sym s) q,
              )
              | inr l ↦ let o = r.only e l in let b = o.0 in (omega (arith, b), o.1)
            ];
            all = λ e l s. elim (below_suc e m l) [
              | inl k ↦ i.old e (r.all e k s)
              | inr k ↦ subst (λ n. Has n i.list) (sym k) i.new
            ];
            sorted = i.sorted;
          }
      | inr n ↦ record {
        list = r.list;
        only = λ e k. let o = r.only e k in let b = o.0 in (omega (arith, b), o.1);
        all = λ e l s. elim (below_suc e m l) [
          | inl k ↦ r.all e k s
          | inr k ↦ absurd (n (subst (λ d. (E d).low ≡ p) k s))
        ];
        sorted = r.sorted;
      }
    ]
  where
    below_suc : (e m : ℕ) → e < suc m → (e < m) ⊎ (e ≡ m)
    below_suc e m l =
        by_lt_z (pos e) (pos m) (λ (k : pos e <ℤ pos m). inl (omega (arith, ints, k)))
        (λ (k : pos m ≤ℤ pos e). inr (omega (arith, ints, l, k)))
