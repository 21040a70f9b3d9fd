-- The least curve of each point, pair by pair.
use Rattle.std.proofs.Common.{◌≡◌, ◌≢◌, ℕ, zero, suc, ◌+◌, ◌<◌, ◌≤◌, min, Option, Some, None, List}
use Rattle.std.proofs.Common.{length, refl, sym, ◌∙◌, ap, subst, arith}
use Rattle.fault_lists.specs.declared.kinds.OnAt.{OnAt}
use Rattle.area_faults.specs.PointLists.{AreLeast, IsLeastAmong, IsNoted, TellsLeast, least_at}
use Rattle.area_faults.specs.PointLists.{lesser, pair_at}

pub by_lt : {P : Type 0} (i j : ℕ) → (i < j → P) → (j ≤ i → P) → P
by_lt zero zero f g = g (omega arith)
by_lt zero (suc j) f g = f (omega arith)
by_lt (suc i) zero f g = g (omega arith)
by_lt (suc i) (suc j) f g = by_lt i j (λ l. f (omega (arith, l))) (λ l. g (omega (arith, l)))

by_eq : {P : Type 0} (i j : ℕ) → (i ≡ j → P) → (i ≢ j → P) → P
by_eq i j f g =
    by_lt i j (λ (l : i < j). g (λ e. omega (arith, l, e)))
    (λ (l : j ≤ i). by_lt j i (λ (k : j < i). g (λ e. omega (arith, k, e)))
    (λ (k : i ≤ j). f (omega (arith, l, k))))

pub none_noted : (pairs : List OnAt) (least : List (Option ℕ)) → ((j : ℕ) → least_at least j ≡ None)
    → AreLeast pairs 0 least
none_noted pairs least none j =
    subst (λ (o : Option ℕ). TellsLeast pairs 0 j o) (sym (none j))
    (λ m l e. absurd (omega (arith, l)))

module _ (pairs : List OnAt) (n : ℕ) where
  -- one pair more is of another point
  other_more : (j : ℕ) (o : Option ℕ) → j ≢ (pair_at pairs n).point → TellsLeast pairs n j o
      → TellsLeast pairs (n + 1) j o
  other_more j None d t =
      λ m l e. by_lt m n (λ (a : m < n). t m a e)
      (λ (a : n ≤ m). d (sym e ∙ ap (λ (k : ℕ). (pair_at pairs k).point) (omega (arith, l, a))))
  other_more j (Some c) d t = record {
    k = t.k;
    first = (let a = t.first in omega (arith, a));
    point = t.point;
    curve_is = t.curve_is;
    least = λ m l e. by_lt m n (λ (a : m < n). t.least m a e)
        (λ (a : n ≤ m). absurd
        (d (sym e ∙ ap (λ (k : ℕ). (pair_at pairs k).point) (omega (arith, l, a)))));
  }

  -- or of this one
  here_more : (o : Option ℕ) → TellsLeast pairs n (pair_at pairs n).point o
      → IsLeastAmong pairs (n + 1) (pair_at pairs n).point (lesser (pair_at pairs n).curve o)
  here_more None t = record {
    k = n;
    first = omega arith;
    point = refl;
    curve_is = refl;
    least = λ m l e. by_lt m n (λ (a : m < n). absurd (t m a e))
        (λ (a : n ≤ m). let q : m ≡ n = omega (arith, l, a) in
        subst (λ (k : ℕ). (pair_at pairs n).curve ≤ (pair_at pairs k).curve) (sym q) (omega arith));
  }
  here_more (Some c) t = by_lt c (pair_at pairs n).curve
      (λ (a : c < (pair_at pairs n).curve). record {
        k = t.k;
        first = (let b = t.first in omega (arith, b));
        point = t.point;
        curve_is = t.curve_is ∙ sym (at_most a);
        least = λ m l e. by_lt m n (λ (b : m < n). let k = t.least m b e in let h = at_most a in
            omega (arith, k, h)) (λ (b : n ≤ m). let q : m ≡ n = omega (arith, l, b) in
            subst (λ (k : ℕ). min (pair_at pairs n).curve c ≤ (pair_at pairs k).curve) (sym q)
            (let h = at_most a in omega (arith, h, a)));
      })
      (λ (a : (pair_at pairs n).curve ≤ c). record {
        k = n;
        first = omega arith;
        point = refl;
        curve_is = sym (at_least a);
        least = λ m l e. by_lt m n (λ (b : m < n). let k = t.least m b e in let h = at_least a in
            omega (arith, k, h, a)) (λ (b : n ≤ m). let q : m ≡ n = omega (arith, l, b) in
            subst (λ (k : ℕ). min (pair_at pairs n).curve c ≤ (pair_at pairs k).curve) (sym q)
            (let h = at_least a in omega (arith, h)));
      })
    where
      at_most : c < (pair_at pairs n).curve → min (pair_at pairs n).curve c ≡ c
      at_most a = omega (arith, a)

      at_least : (pair_at pairs n).curve ≤ c
          → min (pair_at pairs n).curve c ≡ (pair_at pairs n).curve
      at_least a = omega (arith, a)

  pub noted_next : (old new : List (Option ℕ)) (pair : OnAt) → pair ≡ pair_at pairs n
      → IsNoted pair old new → AreLeast pairs n old → AreLeast pairs (n + 1) new
  noted_next old new pair e h t =
      subst (λ (p : OnAt). IsNoted p old new → AreLeast pairs (n + 1) new) (sym e) next h
    where
      next : IsNoted (pair_at pairs n) old new → AreLeast pairs (n + 1) new
      next h j = by_eq j (pair_at pairs n).point
          (λ (q : j ≡ (pair_at pairs n).point). subst
          (λ (i : ℕ). TellsLeast pairs (n + 1) i (least_at new i)) (sym q)
          (subst (λ (o : Option ℕ). TellsLeast pairs (n + 1) (pair_at pairs n).point o) (sym h.here)
          (here_more (least_at old (pair_at pairs n).point) (t (pair_at pairs n).point))))
          (λ (q : j ≢ (pair_at pairs n).point). subst
          (λ (o : Option ℕ). TellsLeast pairs (n + 1) j o) (sym (h.elsewhere j q))
          (other_more j (least_at old j) q (t j)))

pub all_noted : (pairs : List OnAt) (n : ℕ) (least : List (Option ℕ)) → length pairs ≤ n
    → n ≤ length pairs → AreLeast pairs n least → AreLeast pairs (length pairs) least
all_noted pairs n least a b t =
    let e : n ≡ length pairs = omega (arith, a, b) in subst (λ (k : ℕ). AreLeast pairs k least) e t
