-- A complete run is decided by tests that compute: where they all answer true, the steps are a run
-- over the edges.
-- So a drawing that is worked out in whole numbers is shown to have a run by one computation.
use Rattle.std.proofs.Common.{◌≡◌, ℕ, zero, suc, ◌<◌, ◌≤◌, ◌⊎◌, Bool, true, false, pos, ◌-ℤ◌, ◌<ℤ◌}
use Rattle.std.proofs.Common.{List, [], ◌∷◌, inl, inr, refl, arith, ap, sym, ◌∙◌, subst}
use Rattle.std.proofs.lemmas.Int.{ints}
use Rattle.plane.specs.declared.kinds.Point.{Point}
use Rattle.plane.specs.Forms.Vectors.{Edge, point, side, Before}
use Rattle.plane.specs.Lists.{First, Last, Neighbours, Has, Once}
use Rattle.plane.specs.Runs.Steps.{Step, before, after, Turns, GoodStep, IsReplay, AtSome, Run}
use Rattle.plane.specs.Faces.Cells.{is_positive}
use Rattle.plane.specs.Runs.Positions.{turn_at}
use Rattle.plane.specs.Faces.Parity.{flip, both, either, same_point, same_number, among, same_whole}
use Rattle.plane.proofs.ParityLemmas.Wedges.{not_both, is_true}
use Rattle.plane.proofs.ParityLemmas.Parities.{both_true, whole_is, same_is, same_self}
use Rattle.plane.proofs.ParityLemmas.ByNumber.{number_is, is_among}
use Rattle.plane.proofs.Strips.OneStrip.{by_last}
use Rattle.plane.proofs.Linear.EdgePlaces.{side-cross}

-- ---- truth values
pub either_is : (a b : Bool) → either a b ≡ true → (a ≡ true) ⊎ (b ≡ true)
either_is true b h = inl refl
either_is false b h = inr h

abbrev pub implies : Bool → Bool → Bool
implies a b = either (flip a) b

pub implies_is : (a b : Bool) → implies a b ≡ true → a ≡ true → b ≡ true
implies_is true b h k = h
implies_is false b h k = absurd (not_both (sym k))

-- ---- numbers and lists
abbrev pub less : ℕ → ℕ → Bool
less a zero = false
less zero (suc b) = true
less (suc a) (suc b) = less a b

pub less_is : (a b : ℕ) → less a b ≡ true → a < b
less_is a zero h = absurd (not_both (sym h))
less_is zero (suc b) h = omega arith
less_is (suc a) (suc b) h = let l = less_is a b h in omega (arith, l)

abbrev pub most : ℕ → ℕ → Bool
most zero b = true
most (suc a) b = less a b

pub most_is : (a b : ℕ) → most a b ≡ true → a ≤ b
most_is zero b h = omega arith
most_is (suc a) b h = let l = less_is a b h in omega (arith, l)

is_less : (a b : ℕ) → a < b → less a b ≡ true
is_less a zero l = absurd (omega (arith, l))
is_less zero (suc b) l = refl
is_less (suc a) (suc b) l = is_less a b (omega (arith, l))

pub is_most : (a b : ℕ) → a ≤ b → most a b ≡ true
is_most zero b l = refl
is_most (suc a) b l = is_less a b (omega (arith, l))

abbrev pub all_below : ℕ → (ℕ → Bool) → Bool
all_below zero f = true
all_below (suc m) f = both (f m) (all_below m f)

pub all_below_is : (m : ℕ) (f : ℕ → Bool) → all_below m f ≡ true → (e : ℕ) → e < m → f e ≡ true
all_below_is zero f h e l = absurd (omega (arith, l))
all_below_is (suc m) f h e l =
    let k = both_true (f m) (all_below m f) h in
    by_last e m l (λ n. all_below_is m f k.1 e n) (λ q. ap f q ∙ k.0)

abbrev some_below : ℕ → (ℕ → Bool) → Bool
some_below zero f = false
some_below (suc m) f = either (f m) (some_below m f)

some_below_is : (m : ℕ) (f : ℕ → Bool) → some_below m f ≡ true → (e : ℕ) × (e < m) × (f e ≡ true)
some_below_is zero f h = absurd (not_both (sym h))
some_below_is (suc m) f h = elim (either_is (f m) (some_below m f) h) [
  | inl k ↦ (m, omega arith, k)
  | inr k ↦ let (e, l, q) = some_below_is m f k in (e, omega (arith, l), q)
]

abbrev pub all_of : {X : Type 0} → (X → Bool) → List X → Bool
all_of f [] = true
all_of f (x ∷ xs) = both (f x) (all_of f xs)

pub all_of_is : {X : Type 0} (f : X → Bool) (xs : List X) → all_of f xs ≡ true → (x : X) → Has x xs
    → f x ≡ true
all_of_is f [] h x k = absurd k
all_of_is f (y ∷ xs) h x (inl e) = ap f e ∙ (both_true (f y) (all_of f xs) h).0
all_of_is f (y ∷ xs) h x (inr k) = all_of_is f xs (both_true (f y) (all_of f xs) h).1 x k

among_has : (xs : List ℕ) (e : ℕ) → among xs e ≡ true → Has e xs
among_has [] e h = absurd (not_both (sym h))
among_has (x ∷ xs) e h =
    elim (either_is (same_number x e) (among xs e) h) [
      | inl k ↦ inl (sym (number_is x e k))
      | inr k ↦ inr (among_has xs e k)
    ]

abbrev once : List ℕ → Bool
once [] = true
once (x ∷ xs) = both (flip (among xs x)) (once xs)

flip_is : (b : Bool) → flip b ≡ true → b ≡ true → ⊥
flip_is true h k = not_both (sym h)
flip_is false h k = not_both (sym k)

once_is : (xs : List ℕ) → once xs ≡ true → Once xs
once_is [] h = tt
once_is (x ∷ xs) h =
    let k = both_true (flip (among xs x)) (once xs) h in
    ((λ i. flip_is (among xs x) k.0 (is_among xs x i)), once_is xs k.1)

abbrev first_test : {X : Type 0} → (X → Bool) → List X → Bool
first_test f [] = true
first_test f (x ∷ xs) = f x

abbrev last_test : {X : Type 0} → (X → Bool) → List X → Bool
last_test f [] = true
last_test f (x ∷ []) = f x
last_test f (x ∷ (y ∷ ys)) = last_test f (y ∷ ys)

first_is : {X : Type 0} (f : X → Bool) (P : X → Type 0) (xs : List X) → ((x : X) → f x ≡ true → P x)
    → first_test f xs ≡ true → First P xs
first_is f P [] g h = tt
first_is f P (x ∷ xs) g h = g x h

last_is : {X : Type 0} (f : X → Bool) (P : X → Type 0) (xs : List X) → ((x : X) → f x ≡ true → P x)
    → last_test f xs ≡ true → Last P xs
last_is f P [] g h = tt
last_is f P (x ∷ []) g h = g x h
last_is f P (x ∷ (y ∷ ys)) g h = last_is f P (y ∷ ys) g h

abbrev neighbours : {X : Type 0} → (X → X → Bool) → List X → Bool
neighbours f [] = true
neighbours f (x ∷ xs) = both (first_test (f x) xs) (neighbours f xs)

neighbours_is : {X : Type 0} (f : X → X → Bool) (R : X → X → Type 0) (xs : List X)
    → ((x y : X) → f x y ≡ true → R x y) → neighbours f xs ≡ true → Neighbours R xs
neighbours_is f R [] g h = tt
neighbours_is f R (x ∷ xs) g h =
    let k = both_true (first_test (f x) xs) (neighbours f xs) h in
    (first_is (f x) (R x) xs (g x) k.0, neighbours_is f R xs g k.1)

abbrev same_list : List ℕ → List ℕ → Bool
same_list [] [] = true
same_list [] (y ∷ ys) = false
same_list (x ∷ xs) [] = false
same_list (x ∷ xs) (y ∷ ys) = both (same_number x y) (same_list xs ys)

same_list_is : (xs ys : List ℕ) → same_list xs ys ≡ true → xs ≡ ys
same_list_is [] [] h = refl
same_list_is [] (y ∷ ys) h = absurd (not_both (sym h))
same_list_is (x ∷ xs) [] h = absurd (not_both (sym h))
same_list_is (x ∷ xs) (y ∷ ys) h =
    let k = both_true (same_number x y) (same_list xs ys) h in
    ap (λ (z : ℕ). z ∷ xs) (number_is x y k.0)
    ∙ ap (λ (zs : List ℕ). y ∷ zs) (same_list_is xs ys k.1)

-- ---- points
abbrev pub comes_before : Point → Point → Bool
comes_before p q =
    either (is_positive (q.x -ℤ p.x)) (both (same_whole p.x q.x) (is_positive (q.y -ℤ p.y)))

pub comes_before_is : (p q : Point) → comes_before p q ≡ true → Before p q
comes_before_is p q h =
    elim (either_is (is_positive (q.x -ℤ p.x))
    (both (same_whole p.x q.x) (is_positive (q.y -ℤ p.y))) h) [
      | inl k ↦ let l = is_true (q.x -ℤ p.x) k in inl (omega (arith, ints, l))
      | inr k ↦
          let b = both_true (same_whole p.x q.x) (is_positive (q.y -ℤ p.y)) k in
          let l = is_true (q.y -ℤ p.y) b.1 in
          inr (whole_is p.x q.x b.0, omega (arith, ints, l))
    ]

above_is : (E : ℕ → Edge) (e : ℕ) (v : Point) → is_positive (turn_at E e v) ≡ true
    → pos 0 <ℤ side (E e) (point v)
above_is E e v h =
    let l = is_true (turn_at E e v) h in let q = side-cross (E e) v in omega (arith, ints, l, q)

below_is : (E : ℕ → Edge) (e : ℕ) (v : Point) → is_positive (pos 0 -ℤ turn_at E e v) ≡ true
    → side (E e) (point v) <ℤ pos 0
below_is E e v h =
    let l = is_true (pos 0 -ℤ turn_at E e v) h in
    let q = side-cross (E e) v in omega (arith, ints, l, q)

-- ---- a step
record Passes (m : ℕ) (E : ℕ → Edge) (s : Step) : Type 0 where
  ends : all_of (λ e. both (less e m) (same_point (E e).high s.at)) s.ending ≡ true
  all_ends : all_below m (λ e. implies (same_point (E e).high s.at) (among s.ending e)) ≡ true
  ends_once : once s.ending ≡ true
  starts : all_of (λ e. both (less e m) (same_point (E e).low s.at)) s.starting ≡ true
  all_starts : all_below m (λ e. implies (same_point (E e).low s.at) (among s.starting e)) ≡ true
  sorted : neighbours (λ a b. is_positive (turn_at E a (E b).high)) s.starting ≡ true
  below : last_test (λ e. is_positive (turn_at E e s.at)) s.below ≡ true
  above : first_test (λ e. is_positive (pos 0 -ℤ turn_at E e s.at)) s.above ≡ true

abbrev good_test : ℕ → (ℕ → Edge) → Step → Bool
good_test m E s =
    both (all_of (λ e. both (less e m) (same_point (E e).high s.at)) s.ending)
    (both (all_below m (λ e. implies (same_point (E e).high s.at) (among s.ending e)))
    (both (once s.ending)
    (both (all_of (λ e. both (less e m) (same_point (E e).low s.at)) s.starting)
    (both (all_below m (λ e. implies (same_point (E e).low s.at) (among s.starting e)))
    (both (neighbours (λ a b. is_positive (turn_at E a (E b).high)) s.starting)
    (both (last_test (λ e. is_positive (turn_at E e s.at)) s.below)
    (first_test (λ e. is_positive (pos 0 -ℤ turn_at E e s.at)) s.above)))))))

passes : (m : ℕ) (E : ℕ → Edge) (s : Step) → good_test m E s ≡ true → Passes m E s
passes m E s h =
    let a = both_true _ _ h in
    let b = both_true _ _ a.1 in
    let c = both_true _ _ b.1 in
    let d = both_true _ _ c.1 in
    let e = both_true _ _ d.1 in
    let f = both_true _ _ e.1 in
    let g = both_true _ _ f.1 in
    record {
      ends = a.0;
      all_ends = b.0;
      ends_once = c.0;
      starts = d.0;
      all_starts = e.0;
      sorted = f.0;
      below = g.0;
      above = g.1;
    }

good_is : (m : ℕ) (E : ℕ → Edge) (s : Step) → good_test m E s ≡ true → GoodStep m E s
good_is m E s h =
    let p = passes m E s h in
    record {
      ending_only = λ e i. let k =
          both_true (less e m) (same_point (E e).high s.at)
          (all_of_is (λ e. both (less e m) (same_point (E e).high s.at)) s.ending p.ends e i) in
          (less_is e m k.0, same_is (E e).high s.at k.1);
      ending_all =
          λ e l q. among_has s.ending e
          (implies_is (same_point (E e).high s.at) (among s.ending e)
          (all_below_is m (λ e. implies (same_point (E e).high s.at) (among s.ending e)) p.all_ends
          e l) (subst (λ (x : Point). same_point (E e).high x ≡ true) q (same_self (E e).high)));
      ending_once = once_is s.ending p.ends_once;
      starting_only = λ e i. let k =
          both_true (less e m) (same_point (E e).low s.at)
          (all_of_is (λ e. both (less e m) (same_point (E e).low s.at)) s.starting p.starts e i) in
          (less_is e m k.0, same_is (E e).low s.at k.1);
      starting_all =
          λ e l q. among_has s.starting e
          (implies_is (same_point (E e).low s.at) (among s.starting e)
          (all_below_is m (λ e. implies (same_point (E e).low s.at) (among s.starting e))
          p.all_starts e l)
          (subst (λ (x : Point). same_point (E e).low x ≡ true) q (same_self (E e).low)));
      turns = neighbours_is (λ a b. is_positive (turn_at E a (E b).high)) (Turns E) s.starting
          (λ a b k. above_is E a (E b).high k) p.sorted;
      nearest_below =
          last_is (λ e. is_positive (turn_at E e s.at))
          (λ e. pos 0 <ℤ side (E e) (point s.at)) s.below (λ e k. above_is E e s.at k) p.below;
      nearest_above =
          first_is (λ e. is_positive (pos 0 -ℤ turn_at E e s.at))
          (λ e. side (E e) (point s.at) <ℤ pos 0) s.above (λ e k. below_is E e s.at k) p.above;
    }

-- ---- all steps
abbrev replay_test : ℕ → (ℕ → Edge) → List ℕ → List Step → Bool
replay_test m E now [] = same_list now []
replay_test m E now (s ∷ steps) =
    both (same_list now (before s)) (both (good_test m E s) (replay_test m E (after s) steps))

replay_is : (m : ℕ) (E : ℕ → Edge) (now : List ℕ) (steps : List Step)
    → replay_test m E now steps ≡ true → IsReplay m E now steps
replay_is m E now [] h = same_list_is now [] h
replay_is m E now (s ∷ steps) h =
    let a = both_true (same_list now (before s))
    (both (good_test m E s) (replay_test m E (after s) steps)) h in
    let b = both_true (good_test m E s) (replay_test m E (after s) steps) a.1 in
    (same_list_is now (before s) a.0, good_is m E s b.0, replay_is m E (after s) steps b.1)

abbrev at_some : Point → List Step → Bool
at_some p [] = false
at_some p (s ∷ steps) = either (same_point p s.at) (at_some p steps)

at_some_is : (p : Point) (steps : List Step) → at_some p steps ≡ true → AtSome p steps
at_some_is p [] h = absurd (not_both (sym h))
at_some_is p (s ∷ steps) h = elim (either_is (same_point p s.at) (at_some p steps) h) [
  | inl k ↦ (s, inl refl, same_is p s.at k)
  | inr k ↦ let (t, i, q) = at_some_is p steps k in (t, inr i, q)
]

abbrev pub is_end : Edge → Point → Bool
is_end e p = either (same_point e.low p) (same_point e.high p)

abbrev pub run_test : ℕ → (ℕ → Edge) → List Step → Bool
run_test m E steps =
    both (replay_test m E [] steps)
    (both (neighbours (λ s t. comes_before s.at t.at) steps)
    (both (all_below m (λ e. both (at_some (E e).low steps) (at_some (E e).high steps)))
    (both (all_of (λ s. some_below m (λ e. is_end (E e) s.at)) steps)
    (all_below m (λ e. comes_before (E e).low (E e).high)))))

pub run_by_test : (m : ℕ) (E : ℕ → Edge) (steps : List Step) → run_test m E steps ≡ true
    → Run m E steps
run_by_test m E steps h =
    let a = both_true _ _ h in
    let b = both_true _ _ a.1 in
    let c = both_true _ _ b.1 in
    let d = both_true _ _ c.1 in
    record {
      replays = replay_is m E [] steps a.0;
      rises = neighbours_is (λ s t. comes_before s.at t.at) (λ s t. Before s.at t.at) steps
          (λ s t k. comes_before_is s.at t.at k) b.0;
      ends = λ e l. let k =
          both_true (at_some (E e).low steps) (at_some (E e).high steps)
          (all_below_is m (λ e. both (at_some (E e).low steps) (at_some (E e).high steps)) c.0 e
          l) in (at_some_is (E e).low steps k.0, at_some_is (E e).high steps k.1);
      events = λ s i. let (e, l, k) =
          some_below_is m (λ e. is_end (E e) s.at)
          (all_of_is (λ s. some_below m (λ e. is_end (E e) s.at)) steps d.0 s i) in
          (e, l, end_of e s.at k);
      edges = λ e l. comes_before_is (E e).low (E e).high
          (all_below_is m (λ e. comes_before (E e).low (E e).high) d.1 e l);
    }
  where
    end_of : (e : ℕ) (p : Point) → is_end (E e) p ≡ true → ((E e).low ≡ p) ⊎ ((E e).high ≡ p)
    end_of e p k =
        elim (either_is (same_point (E e).low p) (same_point (E e).high p) k)
        [ inl q ↦ inl (same_is (E e).low p q) | inr q ↦ inr (same_is (E e).high p q) ]
