-- The list of straights that have a bend, one curve after the other, and the next one in it.
use Rattle.std.proofs.Common.{◌≡◌, ◌⊎◌, inl, inr, ℕ, ◌+◌, ◌-◌, ◌<◌, ◌≤◌, true, false, Option, None}
use Rattle.std.proofs.Common.{Some, ℤ, List, [], ◌∷◌}
use Rattle.std.proofs.Common.{◌++◌, length, get_or, take, drop, length-append, refl, arith, ap, sym}
use Rattle.std.proofs.Common.{◌∙◌, subst}
use Rattle.std.proofs.lemmas.Bool.{cases_lt}
use Rattle.std.proofs.lemmas.List.{drop-append-le, get_or_append_left, take-append-le, length-drop}
use Rattle.std.proofs.lemmas.List.Elements.{All-append, All-push}
use Rattle.std.proofs.Math.Seq.{drop-append_seam, get_or-append_seam}
use Rattle.std.specs.List.{All}
use Rattle.plane.specs.declared.kinds.Curve.{Curve}
use Rattle.plane.specs.declared.kinds.CurveKind.{CurveKind}
use Rattle.plane.specs.declared.kinds.CurveKind.TheVariants as kind
use Rattle.plane.specs.declared.kinds.Point.{Point}
use Rattle.plane.specs.Rule.Plans.{Plan, curve}
use Rattle.forks.specs.Bent.{IsBendAt, StandFor, StandForKind, parts}
use Rattle.forks.specs.ForkedStraights.{AreForkedTo, AreInOrder, IsForked, IsListed, IsNext}
use Rattle.forks.specs.ForkedStraights.{IsNextAt, IsPart, number_at}
use Rattle.forks.specs.declared.forked.Forked.{Forked}
use Rattle.forks.specs.declared.forked.ForkedStraights.{ForkedStraights}
use Rattle.forks.proofs.BentCurves.{few_parts}
use Rattle.forks.proofs.BentParts.{parts_drawn}
use Rattle.plane.specs.Rule.Windows.{IsDrawn}

-- ---- nothing yet
pub none_yet : (t : ℤ) (d : Plan) (f : ForkedStraights) → f.straights.items ≡ []
    → f.parts.items ≡ [] → AreForkedTo t d 0 f
none_yet t d f e p = record {
  known = λ k x l. absurd (let n = ap length e in omega (arith, l, n));
  before = λ k x l. absurd (let n = ap length e in omega (arith, l, n));
  rising = λ m n l k. absurd (let s = ap length e in omega (arith, k, s));
  whole = λ i l. absurd (omega (arith, l));
  few = (let n = ap length p in omega (arith, n));
  drawn = λ k x l. absurd (let n = ap length p in omega (arith, l, n));
}

-- ---- a curve that stands for itself
pub alone_more : (t : ℤ) (d : Plan) (k : ℕ) (f : ForkedStraights) → AreForkedTo t d k f
    → StandFor t d k (curve d k ∷ []) → AreForkedTo t d (k + 1) f
alone_more t d k f h s = record {
  known = h.known;
  before = λ m x l. let b = h.before m x l in omega (arith, b);
  rising = h.rising;
  whole = λ i l. by i l (cases_lt i k);
  few = (let n = h.few in omega (arith, n));
  drawn = h.drawn;
}
  where
    by : (i : ℕ) → i < k + 1 → (i < k) ⊎ (k ≤ i)
        → IsListed i f.straights.items ⊎ StandFor t d i (curve d i ∷ [])
    by i l (inl m) = h.whole i m
    by i l (inr m) =
        inr (subst (λ (j : ℕ). StandFor t d j (curve d j ∷ [])) (omega (arith, l, m)) s)

pub half_arc_alone : (t : ℤ) (d : Plan) (k : ℕ) → (curve d k).kind ≡ kind.HalfArc
    → StandFor t d k (curve d k ∷ [])
half_arc_alone t d k e =
    subst (λ (x : CurveKind). StandForKind x t d k (curve d k ∷ [])) (sym e) refl

pub unbent_alone : (t : ℤ) (d : Plan) (k : ℕ) → (curve d k).kind ≡ kind.Straight
    → IsBendAt t d k true None → IsBendAt t d k false None → StandFor t d k (curve d k ∷ [])
unbent_alone t d k e f l =
    subst (λ (x : CurveKind). StandForKind x t d k (curve d k ∷ [])) (sym e) (record {
      first = None;
      last = None;
      at_from = f;
      at_to = l;
      stand = refl;
    })

-- ---- a straight with a bend
-- what a straight names stays where more parts follow
still_named : (t : ℤ) (d : Plan) (ps qs : List Curve) (f : Forked) → IsForked t d ps f
    → IsForked t d (ps ++ qs) f
still_named t d ps qs f h = record {
  there = h.there;
  straight = h.straight;
  first = h.first;
  last = h.last;
  at_from = h.at_from;
  at_to = h.at_to;
  bends = h.bends;
  order = h.order;
  fits = (let n = length-append ps qs in let m = h.fits in omega (arith, n, m));
  named =
      (let m = h.fits in
      let o = h.order in
      let s = length-drop f.start ps in
      ap (take (f.end - f.start)) (drop-append-le f.start ps qs (omega (arith, m, o)))
      ∙ take-append-le (f.end - f.start) (drop f.start ps) qs (omega (arith, m, o, s))
      ∙ h.named);
}

module _ (t : ℤ) (d : Plan) (k : ℕ) (first last : Option Point) (f g : ForkedStraights) (s : Curve)
    (h : AreForkedTo t d k f)
    (there : k < length d.curves) (straight : (curve d k).kind ≡ kind.Straight) (is : s ≡ curve d k)
    (at_from : IsBendAt t d k true first) (at_to : IsBendAt t d k false last) (bends : first ≡ None
    → last ≡ None → ⊥)
    (drawn : IsDrawn d.window.low d.window.high (curve d k))
    (grown : g.parts.items ≡ f.parts.items ++ parts s first last) where
  abbrev ps : List Curve
  ps = f.parts.items

  abbrev qs : List Curve
  qs = parts (curve d k) first last

  more : g.parts.items ≡ ps ++ qs
  more = grown ∙ ap (λ (c : Curve). ps ++ parts c first last) is

  size : length g.parts.items ≡ length ps + length qs
  size = ap length more ∙ length-append ps qs

  module _ (x : Forked) (number : x.number ≡ k) (start : x.start ≡ length ps)
      (end : x.end ≡ length g.parts.items)
      (listed : g.straights.items ≡ f.straights.items ++ x ∷ []) where
    abbrev fs : List Forked
    fs = f.straights.items

    names : take (x.end - x.start) (drop x.start g.parts.items) ≡ qs
    names =
        let n : x.end - x.start ≡ length qs = (let z = size in omega (arith, start, end, z)) in
        ap (λ (m : ℕ). take m (drop x.start g.parts.items)) n
        ∙ ap (λ (m : ℕ). take (length qs) (drop m g.parts.items)) start
        ∙ ap (λ (cs : List Curve). take (length qs) (drop (length ps) cs)) more
        ∙ ap (take (length qs)) (drop-append_seam ps qs)
        ∙ whole qs
      where
        whole : (cs : List Curve) → take (length cs) cs ≡ cs
        whole [] = refl
        whole (c ∷ cs) = ap (λ (r : List Curve). c ∷ r) (whole cs)

    itself : IsForked t d g.parts.items x
    itself = by_number x.number number names
      where
        by_number : (n : ℕ) → n ≡ k → take (x.end - x.start) (drop x.start g.parts.items) ≡ qs
            → IsForked t d g.parts.items x
        by_number n e q = record {
          there = (let l = there in omega (arith, l, number));
          straight = ap (λ (j : ℕ). (curve d j).kind) number ∙ straight;
          first = first;
          last = last;
          at_from = subst (λ (j : ℕ). IsBendAt t d j true first) (sym number) at_from;
          at_to = subst (λ (j : ℕ). IsBendAt t d j false last) (sym number) at_to;
          bends = bends;
          order = (let z = size in omega (arith, start, end, z));
          fits = (omega (arith, end));
          named = q ∙ ap (λ (j : ℕ). parts (curve d j) first last) (sym number);
        }

    old_at : (m : ℕ) → m < length fs → number_at g.straights.items m ≡ number_at fs m
    old_at m l = ap (λ (xs : List Forked). number_at xs m) listed
        ∙ ap (λ (y : Forked). y.number)
        (get_or_append_left fs (x ∷ []) (record { number = 0; start = 0; end = 0 }) m l)

    new_at : number_at g.straights.items (length fs) ≡ k
    new_at = ap (λ (xs : List Forked). number_at xs (length fs)) listed
        ∙ ap (λ (y : Forked). y.number)
        (get_or-append_seam fs x [] (record { number = 0; start = 0; end = 0 })) ∙ number

    count : length g.straights.items ≡ length fs + 1
    count = ap length listed ∙ length-append fs (x ∷ [])

    pub forked_more : AreForkedTo t d (k + 1) g
    forked_more = record {
      known = subst (All (IsForked t d g.parts.items)) (sym listed)
          (All-push (IsForked t d g.parts.items) fs x
          (λ m y l. subst (λ (cs : List Curve). IsForked t d cs (get_or fs m y)) (sym more)
          (still_named t d ps qs (get_or fs m y) (h.known m y l))) itself);
      before = subst (All (λ (y : Forked). y.number < k + 1)) (sym listed)
          (All-push (λ (y : Forked). y.number < k + 1) fs x (λ m y l. let b = h.before m y l in
          omega (arith, b)) (omega (arith, number)));
      rising = λ m n l b. up m n l b (cases_lt n (length fs));
      whole = λ i l. by i l (cases_lt i k);
      few = (let z = size in let n = h.few in let q = few_parts (curve d k) first last in
          omega (arith, z, n, q));
      drawn = subst (All (IsPart d)) (sym more)
          (All-append (IsPart d) ps qs h.drawn
          (parts_drawn t d k straight first last at_from at_to drawn));
    }
      where
        up : (m n : ℕ) → m < n → n < length g.straights.items → (n < length fs) ⊎ (length fs ≤ n)
            → number_at g.straights.items m < number_at g.straights.items n
        up m n l b (inl c) =
            let r = h.rising m n l c in
            let p = old_at m (omega (arith, l, c)) in
            let q = old_at n c in
            omega (arith, r, p, q)
        up m n l b (inr c) =
            let z = count in
            let e : length fs ≡ n = omega (arith, b, c, z) in
            let p = old_at m (omega (arith, l, e)) in
            let q = ap (number_at g.straights.items) (sym e) ∙ new_at in
            let r = h.before m (record { number = 0; start = 0; end = 0 }) (omega (arith, l, e)) in
            omega (arith, p, q, r)

        listed_still : (i : ℕ) → IsListed i fs → IsListed i g.straights.items
        listed_still i (m, l, e) = (m, (let z = count in omega (arith, l, z)), old_at m l ∙ e)

        by : (i : ℕ) → i < k + 1 → (i < k) ⊎ (k ≤ i)
            → IsListed i g.straights.items ⊎ StandFor t d i (curve d i ∷ [])
        by i l (inl m) = elim (h.whole i m) [ inl a ↦ inl (listed_still i a) | inr b ↦ inr b ]
        by i l (inr m) =
            inl (length fs, (let z = count in omega (arith, z)), new_at ∙ omega (arith, l, m))

-- ---- the next one
pub first_next : (fs : List Forked) → IsNextAt 0 fs 0
first_next fs = record { done = λ m l. absurd (omega (arith, l)); ahead = λ m l b. omega arith }

module _ (i : ℕ) (fs : List Forked) (next : ℕ) (up : AreInOrder fs) (n : IsNextAt i fs next) where
  pub next_is : (f : Forked) → next < length fs → f ≡ get_or fs next f
      → f.number ≡ number_at fs next → f.number ≡ i → IsNext i fs next (Some f)
  next_is f l is at e = (l, is, e, record { done = done; ahead = ahead })
    where
      done : (m : ℕ) → m < next + 1 → m < length fs → number_at fs m < i + 1
      done m b c = by (cases_lt m next)
        where
          by : (m < next) ⊎ (next ≤ m) → number_at fs m < i + 1
          by (inl a) = let z = n.done m a c in omega (arith, z)
          by (inr a) =
              let q : number_at fs next ≡ number_at fs m = ap (number_at fs)
              (omega (arith, a, b)) in
              omega (arith, q, at, e)

      ahead : (m : ℕ) → next + 1 ≤ m → m < length fs → i + 1 ≤ number_at fs m
      ahead m b c = let u = up next m (omega (arith, b)) c in omega (arith, u, at, e)

  other : (next < length fs → number_at fs next ≡ i → ⊥) → (m : ℕ) → next ≤ m → m < length fs
      → i + 1 ≤ number_at fs m
  other no_such m b c = by (cases_lt next m)
    where
      by : (next < m) ⊎ (m ≤ next) → i + 1 ≤ number_at fs m
      by (inl a) =
          let u = up next m a c in
          let v = n.ahead next (omega arith) (omega (arith, a, c)) in
          omega (arith, u, v)
      by (inr a) =
          let q : number_at fs next ≡ number_at fs m = ap (number_at fs) (omega (arith, a, b)) in
          let v = n.ahead m b c in
          by_size (number_at fs m) v (λ e. no_such (omega (arith, a, c)) (q ∙ e))
        where
          by_size : (z : ℕ) → i ≤ z → (z ≡ i → ⊥) → i + 1 ≤ z
          by_size z v f =
              elim (cases_lt i z) [
                | inl l ↦ omega (arith, l)
                | inr l ↦ absurd (f (omega (arith, l, v)))
              ]

  pub none_next : (next < length fs → number_at fs next ≡ i → ⊥) → IsNext i fs next None
  none_next no_such = (not_listed, record { done = done; ahead = other no_such })
    where
      done : (m : ℕ) → m < next → m < length fs → number_at fs m < i + 1
      done m b c = let z = n.done m b c in omega (arith, z)

      not_listed : IsListed i fs → ⊥
      not_listed (m, l, e) = by (cases_lt m next)
        where
          by : (m < next) ⊎ (next ≤ m) → ⊥
          by (inl a) = let z = n.done m a l in absurd (omega (arith, z, e))
          by (inr a) = let z = other no_such m a l in absurd (omega (arith, z, e))
