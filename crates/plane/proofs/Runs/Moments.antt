-- A run at a moment: what is known of the steps that are done and of those that are to do.
-- A weight of its events makes a run a swept run, and each place has its moment.
use Rattle.std.proofs.Common.{◌≡◌, ℕ, ℤ, pos, ◌*ℤ◌, ◌-ℤ◌, ◌<ℤ◌, ◌≤ℤ◌, ◌⊎◌, inl, inr, List, [], ◌∷◌}
use Rattle.std.proofs.Common.{◌++◌, refl, arith, sym, ◌∙◌, subst}
use Rattle.std.proofs.lemmas.Int.{ints, by_lt_z}
use Rattle.plane.specs.declared.kinds.Point.{Point}
use Rattle.plane.specs.Forms.Vectors.{Vector, Place, point, Edge, sweep, Before}
use Rattle.plane.specs.Lists.{Each, Neighbours, Has}
use Rattle.plane.specs.Runs.Steps.{Step, IsReplay, AtSome, Run, onto, live, Replayed, Rising}
use Rattle.plane.specs.Runs.Steps.{WeighedRun, IsAt}
use Rattle.plane.proofs.Runs.MomentWords.{Moment}
use Rattle.plane.specs.Forms.Weights.{Weight}
use Rattle.plane.proofs.Algebra.Laws.{product_positive}
use Rattle.plane.proofs.Algebra.Ring.{at, minus, times, vars, ring}
use Rattle.plane.proofs.ListLemmas.Lists.{each_has, each_map, neighbours_map}
use Rattle.plane.proofs.Linear.Vectors.{rise-is}

-- ---- a run with a weight is swept
pub steps_rise : (w : ℤ) (steps : List Step)
    → Neighbours (λ s t. sweep w (point s.at) <ℤ sweep w (point t.at)) steps → Rising w steps
steps_rise w [] h = tt
steps_rise w (s ∷ []) h = (tt, tt)
steps_rise w (s ∷ (t ∷ steps)) h =
    let rest = steps_rise w (t ∷ steps) h.1 in
    let l : sweep w (point s.at) <ℤ sweep w (point t.at) = h.0 in (
      (
        l,
        each_map (λ u. sweep w (point t.at) <ℤ sweep w (point u.at))
            (λ u. sweep w (point s.at) <ℤ sweep w (point u.at)) steps
            (λ u (k : sweep w (point t.at) <ℤ sweep w (point u.at)). omega (arith, ints, l, k)) rest.0,
      ),
      rest,
    )

pub swept : (w : ℤ) (pts : List Point) (m : ℕ) (E : ℕ → Edge) (steps : List Step) → Weight w pts
    → Each (λ s. Has s.at pts) steps → Run m E steps → WeighedRun w m E steps
swept w pts m E steps h known run = record {
  replays = run.replays;
  rising = steps_rise w steps
      (neighbours_map (λ s t. Before s.at t.at)
      (λ s t. sweep w (point s.at) <ℤ sweep w (point t.at)) steps
      (λ s t ks kt b. h s.at t.at (each_has (λ u. Has u.at pts) steps s known ks)
      (each_has (λ u. Has u.at pts) steps t known kt) b) run.rises);
  ends = run.ends;
  events = run.events;
  rises = λ e l.
      let in_pts : (p : Point) → AtSome p steps
      → Has p pts =
      λ p (s, k, q). subst (λ r. Has r pts) (sym q)
      (each_has (λ u. Has u.at pts) steps s known k) in
      let up = h (E e).low (E e).high (in_pts (E e).low (run.ends e l).0)
      (in_pts (E e).high (run.ends e l).1) (run.edges e l) in
      let r = rise-is w (E e) in
      omega (arith, ints, up, r);
}

-- ---- the two halves of a run at a moment
pub replayed : (m : ℕ) (E : ℕ → Edge) (done todo : List Step) → IsReplay m E [] (onto done todo)
    → Replayed m E done × IsReplay m E (live done) todo
replayed m E [] todo h = (tt, h)
replayed m E (s ∷ done) todo h =
    let r = replayed m E done (s ∷ todo) h in
    ((r.1.0, r.1.1, r.0), r.1.2)

-- what a replay step by step comes to
pub replays : (m : ℕ) (E : ℕ → Edge) (done todo : List Step) → Replayed m E done
    → IsReplay m E (live done) todo → IsReplay m E [] (onto done todo)
replays m E [] todo h k = k
replays m E (s ∷ done) todo h k = replays m E done (s ∷ todo) h.2 (h.0, h.1, k)

pub onto-append : (done todo more : List Step) → onto done (todo ++ more) ≡ onto done todo ++ more
onto-append [] todo more = refl
onto-append (s ∷ done) todo more = onto-append done (s ∷ todo) more

pub cut : (w : ℤ) (done todo : List Step) → Rising w (onto done todo)
    → Rising w todo × ((s t : Step) → Has s done → Has t todo
    → sweep w (point s.at) <ℤ sweep w (point t.at))
cut w [] todo h = (h, λ s t k l. absurd k)
cut w (s ∷ done) todo h =
    let r = cut w done (s ∷ todo) h in (
      r.0.1,
      λ u t k l. elim k [
        | inl e ↦ subst (λ (v : Step). sweep w (point v.at) <ℤ sweep w (point t.at)) (sym e)
            (each_has (λ v. sweep w (point s.at) <ℤ sweep w (point v.at)) todo t r.0.0 l)
        | inr i ↦ r.1 u t i (inr l)
      ],
    )

pub has_onto : (s : Step) (done todo : List Step) → Has s (onto done todo) → Has s done ⊎ Has s todo
has_onto s [] todo k = inr k
has_onto s (t ∷ done) todo k = elim (has_onto s done (t ∷ todo) k) [
  | inl h ↦ inl (inr h)
  | inr h ↦ elim h [ inl e ↦ inl (inl e) | inr i ↦ inr i ]
]

pub todo_onto : (s : Step) (done todo : List Step) → Has s todo → Has s (onto done todo)
todo_onto s [] todo k = k
todo_onto s (t ∷ done) todo k = todo_onto s done (t ∷ todo) (inr k)

pub at_onto : (p : Point) (done todo : List Step) → AtSome p (onto done todo)
    → AtSome p done ⊎ AtSome p todo
at_onto p done todo (s, k, q) =
    elim (has_onto s done todo k) [ inl h ↦ inl (s, h, q) | inr h ↦ inr (s, h, q) ]

pub moment : (w : ℤ) (m : ℕ) (E : ℕ → Edge) (done todo : List Step)
    → WeighedRun w m E (onto done todo) → Moment w m E done todo
moment w m E done todo h =
    let r = replayed m E done todo h.replays in
    record {
      done_good = r.0;
      todo_good = r.1;
      cut = (cut w done todo h.rising).1;
      ends = λ e l. (
        at_onto (E e).low done todo (h.ends e l).0,
        at_onto (E e).high done todo (h.ends e l).1,
      );
      rises = h.rises;
    }

-- ---- the moment of a place
pub scaled : (a b n : ℤ) → pos 0 <ℤ n → a <ℤ b → (a *ℤ n) <ℤ (b *ℤ n)
scaled a b n h k =
    let p = product_positive (b -ℤ a) n (omega (arith, ints, k)) h in
    let e = ring (times (minus (at 1) (at 0)) (at 2))
    (minus (times (at 1) (at 2)) (times (at 0) (at 2))) (vars (a ∷ b ∷ n ∷ [])) refl in
    omega (arith, ints, p, e)

pub locate : (w : ℤ) (z : Vector) (done todo : List Step) → Place z → Rising w todo
    → Each (λ s. (sweep w (point s.at) *ℤ z.n) ≤ℤ sweep w z) done
    → (d : List Step) × (t : List Step) × (onto done todo ≡ onto d t) × IsAt w d t z
locate w z done [] hz h k = (done, [], refl, record { passed = k; coming = tt })
locate w z done (s ∷ todo) hz h k =
    by_lt_z (sweep w z) (sweep w (point s.at) *ℤ z.n)
    (λ (l : sweep w z <ℤ (sweep w (point s.at) *ℤ z.n)). (
      done,
      s ∷ todo,
      refl,
      record {
        passed = k;
        coming = (
          l,
          each_map (λ t. sweep w (point s.at) <ℤ sweep w (point t.at))
              (λ t. sweep w z <ℤ (sweep w (point t.at) *ℤ z.n)) todo
              (λ t (r : sweep w (point s.at) <ℤ sweep w (point t.at)). let x = scaled
              (sweep w (point s.at)) (sweep w (point t.at)) z.n hz r in
              omega (arith, ints, x, l)) h.0,
        );
      },
    ))
    (λ (l : (sweep w (point s.at) *ℤ z.n) ≤ℤ sweep w z). locate w z (s ∷ done) todo hz h.1 (l, k))

-- what is to do is not done
pub not_done : (w : ℤ) (m : ℕ) (E : ℕ → Edge) (done todo : List Step) (p : Point)
    → Moment w m E done todo → AtSome p todo → AtSome p done → ⊥
not_done w m E done todo p h (t, kt, qt) (s, ks, qs) =
    let l = h.cut s t ks kt in
    let same = subst (λ r. sweep w (point r) <ℤ sweep w (point t.at)) (sym qs ∙ qt) l in
    omega (arith, ints, same)
