-- A live edge of a run whose line goes through a point between two events goes through the point,
-- and no other edge does.
use Rattle.std.proofs.Common.{◌≡◌, ℕ, ◌<◌, pos, inl, inr, List, [], ◌∷◌, refl, arith, ap, sym, ◌∙◌}
use Rattle.std.proofs.Common.{subst}
use Rattle.std.proofs.lemmas.Int.{ints}
use Rattle.plane.specs.declared.kinds.Point.{Point}
use Rattle.plane.specs.Runs.Positions.{turn_at}
use Rattle.plane.specs.Lists.{Each, Has}
use Rattle.plane.specs.Forms.Vectors.{point, Edge, sweep, Before}
use Rattle.plane.specs.Runs.Steps.{Step, Run, AtSome, onto, live}
use Rattle.plane.specs.Forms.Meets.{OnStraight}
use Rattle.plane.proofs.ListLemmas.Lists.{each_has}
use Rattle.plane.proofs.Linear.EdgePlaces.{place_point, side-cross}
use Rattle.plane.proofs.Covers.NotApart.{one_point}
use Rattle.plane.proofs.Runs.Moments.{at_onto, todo_onto}
use Rattle.plane.proofs.MoveLemmas.MadeSteps.{never}
use Rattle.plane.proofs.Sweep.Pairs.{on_straight}
use Rattle.plane.proofs.Runs.RunLaws.{run_is_fine, run_started, done_onto}
use Rattle.plane.proofs.Runs.RunWeights.{run_weight}

module _ (m : ℕ) (E : ℕ → Edge) (done todo : List Step) (v : Point) (run : Run m E (onto done todo))
    (before : Each (λ s. Before s.at v) done) (after : Each (λ s. Before v s.at) todo) where
  pub live_line : (e : ℕ) → Has e (live done) → turn_at E e v ≡ pos 0 → OnStraight (E e) (point v)
  live_line e k t =
      let u = run_weight m E (onto done todo) (v ∷ []) run in
      let w = u.weight in
      let (l, ends) = run_started m E done todo run e k in
      let (s, i, p) = ends.0 in
      let (z, j, q) = ends.1 in
      let has : (x : Step) → Has x (onto done todo)
      → Has x.at u.points =
      λ x h. each_has (λ y. Has y.at u.points) (onto done todo) x u.events h in
      let known = u.known v (inl refl) in
      let from = u.heavy s.at v (has s (done_onto s done todo i)) known
      (each_has (λ x. Before x.at v) done s before i) in
      let to = u.heavy v z.at known (has z (todo_onto z done todo j))
      (each_has (λ x. Before v x.at) todo z after j) in
      let start = ap (λ (x : Point). sweep w (point x)) p in
      let end = ap (λ (x : Point). sweep w (point x)) q in
      let c = side-cross (E e) v in
      on_straight w (E e) (point v) (u.swept.rises e l) (place_point v)
      (record {
        line = omega (arith, ints, c, t);
        low = omega (arith, ints, from, start);
        high = omega (arith, ints, to, end);
      })

  -- the point is no event
  not_event : AtSome v (onto done todo) → ⊥
  not_event h = elim (at_onto v done todo h) [
    | inl a ↦ (let (s, i, q) = a in
        never s.at (subst (λ (x : Point). Before s.at x) q
        (each_has (λ x. Before x.at v) done s before i)))
    | inr a ↦ (let (s, i, q) = a in
        never s.at (subst (λ (x : Point). Before x s.at) q
        (each_has (λ x. Before v x.at) todo s after i)))
  ]

  pub one_line : (e f : ℕ) → e < m → f < m → (e ≡ f → ⊥) → OnStraight (E e) (point v)
      → OnStraight (E f) (point v) → ⊥
  one_line e f l k n a b =
      let c = run_is_fine m E (onto done todo) run e f l k n (point v) (place_point v) a b in
      let same = one_point v c.at c.is in
      elim c.of_first [
        | inl q ↦ not_event
            (subst (λ (x : Point). AtSome x (onto done todo)) (q ∙ sym same) (run.ends e l).0)
        | inr q ↦ not_event
            (subst (λ (x : Point). AtSome x (onto done todo)) (q ∙ sym same) (run.ends e l).1)
      ]
