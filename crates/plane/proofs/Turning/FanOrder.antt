-- The half-edges out of an event stand in strict counterclockwise order.
-- So the next half-edge is the first one clockwise after the twin.
use Rattle.std.proofs.Common.{◌≡◌, ℕ, suc, ◌<◌, List, [], ◌∷◌, ◌++◌, pos, ◌*ℤ◌, ◌<ℤ◌, refl, arith}
use Rattle.std.proofs.Common.{ap, sym, ◌∙◌, inl, inr, subst}
use Rattle.std.proofs.lemmas.Int.{ints}
use Rattle.plane.specs.declared.kinds.Point.{Point}
use Rattle.plane.specs.Lists.{Each, Last, Neighbours, Has}
use Rattle.plane.specs.Forms.Vectors.{point, sweep, gap, Before}
use Rattle.plane.specs.Runs.Steps.{Turns}
use Rattle.plane.specs.Faces.Replays.{Replay}
use Rattle.plane.proofs.Runs.RunWords.{IsRun, IsLawful}
use Rattle.plane.specs.Faces.Halves.{Half, under, over, edge_of, twin}
use Rattle.plane.specs.Faces.Classes.{starting_halves, ending_halves, fan, Next}
use Rattle.plane.specs.Faces.Directions.{origin, direction, IsRight, IsLeft, Comes, IsClockwiseNext}
use Rattle.plane.proofs.ListLemmas.Lists.{each_has, each_append, last_from, first_from}
use Rattle.plane.proofs.ListLemmas.Lists.{neighbours_append, neighbours_front, neighbours_back}
use Rattle.plane.proofs.ListLemmas.Lists.{joint_from, has_front, has_back}
use Rattle.plane.proofs.Strips.Centres.{inside_some}
use Rattle.plane.proofs.Turning.Directions.{precedes_join, is_first, is_last, follows_has}
use Rattle.plane.proofs.Turning.Directions.{follows_comes, follows_none, first_has, last_has}
use Rattle.plane.proofs.Turning.FanTurns.{starting_turn, ending_turn}

-- ---- the fan as a list
pub outward_has : (e : ℕ) (es : List ℕ) → Has e es → Has (over e) (starting_halves es)
outward_has e [] h = absurd h
outward_has e (d ∷ es) (inl q) = inl (ap over q)
outward_has e (d ∷ es) (inr h) = inr (outward_has e es h)

pub inward_has : (e : ℕ) (es : List ℕ) → Has e es → Has (under e) (ending_halves es)
inward_has e [] h = absurd h
inward_has e (d ∷ es) (inl q) =
    has_back (under e) (ending_halves es) (under d ∷ []) (inl (ap under q))
inward_has e (d ∷ es) (inr h) =
    has_front (under e) (ending_halves es) (under d ∷ []) (inward_has e es h)

outward_each : (P : Half → Type 0) (es : List ℕ) → ((e : ℕ) → Has e es → P (over e))
    → Each P (starting_halves es)
outward_each P [] f = tt
outward_each P (e ∷ es) f = (f e (inl refl), outward_each P es (λ d h. f d (inr h)))

inward_each : (P : Half → Type 0) (es : List ℕ) → ((e : ℕ) → Has e es → P (under e))
    → Each P (ending_halves es)
inward_each P [] f = tt
inward_each P (e ∷ es) f =
    each_append P (ending_halves es) (under e ∷ []) (inward_each P es (λ d h. f d (inr h)))
    (f e (inl refl), tt)

outward_order : (R : Half → Half → Type 0) (S : ℕ → ℕ → Type 0) (es : List ℕ)
    → ((a b : ℕ) → Has a es → Has b es → S a b → R (over a) (over b)) → Neighbours S es
    → Neighbours R (starting_halves es)
outward_order R S [] f n = tt
outward_order R S (a ∷ []) f n = (tt, tt)
outward_order R S (a ∷ (b ∷ es)) f n = (
  f a b (inl refl) (inr (inl refl)) n.0,
  outward_order R S (b ∷ es) (λ c d h k. f c d (inr h) (inr k)) n.1,
)

last_snoc : (P : Half → Type 0) (xs : List Half) (x : Half) → P x → Last P (xs ++ (x ∷ []))
last_snoc P [] x p = p
last_snoc P (y ∷ []) x p = p
last_snoc P (y ∷ (z ∷ zs)) x p = last_snoc P (z ∷ zs) x p

inward_order : (R : Half → Half → Type 0) (S : ℕ → ℕ → Type 0) (es : List ℕ)
    → ((a b : ℕ) → Has a es → Has b es → S a b → R (under b) (under a)) → Neighbours S es
    → Neighbours R (ending_halves es)
inward_order R S [] f n = tt
inward_order R S (a ∷ []) f n = (tt, tt)
inward_order R S (a ∷ (b ∷ es)) f n =
    neighbours_append R (ending_halves (b ∷ es)) (under a ∷ [])
    (inward_order R S (b ∷ es) (λ c d h k. f c d (inr h) (inr k)) n.1)
    (last_snoc (λ x. R x (under a)) (ending_halves es) (under b)
    (f a b (inl refl) (inr (inl refl)) n.0)) (tt, tt)

module _ (r : Replay) (run : IsRun r) (law : IsLawful r)
    (turns : (k : ℕ) → k < r.steps → Neighbours (Turns r.edge) (r.step k).starting) (ahead : (e : ℕ)
    → e < r.edges → Before (r.edge e).low (r.edge e).high) where
  starting_fits : (k e : ℕ) → k < r.steps → Has e (r.step k).starting → e < r.edges
  starting_fits k e l h =
      law.live (suc k) e (omega arith)
      (subst (λ (es : List ℕ). Has e es) (sym (run.after k l))
      (has_back e (r.step k).below ((r.step k).starting ++ (r.step k).above)
      (has_front e (r.step k).starting (r.step k).above h)))

  ending_fits : (k e : ℕ) → k < r.steps → Has e (r.step k).ending → e < r.edges
  ending_fits k e l h =
      law.live k e (omega arith)
      (subst (λ (es : List ℕ). Has e es) (sym (run.before k l))
      (has_back e (r.step k).below ((r.step k).ending ++ (r.step k).above)
      (has_front e (r.step k).ending (r.step k).above h)))

  over_right : (e : ℕ) → e < r.edges → IsRight (direction r.edge (over e))
  over_right e l = split (ahead e l)
    where
      split : Before (r.edge e).low (r.edge e).high → IsRight (direction r.edge (over e))
      split (inl h) = inl (omega (arith, ints, h))
      split (inr h) =
          let x = h.0 in let y = h.1 in inr (omega (arith, ints, x), omega (arith, ints, y))

  under_left : (e : ℕ) → e < r.edges → IsLeft (direction r.edge (under e))
  under_left e l = split (ahead e l)
    where
      split : Before (r.edge e).low (r.edge e).high → IsLeft (direction r.edge (under e))
      split (inl h) = inl (omega (arith, ints, h))
      split (inr h) =
          let x = h.0 in let y = h.1 in inr (omega (arith, ints, x), omega (arith, ints, y))

  starting_order : (k : ℕ) → k < r.steps
      → Neighbours (Comes r.edge) (starting_halves (r.step k).starting)
  starting_order k l = outward_order (Comes r.edge) (Turns r.edge) (r.step k).starting
      (λ a b ha hb t. inr (
        inl (over_right a (starting_fits k a l ha), over_right b (starting_fits k b l hb)),
        starting_turn (r.edge a) (r.edge b) (run.starting k l a ha ∙ sym (run.starting k l b hb)) t,
      )) (turns k l)

  ending_order : (k : ℕ) → k < r.steps → Neighbours (Comes r.edge) (ending_halves (r.step k).ending)
  ending_order k l =
      let z = inside_some r run k (omega arith) in
      let s = r.step k in
      let all = law.ordered k z.0 (omega arith) z.1 z.2 in
      let R : ℕ → ℕ → Type 0 = λ a b. gap r.weight (r.edge a) (r.edge b) z.0 <ℤ pos 0 in
      let mid = neighbours_front R s.ending s.above
      (neighbours_back R s.below (s.ending ++ s.above)
      (subst (λ (es : List ℕ). Neighbours R es) (run.before k l) all)) in
      inward_order (Comes r.edge) R s.ending
      (λ a b ha hb g.
      let at_a = run.ending k l a ha in
      let at_b = run.ending k l b hb in
      let early = subst (λ (p : Point). sweep r.weight z.0 <ℤ (sweep r.weight (point p) *ℤ z.0.n))
      (sym at_a) (z.2.to k (omega arith) l) in
      inr (
        inr (under_left b (ending_fits k b l hb), under_left a (ending_fits k a l ha)),
        ending_turn r.weight (r.edge a) (r.edge b) z.0 (at_b ∙ sym at_a) g early,
      )) mid

  -- the whole fan
  pub fan_sorted : (k : ℕ) → k < r.steps → Neighbours (Comes r.edge) (fan (r.step k))
  fan_sorted k l =
      let s = r.step k in
      neighbours_append (Comes r.edge) (starting_halves s.starting) (ending_halves s.ending)
      (starting_order k l)
      (joint_from (Comes r.edge) (λ x. IsRight (direction r.edge x))
      (λ y. IsLeft (direction r.edge y)) (starting_halves s.starting) (ending_halves s.ending)
      (λ x y hx hy p q. inl (p, q))
      (last_from (λ x. IsRight (direction r.edge x)) (starting_halves s.starting)
      (outward_each (λ x. IsRight (direction r.edge x)) s.starting
      (λ e h. over_right e (starting_fits k e l h))))
      (first_from (λ y. IsLeft (direction r.edge y)) (ending_halves s.ending)
      (inward_each (λ y. IsLeft (direction r.edge y)) s.ending
      (λ e h. under_left e (ending_fits k e l h)))))
      (ending_order k l)

  -- all half-edges of the fan start at its event
  fan_start : (k : ℕ) → k < r.steps → (h : Half) → Has h (fan (r.step k))
      → origin r.edge h ≡ (r.step k).at
  fan_start k l h m =
      let s = r.step k in
      let P : Half → Type 0 = λ x. origin r.edge x ≡ s.at in
      each_has P (fan s) h
      (each_append P (starting_halves s.starting) (ending_halves s.ending)
      (outward_each P s.starting (λ e n. run.starting k l e n))
      (inward_each P s.ending (λ e n. run.ending k l e n))) m

  -- all half-edges of the fan are edges of the run
  fan_fits : (k : ℕ) → k < r.steps → (h : Half) → Has h (fan (r.step k)) → edge_of h < r.edges
  fan_fits k l h m =
      let s = r.step k in
      let P : Half → Type 0 = λ x. edge_of x < r.edges in
      each_has P (fan s) h
      (each_append P (starting_halves s.starting) (ending_halves s.ending)
      (outward_each P s.starting (λ e n. starting_fits k e l n))
      (inward_each P s.ending (λ e n. ending_fits k e l n))) m

  pub next_fits : (h g : Half) → Next r h g → (edge_of g < r.edges) × (edge_of (twin h) < r.edges)
  next_fits h g n =
      let k = n.event in
      let xs = fan (r.step k) in
      let join : (a b c : Half) → Comes r.edge a b → Comes r.edge b c
      → Comes r.edge a c =
      λ a b c. precedes_join (direction r.edge a) (direction r.edge b) (direction r.edge c) in
      let R = Comes r.edge in
      elim n.turn [
        | inl f ↦ (let has = follows_has R join g (twin h) xs f in
            (fan_fits k n.fits g has.0, fan_fits k n.fits (twin h) has.1))
        | inr f ↦ (
          fan_fits k n.fits g (last_has R join g xs f.0),
          fan_fits k n.fits (twin h) (first_has R join (twin h) xs f.1),
        )
      ]

  -- the next half-edge is the first one clockwise after the twin, among those of a set that the fan
  -- holds
  pub next_clockwise : (all : (k : ℕ) → k < r.steps → (x : Half) → edge_of x < r.edges
      → origin r.edge x ≡ (r.step k).at → Has x (fan (r.step k)))
      → (h g : Half) → Next r h g → IsClockwiseNext r.edges r.edge (twin h) g
  next_clockwise all h g n =
      let k = n.event in
      let xs = fan (r.step k) in
      let order = fan_sorted k n.fits in
      let join : (a b c : Half) → Comes r.edge a b → Comes r.edge b c
      → Comes r.edge a c =
      λ a b c. precedes_join (direction r.edge a) (direction r.edge b) (direction r.edge c) in
      let R = Comes r.edge in
      elim n.turn [
        | inl f ↦ (
            let has = follows_has R join g (twin h) xs f in
            let at_t = fan_start k n.fits (twin h) has.1 in
            record {
              start = fan_start k n.fits g has.0 ∙ sym at_t;
              turn = inl (
                follows_comes R join g (twin h) xs f order,
                λ x l o. follows_none R join g (twin h) xs f order x
                    (all k n.fits x l (o ∙ at_t)),
              );
            })
        | inr f ↦ (
            let at_t = fan_start k n.fits (twin h) (first_has R join (twin h) xs f.1) in
            record {
              start = fan_start k n.fits g (last_has R join g xs f.0) ∙ sym at_t;
              turn = inr (λ x l o. let m = all k n.fits x l (o ∙ at_t) in
                  (is_last R join g xs f.0 order x m, is_first R join (twin h) xs f.1 order x m));
            })
      ]
