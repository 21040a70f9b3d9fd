-- The laws of runs, by numbers: each is a law of a moment.
-- They are what the laws of cells stand on.
use Rattle.std.proofs.Common.{◌≡◌, ℕ, ◌<◌, ◌≤◌, List, [], ◌∷◌, length, ℤ, pos, ◌*ℤ◌, ◌<ℤ◌, ◌≤ℤ◌}
use Rattle.std.proofs.Common.{refl, arith, ap, sym, ◌∙◌, inl, subst}
use Rattle.std.proofs.lemmas.Int.{ints}
use Rattle.plane.specs.Lists.{Has, Each, Neighbours}
use Rattle.plane.specs.Forms.Vectors.{Vector, Place, point, Edge, side, sweep, rise, gap}
use Rattle.plane.specs.Runs.Steps.{Step, onto, live, WeighedRun, AtSome, IsAt, Divides}
use Rattle.plane.proofs.Runs.MomentWords.{Began, Ends}
use Rattle.plane.specs.Faces.Replays.{IsOffEdges, list_after, replay}
use Rattle.plane.proofs.Runs.RunWords.{IsLawful, IsBetweenEvents, IsStrip, IsOrdered}
use Rattle.plane.proofs.ListLemmas.Lists.{each_has, each_from, neighbours_both}
use Rattle.plane.proofs.Runs.LiveEdges.{live_started, live_ends, is_live, begins, ends}
use Rattle.plane.proofs.Runs.Moments.{moment, not_done}
use Rattle.plane.proofs.Runs.Order.{strict_order, live_rises, untouched_began, untouched_ends}
use Rattle.plane.proofs.Runs.Order.{untouched_rises, event_sides}
use Rattle.plane.proofs.Runs.Places.{place_divides}
use Rattle.plane.proofs.Runs.Numbered.{nth, IsCut, cut_at, late, comes}

-- ---- one list in order at a place between what is done and what is to do
ordered_list : (w : ℤ) (E : ℕ → Edge) (done todo : List Step) (z : Vector) (xs : List ℕ) → Place z
    → ((e : ℕ) → Has e xs → pos 0 <ℤ rise w (E e))
    → Neighbours (Began E done) xs → Neighbours (Ends E todo) xs
    → Each (λ s. (sweep w (point s.at) *ℤ z.n) <ℤ sweep w z) done
    → Each (λ s. sweep w z <ℤ (sweep w (point s.at) *ℤ z.n)) todo
    → Neighbours (λ a b. gap w (E a) (E b) z <ℤ pos 0) xs
ordered_list w E done todo z xs Z rises ps qs past coming =
    neighbours_both (Began E done) (Ends E todo) (λ a b. gap w (E a) (E b) z <ℤ pos 0) xs
    (λ a b ka kb p q. strict_order w E done todo z a b Z (rises a ka) (rises b kb) p q past coming)
    ps qs

module _ (w : ℤ) (m : ℕ) (E : ℕ → Edge) (steps : List Step) (swept : WeighedRun w m E steps) where
  at_cut : (k : ℕ) (done todo : List Step) → IsCut steps k done todo
      → WeighedRun w m E (onto done todo)
  at_cut k done todo c = subst (λ (s : List Step). WeighedRun w m E s) (sym c.whole) swept

  here : (k e : ℕ) (done todo : List Step) → IsCut steps k done todo → Has e (list_after [] steps k)
      → Has e (live done)
  here k e done todo c n = subst (λ (es : List ℕ). Has e es) (sym c.now) n

  -- ---- live edges
  live_edge : (k e : ℕ) → k ≤ length steps → Has e (list_after [] steps k) → e < m
  live_edge k e h n =
      let c = cut_at steps k h in
      let i = moment w m E c.0 c.1 (at_cut k c.0 c.1 c.2) in
      (live_started m E c.0 e i.done_good (here k e c.0 c.1 c.2 n)).0

  begun : (k e : ℕ) → k ≤ length steps → Has e (list_after [] steps k)
      → (j : ℕ) × (j < k) × ((nth steps j).at ≡ (E e).low)
  begun k e h n =
      let c = cut_at steps k h in
      let i = moment w m E c.0 c.1 (at_cut k c.0 c.1 c.2) in
      let a = (live_started m E c.0 e i.done_good (here k e c.0 c.1 c.2 n)).1 in
      let j = c.2.early a.0 a.1 in
      (j.0, j.1, ap (λ (s : Step). s.at) j.2 ∙ sym a.2)

  open_still : (k e : ℕ) → k ≤ length steps → Has e (list_after [] steps k)
      → (j : ℕ) × (k ≤ j) × (j < length steps) × ((nth steps j).at ≡ (E e).high)
  open_still k e h n =
      let c = cut_at steps k h in
      let i = moment w m E c.0 c.1 (at_cut k c.0 c.1 c.2) in
      let a = live_ends m E (live c.0) c.1 e i.todo_good (here k e c.0 c.1 c.2 n) in
      let j = late steps k c.0 c.1 c.2 a.0 a.1 in
      (j.0, j.1, j.2, ap (λ (s : Step). s.at) j.3 ∙ sym a.2)

  alive : (k e i j : ℕ) → e < m → i < k → (nth steps i).at ≡ (E e).low → k ≤ j → j < length steps
      → (nth steps j).at ≡ (E e).high → Has e (list_after [] steps k)
  alive k e i j l a low b h high =
      let c = cut_at steps k (omega arith) in
      let o = moment w m E c.0 c.1 (at_cut k c.0 c.1 c.2) in
      let first : AtSome (E e).low c.0 = (nth steps i, c.2.passed i a, sym low) in
      let last : AtSome (E e).high c.1 = (nth steps j, comes steps k c.0 c.1 c.2 j b h, sym high) in
      subst (λ (es : List ℕ). Has e es) c.2.now
      (is_live m E c.0 e l o.done_good first (not_done w m E c.0 c.1 (E e).high o last))

  -- ---- order inside a strip
  ordered : (k : ℕ) (z : Vector) → k ≤ length steps → Place z
      → IsBetweenEvents (replay w m E steps) k z
      → IsOrdered (replay w m E steps) z (list_after [] steps k)
  ordered k z h Z inside =
      let c = cut_at steps k h in
      let done = c.0 in
      let todo = c.1 in
      let o = moment w m E done todo (at_cut k done todo c.2) in
      subst (λ (es : List ℕ). IsOrdered (replay w m E steps) z es) c.2.now
      (ordered_list w E done todo z (live done) Z (live_rises w m E done todo o)
      (begins m E done o.done_good) (ends m E (live done) todo o.todo_good)
      (each_from (λ s. (sweep w (point s.at) *ℤ z.n) <ℤ sweep w z) done
      (λ s n. let j = c.2.early s n in
      subst (λ (t : Step). (sweep w (point t.at) *ℤ z.n) <ℤ sweep w z) j.2
      (inside.from j.0 j.1)))
      (each_from (λ s. sweep w z <ℤ (sweep w (point s.at) *ℤ z.n)) todo
      (λ s n. let j = late steps k done todo c.2 s n in
      subst (λ (t : Step). sweep w z <ℤ (sweep w (point t.at) *ℤ z.n)) j.3
      (inside.to j.0 j.1 j.2))))

  -- ---- the moment of a step
  pub record IsAtStep (k : ℕ) (done : List Step) (s : Step) (todo : List Step) : Type 0 where
    pub is : s ≡ nth steps k
    pub all : WeighedRun w m E (onto done (s ∷ todo))

  pub at_step : (k : ℕ) → k < length steps
      → (done : List Step) × (s : Step) × (todo : List Step) × IsAtStep k done s todo
  at_step k h = let c = cut_at steps k (omega arith) in split c.0 c.1 c.2
    where
      split : (done todo : List Step) → IsCut steps k done todo
          → (d : List Step) × (s : Step) × (t : List Step) × IsAtStep k d s t
      split done [] c = let size = c.size in absurd (omega (arith, size, h))
      split done (s ∷ todo) c = (
        done,
        s,
        todo,
        record {
          is = c.rest 0 (omega arith) ∙ ap (nth steps) (omega arith);
          all = at_cut k done (s ∷ todo) c;
        },
      )

  -- ---- order at an event
  strictly : (a b : ℤ) → a <ℤ b → (a *ℤ pos 1) <ℤ b
  strictly a b l = omega (arith, ints)

  strictly_back : (a b : ℤ) → a <ℤ b → a <ℤ (b *ℤ pos 1)
  strictly_back a b l = omega (arith, ints)

  ordered_at : (done : List Step) (s : Step) (todo : List Step)
      → WeighedRun w m E (onto done (s ∷ todo))
      → IsOrdered (replay w m E steps) (point s.at) s.below
      × IsOrdered (replay w m E steps) (point s.at) s.above
  ordered_at done s todo all =
      let z = point s.at in
      let o = moment w m E done (s ∷ todo) all in
      let i = moment w m E (s ∷ done) todo all in
      let p = untouched_began w m E done todo s o in
      let q = untouched_ends w m E done todo s o in
      let u = untouched_rises w m E done todo s o in
      let past : Each (λ t. (sweep w (point t.at) *ℤ pos 1) <ℤ sweep w z) done = each_from
      (λ t. (sweep w (point t.at) *ℤ pos 1) <ℤ sweep w z) done
      (λ t n. strictly (sweep w (point t.at)) (sweep w z) (o.cut t s n (inl refl))) in
      let coming : Each (λ t. sweep w z <ℤ (sweep w (point t.at) *ℤ pos 1)) todo = each_from
      (λ t. sweep w z <ℤ (sweep w (point t.at) *ℤ pos 1)) todo
      (λ t n. strictly_back (sweep w z) (sweep w (point t.at)) (i.cut s t (inl refl) n)) in
      let Z : Place z = omega (arith, ints) in (
        ordered_list w E done todo z s.below Z u.0 p.0 q.0 past coming,
        ordered_list w E done todo z s.above Z u.1 p.1 q.1 past coming,
      )

  ordered_below : (k : ℕ) → k < length steps
      → IsOrdered (replay w m E steps) (point (nth steps k).at) (nth steps k).below
  ordered_below k h =
      let a = at_step k h in
      subst (λ (s : Step). IsOrdered (replay w m E steps) (point s.at) s.below) a.3.is
      (ordered_at a.0 a.1 a.2 a.3.all).0

  ordered_above : (k : ℕ) → k < length steps
      → IsOrdered (replay w m E steps) (point (nth steps k).at) (nth steps k).above
  ordered_above k h =
      let a = at_step k h in
      subst (λ (s : Step). IsOrdered (replay w m E steps) (point s.at) s.above) a.3.is
      (ordered_at a.0 a.1 a.2 a.3.all).1

  -- ---- the edges below and above an event
  under : (k : ℕ) → k < length steps → (e : ℕ) → Has e (nth steps k).below
      → pos 0 <ℤ side (E e) (point (nth steps k).at)
  under k h e n =
      let a = at_step k h in
      let sides : Each (λ e. pos 0 <ℤ side (E e) (point (nth steps k).at)) (nth steps k).below =
      subst (λ (s : Step). Each (λ e. pos 0 <ℤ side (E e) (point s.at)) s.below) a.3.is
      (event_sides w m E a.0 a.2 a.1 a.3.all).0 in
      each_has (λ e. pos 0 <ℤ side (E e) (point (nth steps k).at)) (nth steps k).below e sides n

  over : (k : ℕ) → k < length steps → (e : ℕ) → Has e (nth steps k).above
      → side (E e) (point (nth steps k).at) <ℤ pos 0
  over k h e n =
      let a = at_step k h in
      let sides : Each (λ e. side (E e) (point (nth steps k).at) <ℤ pos 0) (nth steps k).above =
      subst (λ (s : Step). Each (λ e. side (E e) (point s.at) <ℤ pos 0) s.above) a.3.is
      (event_sides w m E a.0 a.2 a.1 a.3.all).1 in
      each_has (λ e. side (E e) (point (nth steps k).at) <ℤ pos 0) (nth steps k).above e sides n

  -- ---- places off the edges
  divided : (k : ℕ) (z : Vector) → Place z → IsOffEdges (replay w m E steps) z
      → IsStrip (replay w m E steps) k z → Divides E z (list_after [] steps k)
  divided k z Z off strip =
      let c = cut_at steps k strip.fits in
      let done = c.0 in
      let todo = c.1 in
      let i : IsAt w done todo z = record {
        passed = each_from (λ s. (sweep w (point s.at) *ℤ z.n) ≤ℤ sweep w z) done
            (λ s n. let j = c.2.early s n in
            subst (λ (t : Step). (sweep w (point t.at) *ℤ z.n) ≤ℤ sweep w z) j.2
            (strip.from j.0 j.1));
        coming = each_from (λ s. sweep w z <ℤ (sweep w (point s.at) *ℤ z.n)) todo
            (λ s n. let j = late steps k done todo c.2 s n in
            subst (λ (t : Step). sweep w z <ℤ (sweep w (point t.at) *ℤ z.n)) j.3
            (strip.to j.0 j.1 j.2));
      } in
      subst (λ (es : List ℕ). Divides E z es) c.2.now
      (place_divides w m E done todo z (at_cut k done todo c.2) i Z off)

  -- the laws of a swept run, by numbers
  pub swept_lawful : IsLawful (replay w m E steps)
  swept_lawful = record {
    live = live_edge;
    begun = begun;
    open_still = open_still;
    alive = alive;
    ordered = ordered;
    ordered_below = ordered_below;
    ordered_above = ordered_above;
    under = under;
    over = over;
    divided = divided;
  }
