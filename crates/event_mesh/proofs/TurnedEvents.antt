-- Events are turned one after another.
use Rattle.std.proofs.Common.{◌≡◌, ◌↔◌, ℕ, zero, suc, ℤ, ◌<◌, ◌≤◌, ◌+◌, ◌*◌, ◌^◌, List, length}
use Rattle.std.proofs.Common.{slice_index, refl, arith, ap, sym, ◌∙◌, subst, inl, inr}
use Rattle.std.proofs.lemmas.Bool.{cases_lt}
use Rattle.plane.specs.declared.kinds.Edge.{Edge}
use Rattle.plane.specs.Lists.{Has}
use Rattle.plane.specs.Runs.Steps.{Step, GoodStep, Run}
use Rattle.plane.specs.Runs.Sweeps.{IsEventList}
use Rattle.plane.specs.Faces.Halves.{Half, under, over, edge_of, number, half_of}
use Rattle.plane.specs.Faces.Classes.{Next}
use Rattle.plane.specs.Faces.Directions.{origin}
use Rattle.plane.specs.Faces.FanNumbers.{fan_numbers, place_before}
use Rattle.plane.specs.Faces.Replays.{replay}
use Rattle.plane.proofs.ListLemmas.SortedLists.{has_at}
use Rattle.plane.proofs.Turning.FanNumbers.{number_below, below_number, fan_is, numbers_once}
use Rattle.plane.proofs.Turning.FanNumbers.{numbers_in, in_numbers, next_number_is}
use Rattle.plane.proofs.Turning.Numbering.{number_half}
use Rattle.half_edges.specs.HalfEdges.{HalfEdges, next_of, origin_of}
use Rattle.half_edges.specs.Stars.{IsStar, IsLoose, IsLinked, center, before}
use Rattle.half_edges.proofs.Elsewhere.{star_stays, turned_elsewhere, turns_elsewhere}
use Rattle.event_mesh.specs.Built.{IsMeshOf}
use Rattle.event_mesh.specs.Fans.{AreFew, CanTurn, fan_of}
use Rattle.event_mesh.specs.Turned.{IsEvent, IsEventAt, IsTurned, IsTurnedAt, points_of, nth_step}
use Rattle.event_mesh.proofs.Apart.{events_apart, point_has}

-- ---- no event is turned yet
pub begin : (E : ℕ → Edge) (steps : List Step) (events : ℕ) (low high : List ℕ) (mesh : HalfEdges)
    → IsMeshOf events low high (length low) mesh
    → ((e : ℕ) → e < length low → IsEventAt steps (slice_index low e) (E e).low)
    → ((e : ℕ) → e < length low → IsEventAt steps (slice_index high e) (E e).high)
    → IsTurned (length low) E steps mesh 0
begin E steps events low high mesh is lows highs = record {
  count = is.size;
  begins = at;
  stars = λ j l. absurd (omega (arith, l));
  loose = λ h l b. is.unlinked.alone h l;
}
  where
    at : (h : Half) → edge_of h < length low
        → IsEventAt steps (origin_of mesh (number h)) (origin E h)
    at (under e) l =
        let n : e + e ≡ 2 * e = omega arith in
        subst (λ (k : ℕ). IsEventAt steps k (E e).high)
        (sym (ap (λ (i : ℕ). origin_of mesh i) n ∙ is.highs e l)) (highs e l)
    at (over e) l =
        let n : suc (e + e) ≡ 2 * e + 1 = omega arith in
        subst (λ (k : ℕ). IsEventAt steps k (E e).low)
        (sym (ap (λ (i : ℕ). origin_of mesh i) n ∙ is.lows e l)) (lows e l)

module _ (m : ℕ) (E : ℕ → Edge) (steps : List Step)
    (events : IsEventList m E (points_of steps)) where
  -- ---- the half-edges of an event
  -- a number of an event's list is that of a half-edge that begins there
  number_of : (k i : ℕ) → GoodStep m E (nth_step steps k)
      → i < length (fan_numbers (nth_step steps k))
      → (h : Half) × (edge_of h < m) × (origin E h ≡ (nth_step steps k).at)
      × (number h ≡ slice_index (fan_numbers (nth_step steps k)) i)
  number_of k i good l =
      let n = slice_index (fan_numbers (nth_step steps k)) i in
      let is = (fan_is m E (nth_step steps k) good (half_of n)).0
      (numbers_in (nth_step steps k) i l) in
      (half_of n, is.0, is.1, number_half n)

  filled : (k : ℕ) → k < length steps → GoodStep m E (nth_step steps k)
      → 0 < length (fan_numbers (nth_step steps k))
  filled k l good =
      let (e, b, q) = events.events (nth_step steps k).at (point_has steps k l) in
      elim q [
        | inl low ↦ (let (i, c, w) = in_numbers (nth_step steps k) (over e)
            ((fan_is m E (nth_step steps k) good (over e)).1 (b, low)) in omega (arith, c))
        | inr high ↦
            (let (i, c, w) = in_numbers (nth_step steps k) (under e)
            ((fan_is m E (nth_step steps k) good (under e)).1 (b, high)) in omega (arith, c))
      ]

  module _ (mesh : HalfEdges) (n : ℕ) (is : IsTurned m E steps mesh n) (k : ℕ)
      (l : k < length steps) (good : GoodStep m E (nth_step steps k)) where
    around : List ℕ
    around = fan_numbers (nth_step steps k)

    -- a half-edge begins at the event's vertex exactly where it begins at its point
    vertex_is : (h : Half) → edge_of h < m → origin E h ≡ (nth_step steps k).at
        → origin_of mesh (number h) ≡ k
    vertex_is h b e =
        let a = is.begins h b in
        events_apart steps (origin_of mesh (number h)) k events.rises a.within l (a.point ∙ e)

    point_is : (h : Half) → edge_of h < m → origin_of mesh (number h) ≡ k
        → origin E h ≡ (nth_step steps k).at
    point_is h b e = sym (is.begins h b).point ∙ ap (λ (j : ℕ). (nth_step steps j).at) e

    begins_there : (i : ℕ) → i < length (fan_numbers (nth_step steps k))
        → origin_of mesh (slice_index (fan_numbers (nth_step steps k)) i) ≡ k
    begins_there i b =
        let (h, c, p, q) = number_of k i good b in
        ap (λ (j : ℕ). origin_of mesh j) (sym q) ∙ vertex_is h c p

    pub event_center : center mesh (fan_numbers (nth_step steps k)) ≡ k
    event_center = begins_there 0 (filled k l good)

    pub event_star : IsStar mesh (fan_numbers (nth_step steps k))
    event_star = record {
      filled = filled k l good;
      within = λ i b. let (h, c, p, q) = number_of k i good b in let w = number_below h m c in
          let z = is.count in omega (arith, q, w, z);
      start = λ i b. begins_there i b ∙ sym event_center;
      once = record {
        apart = λ i j a b e. numbers_once m E
            (nth_step steps k) events.edges good i j a b e;
      };
      whole = λ h b e.
          let q = number_half h in
          let z = is.count in
          let c : edge_of (half_of h) < m = below_number (half_of h) m (omega (arith, b, z, q)) in
          let p = point_is (half_of h) c (ap (λ (j : ℕ). origin_of mesh j) q ∙ e ∙ event_center) in
          let (i, d, w) = in_numbers (nth_step steps k) (half_of h)
          ((fan_is m E (nth_step steps k) good (half_of h)).1 (c, p)) in
          (i, d, w ∙ q);
    }

  module _ (mesh : HalfEdges) (k : ℕ) (is : IsTurned m E steps mesh k) (starting ending : List ℕ)
      (event : IsEvent m E steps k starting ending) where
    event_loose : IsLoose mesh (fan_numbers (nth_step steps k))
    event_loose =
        let star = event_star mesh k is k event.within event.good in
        record {
          alone = λ i b.
              let c = star.start i b ∙ event_center mesh k is k event.within event.good in
              is.loose (slice_index (fan_numbers (nth_step steps k)) i) (star.within i b)
              (omega (arith, c));
        }

    fan_same : fan_numbers (nth_step steps k) ≡ fan_of starting ending
    fan_same = ap (λ (xs : List ℕ). fan_of xs (nth_step steps k).ending) event.starting
        ∙ ap (λ (xs : List ℕ). fan_of starting xs) event.ending

    few : (es : List ℕ) → m ≤ 2 ^ 31 → ((e : ℕ) → Has e es → e < m) → AreFew es
    few es b h i l = let c = h (slice_index es i) (has_at es i 0 l) in omega (arith, b, c)

    pub can_turn : m ≤ 2 ^ 31 → CanTurn mesh starting ending
    can_turn b = record {
      few_starting =
          few starting b
          (λ e h. (event.good.starting_only e
          (subst (λ (xs : List ℕ). Has e xs) (sym event.starting) h)).0);
      few_ending =
          few ending b
          (λ e h. (event.good.ending_only e
          (subst (λ (xs : List ℕ). Has e xs) (sym event.ending) h)).0);
      star = subst (λ (xs : List ℕ). IsStar mesh xs) fan_same
          (event_star mesh k is k event.within event.good);
      loose = subst (λ (xs : List ℕ). IsLoose mesh xs) fan_same event_loose;
    }

    module _ (new : HalfEdges) (linked : IsLinked mesh new (fan_numbers (nth_step steps k))) where
      star : IsStar mesh (fan_numbers (nth_step steps k))
      star = event_star mesh k is k event.within event.good

      middle : center mesh (fan_numbers (nth_step steps k)) ≡ k
      middle = event_center mesh k is k event.within event.good

      origin_same : (h : ℕ) → origin_of new h ≡ origin_of mesh h
      origin_same h = ap (λ (xs : List ℕ). slice_index xs h) linked.origins

      earlier : (j : ℕ) → j < k → IsTurnedAt mesh j (fan_numbers (nth_step steps j))
          → IsTurnedAt new j (fan_numbers (nth_step steps j))
      earlier j l at = record {
        star = star_stays mesh new (fan_numbers (nth_step steps k))
            (fan_numbers (nth_step steps j)) linked at.star;
        event = origin_same (slice_index (fan_numbers (nth_step steps j)) 0) ∙ at.event;
        turns = turns_elsewhere mesh new (fan_numbers (nth_step steps k))
            (fan_numbers (nth_step steps j)) star linked at.star
            (λ e. let a = at.event in let b = middle in omega (arith, l, a, b, e)) at.turns;
      }

      here : IsTurnedAt new k (fan_numbers (nth_step steps k))
      here = record {
        star = star_stays mesh new (fan_numbers (nth_step steps k))
            (fan_numbers (nth_step steps k)) linked star;
        event = origin_same (slice_index (fan_numbers (nth_step steps k)) 0) ∙ middle;
        turns = record { turns = linked.links.next_is };
      }

      one_turned_more : IsTurned m E steps new (suc k)
      one_turned_more =
          let long = linked.links.next_length in
          record {
            count = long ∙ is.count;
            begins = λ h b. subst (λ (j : ℕ). IsEventAt steps j (origin E h))
                (sym (origin_same (number h))) (is.begins h b);
            stars = λ j l. elim (cases_lt j k) [
              | inl b ↦ earlier j b (is.stars j b)
              | inr b ↦ (let e : k ≡ j = omega (arith, l, b) in
                  subst (λ (i : ℕ). IsTurnedAt new i (fan_numbers (nth_step steps i))) e here)
            ];
            loose = λ h l b.
                let a = origin_same h in
                let c = middle in
                turned_elsewhere mesh new (fan_numbers (nth_step steps k)) h star linked
                (λ e. omega (arith, a, b, c, e))
                ∙ is.loose h (omega (arith, l, long)) (omega (arith, a, b));
          }

    pub turned_more : (new : HalfEdges) → IsLinked mesh new (fan_of starting ending)
        → IsTurned m E steps new (suc k)
    turned_more new linked =
        one_turned_more new (subst (λ (xs : List ℕ). IsLinked mesh new xs) (sym fan_same) linked)

-- ---- all events are turned
before_same : (n k : ℕ) → before n k ≡ place_before n k
before_same n zero = refl
before_same n (suc k) = refl

pub next_is : (w : ℤ) (m : ℕ) (E : ℕ → Edge) (steps : List Step) (mesh : HalfEdges) (h g : Half)
    → Run m E steps → IsTurned m E steps mesh (length steps) → edge_of h < m
    → (next_of mesh (number h) ≡ number g) ↔ Next (replay w m E steps) h g
next_is w m E steps mesh h g run is l =
    next_number_is w m E steps run (next_of mesh)
    (λ k b i c. (is.stars k b).turns.turns i c
    ∙ ap (λ (j : ℕ). slice_index (fan_numbers (nth_step steps k)) j)
    (before_same (length (fan_numbers (nth_step steps k))) i)) h g l
