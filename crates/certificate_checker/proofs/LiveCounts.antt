-- The most edges that are live at a time.
use Rattle.std.proofs.Common.{◌≡◌, ℕ, ◌+◌, ◌-◌, ◌^◌, ◌<◌, ◌≤◌, min, max, List, length, get_or}
use Rattle.std.proofs.Common.{arith, add-one, sym, subst}
use Rattle.plane.specs.Runs.Timetables.{Timed, no_event}
use Rattle.certificate_checker.specs.LiveLists.{live_count}
use Rattle.certificate_checker.proofs.Entries.{by_lt}

-- one event more
module _ (table : List Timed) (k live most left now more e n : ℕ)
    (ending : e ≡ length (get_or table k no_event).ending)
    (starting : n ≡ length (get_or table k no_event).starting) (left_is : left ≡ live - e)
    (now_is : now ≡ min (left + n) (2 ^ 64 - 1)) (more_is : more ≡ max most now)
    (counted : most < 2 ^ 64 - 1 → live ≡ live_count table k) where
  pub count_next : more < 2 ^ 64 - 1 → now ≡ live_count table (k + 1)
  count_next l =
      let c = counted (omega (arith, l, more_is)) in
      subst (λ (i : ℕ). now ≡ live_count table i) (sym (add-one k))
      (omega (arith, c, ending, starting, left_is, now_is, more_is, l))

  pub most_next : (most < 2 ^ 64 - 1 → (j : ℕ) → j ≤ k → live_count table j ≤ most)
      → more < 2 ^ 64 - 1 → (j : ℕ) → j ≤ k + 1 → live_count table j ≤ more
  most_next f l j w =
      by_lt j (k + 1)
      (λ (b : j < k + 1). let r = f (omega (arith, l, more_is)) j (omega (arith, b)) in
      omega (arith, r, more_is))
      (λ (b : k + 1 ≤ j). subst (λ (i : ℕ). live_count table i ≤ more) (last j b w)
      (let c = count_next l in omega (arith, c, more_is)))
    where
      last : (j : ℕ) → k + 1 ≤ j → j ≤ k + 1 → k + 1 ≡ j
      last j b w = omega (arith, b, w)
