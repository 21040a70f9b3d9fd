-- A list that holds the half-edges over the starting edges and under the ending ones is the fan.
use Rattle.std.proofs.Common.{◌≡◌, ℕ, suc, ◌<◌, ◌≤◌, ◌+◌, ◌-◌, List, ◌++◌, length, take, drop}
use Rattle.std.proofs.Common.{subst, slice_index, arith, ap, sym, ◌∙◌, inl, inr}
use Rattle.std.proofs.lemmas.Bool.{cases_lt}
use Rattle.std.proofs.lemmas.List.{ext_get_or, length-take-le}
use Rattle.std.proofs.Math.Seq.{take-append_seam}
use Rattle.plane.specs.Faces.Replays.{no_step}
use Rattle.plane.proofs.Turning.FanNumbers.{fan_length, over_at, under_at}
use Rattle.event_mesh.specs.Fans.{fan_of, IsOver, IsUnder}

pub fan_size : (starting ending : List ℕ)
    → length (fan_of starting ending) ≡ length starting + length ending
fan_size starting ending = fan_length (record no_step { starting = starting; ending = ending })

pub fan_is : (starting ending before fan : List ℕ) → length fan ≡ length starting + length ending
    → IsOver starting before (length starting)
    → ((i : ℕ) → i + length ending < length fan → slice_index fan i ≡ slice_index before i)
    → IsUnder ending fan (length ending) → fan ≡ fan_of starting ending
fan_is starting ending before fan long over kept under =
    let s = record no_step { starting = starting; ending = ending } in
    ext_get_or 0 fan (fan_of starting ending) (long ∙ sym (fan_size starting ending))
    (λ i l. elim (cases_lt i (length starting)) [
      | inl b ↦ kept i (omega (arith, b, long)) ∙ over.each i b ∙ sym (over_at s i b)
      | inr c ↦ (
          let k = i - length starting in
          let j = length fan - 1 - i in
          let p : length starting + k ≡ i = omega (arith, c) in
          let q : k + suc j ≡ length ending = omega (arith, c, l, long) in
          under.each i j (omega (arith, q)) (omega (arith, l)) ∙ sym (under_at s k j q)
          ∙ ap (λ (n : ℕ). slice_index (fan_of starting ending) n) p)
    ])

-- the same, of a list of which only the first places were written
pub fan_whole : (starting ending fan over under : List ℕ)
    → length starting + length ending ≤ length fan
    → length over ≡ length (take (length starting + length ending) fan)
    → length under
    ≡ length (take (length starting + length ending)
    (over ++ drop (length starting + length ending) fan))
    → IsOver starting over (length starting)
    → ((i : ℕ) → i + length ending < length
    (take (length starting + length ending)
    (over ++ drop (length starting + length ending) fan))
    → slice_index under i ≡ slice_index
    (take (length starting + length ending)
    (over ++ drop (length starting + length ending) fan)) i)
    → IsUnder ending under (length ending)
    → take (length starting + length ending)
    (under ++ drop (length starting + length ending)
    (over ++ drop (length starting + length ending) fan)) ≡ fan_of starting ending
fan_whole starting ending fan over under room a b is kept written =
    let n = length starting + length ending in
    let x : length over ≡ n = a ∙ length-take-le n fan room in
    let front : take n (over ++ drop n fan) ≡ over = take_front over (drop n fan) n x in
    let y : length under ≡ n = b ∙ ap length front ∙ x in
    take_front under (drop n (over ++ drop n fan)) n y
    ∙ fan_is starting ending over under y is
    (λ i l. kept i (subst (λ (k : ℕ). i + length ending < k) b l)
    ∙ ap (λ (xs : List ℕ). slice_index xs i) front) written
  where
    take_front : (xs ys : List ℕ) (n : ℕ) → length xs ≡ n → take n (xs ++ ys) ≡ xs
    take_front xs ys n e = subst (λ (k : ℕ). take k (xs ++ ys) ≡ xs) e (take-append_seam xs ys)
