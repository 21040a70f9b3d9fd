-- A part of a list that is read place by place.
use Rattle.std.proofs.Common.{◌≡◌, ℕ, ◌+◌, ◌-◌, ◌<◌, ◌≤◌, List, length, take, drop, get_or, arith}
use Rattle.std.proofs.Common.{ap, sym, ◌∙◌, subst, below_more}
use Rattle.std.proofs.lemmas.List.{get_or-drop, get_or-take, length-drop, length-take-le}
use Rattle.std.proofs.lemmas.List.{length-take}
use Rattle.plane.specs.Lists.{Has}
use Rattle.certificate_checker.proofs.ListParts.{by_index}
use Rattle.certificate_checker.proofs.PlaneLaws.{has_at}

module _ (live : List ℕ) (from upto place : ℕ) (l : from ≤ place) (u : place < upto)
    (w : upto ≤ length live) (v : ℕ) (r : v ≡ get_or live place 0) where
  at_part : get_or (take (upto - from) (drop from live)) (place - from) 0 ≡ v
  at_part =
      let n : from + (place - from) ≡ place = omega (arith, l) in
      get_or-take (upto - from) (drop from live) (place - from) 0 (omega (arith, l, u))
      ∙ get_or-drop from live (place - from) 0 ∙ ap (λ (i : ℕ). get_or live i 0) n ∙ sym r

  pub in_part : Has v (take (upto - from) (drop from live))
  in_part =
      let a = length-drop from live in
      let b = length-take-le (upto - from) (drop from live) (omega (arith, a, w)) in
      subst (λ (e : ℕ). Has e (take (upto - from) (drop from live))) at_part
      (has_at (take (upto - from) (drop from live)) (place - from) 0 (omega (arith, b, l, u)))

  pub part_more : (P : ℕ → Type 0)
      → ((k : ℕ) → k < place - from → P (get_or (take (upto - from) (drop from live)) k 0)) → P v
      → (k : ℕ) → k < (place + 1) - from → P (get_or (take (upto - from) (drop from live)) k 0)
  part_more P f p k m =
      below_more (λ (i : ℕ). P (get_or (take (upto - from) (drop from live)) i 0)) (place - from) f
      (subst P (sym at_part) p) k (omega (arith, m, l))

pub part_all : (live : List ℕ) (from upto place : ℕ) (P : ℕ → Type 0) → upto ≤ place
    → ((k : ℕ) → k < place - from → P (get_or (take (upto - from) (drop from live)) k 0))
    → (e : ℕ) → Has e (take (upto - from) (drop from live)) → P e
part_all live from upto place P t f =
    by_index P (take (upto - from) (drop from live))
    (λ k l. f k (let n = length-take (upto - from) (drop from live) in omega (arith, n, l, t)))
