-- What claims that prove a drawing count: their notes, positions and places.
use Rattle.std.proofs.Common.{◌≡◌, ℕ, suc, ◌*◌, ◌^◌, ◌<◌, ◌≤◌, inl, inr, List, [], ◌∷◌, length, map}
use Rattle.std.proofs.Common.{arith, refl, ap, sym, ◌∙◌, subst}
use Rattle.std.proofs.lemmas.List.{length-map}
use Rattle.plane.specs.declared.kinds.Edge.{Edge}
use Rattle.plane.specs.declared.kinds.Point.{Point}
use Rattle.plane.specs.Faces.Directions.{origin}
use Rattle.plane.specs.Faces.Halves.{half_of, number, over, under}
use Rattle.plane.specs.Forms.Vectors.{Before}
use Rattle.plane.specs.Lists.{Has, Once}
use Rattle.plane.specs.Rule.Plans.{Plan}
use Rattle.plane.specs.Runs.Sweeps.{IsEventList}
use Rattle.plane.specs.Runs.Timetables.{Timed, IsTimetable}
use Rattle.plane.proofs.ListLemmas.SortedLists.{room, sorted_once}
use Rattle.tubes.specs.FewEdges.{HasFewEdges}
use Rattle.tubes.specs.Settled.{edges_at}
use Rattle.tubes.specs.TubedEdges.{IsTubedList}
use Rattle.tubes.specs.declared.kinds.EdgeList.{EdgeList}
use Rattle.certificate_checker.specs.Subjects.{Claims}
use Rattle.certificate_checker.specs.Verdicts.{Proves}
use Rattle.certificate_checker.proofs.PlaneLaws.{before_trans, half_number, never, number_below}

-- ---- a list of values of a function below m that repeats none has at most m
module _ {X : Type 0} (f : ℕ → X) (m : ℕ) where
  abbrev Numbered : List X → Type 0
  Numbered xs = (x : X) → Has x xs → (n : ℕ) × (n < m) × (f n ≡ x)

  abbrev numbers : (xs : List X) → Numbered xs → List ℕ
  numbers [] g = []
  numbers (x ∷ xs) g = (g x (inl refl)).0 ∷ numbers xs (λ y h. g y (inr h))

  numbers_size : (xs : List X) (g : Numbered xs) → length (numbers xs g) ≡ length xs
  numbers_size [] g = refl
  numbers_size (x ∷ xs) g = ap (λ (n : ℕ). suc n) (numbers_size xs (λ y h. g y (inr h)))

  number_of : (xs : List X) (g : Numbered xs) (n : ℕ) → Has n (numbers xs g)
      → (n < m) × Has (f n) xs
  number_of [] g n h = absurd h
  number_of (x ∷ xs) g n (inl e) =
      let (k, l, q) = g x (inl refl) in (omega (arith, e, l), inl (ap f e ∙ q))
  number_of (x ∷ xs) g n (inr h) = let (l, k) = number_of xs (λ y i. g y (inr i)) n h in (l, inr k)

  numbers_once : (xs : List X) (g : Numbered xs) → Once xs → Once (numbers xs g)
  numbers_once [] g o = tt
  numbers_once (x ∷ xs) g o =
      let (k, l, q) = g x (inl refl) in (
        (λ h. o.0 (subst (λ (y : X). Has y xs) q (number_of xs (λ y i. g y (inr i)) k h).1)),
        numbers_once xs (λ y i. g y (inr i)) o.1,
      )

  at_most : (xs : List X) → Numbered xs → Once xs → length xs ≤ m
  at_most xs g o =
      let r = room m (numbers xs g) (numbers_once xs g o) (λ n h. (number_of xs g n h).0) in
      let n = numbers_size xs g in
      omega (arith, r, n)

-- ---- there are at most two events an edge
numbered : (m : ℕ) (E : ℕ → Edge) (pts : List Point) → IsEventList m E pts
    → Numbered (λ n. origin E (half_of n)) (2 * m) pts
numbered m E pts events p h =
    let (e, l, q) = events.events p h in
    elim q [
      | inl low ↦ (
        number (over e),
        number_below (over e) m l,
        ap (origin E) (half_number (over e))
            ∙ low,
      )
      | inr high ↦ (
        number (under e),
        number_below (under e) m l,
        ap (origin E) (half_number (under e)) ∙ high,
      )
    ]

two_an_edge : (m : ℕ) (E : ℕ → Edge) (table : List Timed) → IsTimetable m E table
    → length table ≤ 2 * m
two_an_edge m E table t =
    let pts = map (λ (t : Timed). t.at) table in
    let once : Once pts = sorted_once Before (λ p. Unit {0}) (λ p u b. never p b)
    (λ p q r a b c l n. before_trans p q r l n) pts (λ p i. tt) t.events.rises in
    let l = at_most (λ n. origin E (half_of n)) (2 * m) pts (numbered m E pts t.events) once in
    let n = length-map table (λ (t : Timed). t.at) in
    omega (arith, l, n)

-- ---- the edges of a drawing that has few
pub listed_few : (d : Plan) (level : ℕ) (list : EdgeList) → HasFewEdges d → level ≤ 5
    → IsTubedList d (λ n. level) list → length list.edges.items < 2 ^ 31
listed_few d level list few low l =
    subst (λ es. length es < 2 ^ 31) (sym l.edges) (few (λ n. level) (λ n. low) l.tubes)

-- ---- the counts of claims that prove a drawing of few edges
module _ (d : Plan) (c : Claims) (h : Proves d c) (few : HasFewEdges d) where
  edges_fit : length (edges_at d (λ n. c.level)) < 2 ^ 31
  edges_fit = few (λ n. c.level) (λ n. h.rules.counts.edges.low) h.rules.counts.edges.tubes

  pub positions_fit : length c.positions < 2 ^ 32
  positions_fit =
      let t = two_an_edge _ _ h.table h.is_table in
      let e = edges_fit in
      let p = h.rules.counts.positions in
      omega (arith, t, e, p)

  pub notes_fit : length c.notes < 2 ^ 32
  notes_fit =
      let e = edges_fit in
      let n = h.rules.counts.notes in
      omega (arith, e, n)
