-- Two neighbours of a live list under way are different edges, before a step and after it.
use Rattle.std.proofs.Common.{◌≡◌, ℕ, ◌<◌, ◌≤◌, ◌⊎◌, inl, inr, List, ◌∷◌, length}
use Rattle.plane.specs.declared.kinds.Point.{Point}
use Rattle.plane.specs.Forms.Vectors.{Edge}
use Rattle.plane.specs.Lists.{Neighbours, Has, Once}
use Rattle.plane.specs.Runs.Steps.{Step, AtSome, after, live}
use Rattle.plane.specs.Forms.Meets.{Disjoint, Touch, Fine}
use Rattle.plane.specs.Runs.Sweeps.{Made, IsUnderWay}
use Rattle.plane.proofs.Sweep.Meets.{apart_fine, touch_fine}
use Rattle.plane.proofs.Runs.LiveEdges.{live_started}
use Rattle.plane.proofs.ListLemmas.SortedLists.{room}
use Rattle.plane.proofs.Sweep.SweepEnd.{ready}
use Rattle.plane.proofs.Sweep.Fans.{front_once}
use Rattle.plane.proofs.Sweep.SweepTests.{once_neighbours, by_difference}

pub is_fine : (a b : Edge) → Disjoint a b ⊎ Touch a b → Fine a b
is_fine a b (inl h) = apart_fine a b h
is_fine a b (inr h) = touch_fine a b h

-- ---- what a sweep under way knows of its live list
module _ (m : ℕ) (E : ℕ → Edge) (pts : List Point) (done : List Step) where
  pub known_live : (coming : List Point) (e : ℕ) → IsUnderWay m E pts done coming
      → Has e (live done) → (e < m) × AtSome (E e).low done × Has (E e).high coming
  known_live coming e u k =
      let s = live_started m E done e u.front.replayed k in (s.0, s.1, u.front.late e k)

  pub once_live : (v : Point) (coming : List Point) → IsUnderWay m E pts done (v ∷ coming)
      → Once (live done)
  once_live v coming u =
      front_once u.weight m E pts done v coming (ready u.weight m E pts u.heavy u.ends) u.front

  pub room_live : (v : Point) (coming : List Point) → IsUnderWay m E pts done (v ∷ coming)
      → length (live done) ≤ m
  room_live v coming u =
      room m (live done) (once_live v coming u) (λ e k. (known_live (v ∷ coming) e u k).0)

pub neighbours_differ : (m : ℕ) (E : ℕ → Edge) (pts : List Point) (done : List Step) (s : Step)
    (coming : List Point)
    → IsUnderWay m E pts done (s.at ∷ coming) → Made m E (live done) s → Once s.starting
    → Neighbours (λ a b. a ≡ b → ⊥) (after s)
neighbours_differ m E pts done s coming u made once =
    let D : ℕ → ℕ → Type 0 = λ a b. a ≡ b → ⊥ in
    let r = ready u.weight m E pts u.heavy u.ends in
    let old : Neighbours D (live done) = once_neighbours D (live done)
    (front_once u.weight m E pts done s.at coming r u.front) (λ a b i j n. n) in
    by_difference D u.weight m E pts done s coming r u.front made once (λ a b la lb n. n) old
