-- A sweep that is under way: the steps that are done, and the points of the events that are to
-- come.
-- A step is made from the live list by a cut, and neighbours are tested as they come together.
use Rattle.std.specs.Prelude.{◌≡◌, ℕ, ◌<◌, ℤ, pos, ◌<ℤ◌, ◌≤ℤ◌, ◌⊎◌, List, [], ◌∷◌}
use Rattle.plane.specs.declared.kinds.Point.{Point}
use Rattle.plane.specs.Forms.Vectors.{point, Edge, side, sweep, gap, Before}
use Rattle.plane.specs.Lists.{First, Last, Neighbours, Has}
use Rattle.plane.specs.Runs.Steps.{Step, before, after, Turns, live, Replayed}
use Rattle.plane.specs.Forms.Weights.{Weight}
use Rattle.plane.specs.Forms.Meets.{OnStraight, Fine, Bad}

-- the points are exactly the ends of the edges with numbers below m, by x, then y
pub record IsEventList (m : ℕ) (E : ℕ → Edge) (pts : List Point) : Type 0 where
  pub rises : Neighbours Before pts
  pub ends : (e : ℕ) → e < m → Has (E e).low pts × Has (E e).high pts
  pub events : (p : Point) → Has p pts → (e : ℕ) × (e < m) × (((E e).low ≡ p) ⊎ ((E e).high ≡ p))
  pub edges : (e : ℕ) → e < m → Before (E e).low (E e).high

-- the points of the steps that are done, the latest step first, and then those that are to come
abbrev pub trail : List Step → List Point → List Point
trail [] ps = ps
trail (s ∷ done) ps = trail done (s.at ∷ ps)

-- at p's sweep value a is strictly below b, or both start in p and b turns left from a
abbrev pub Lies : ℤ → (ℕ → Edge) → Point → ℕ → ℕ → Type 0
Lies w E p a b =
    (gap w (E a) (E b) (point p) <ℤ pos 0) ⊎ (((E a).low ≡ p) × ((E b).low ≡ p) × Turns E a b)

-- the live list is in order at the latest event, and no edge of it starts later
abbrev pub Ordered : ℤ → (ℕ → Edge) → List Step → Type 0
Ordered w E [] = Unit {0}
Ordered w E (s ∷ done) =
    Neighbours (Lies w E s.at) (after s)
    × ((e : ℕ) → Has e (after s) → sweep w (point (E e).low) ≤ℤ sweep w (point s.at))

-- two edges by number are not bad
abbrev pub FinePair : (ℕ → Edge) → ℕ → ℕ → Type 0
FinePair E a b = Fine (E a) (E b)

-- all is well so far: the steps that are done are good, with the edges in order and no bad
-- neighbours
pub record Front (w : ℤ) (m : ℕ) (E : ℕ → Edge) (pts : List Point) (done : List Step)
    (coming : List Point) : Type 0 where
  pub replayed : Replayed m E done
  pub is : trail done coming ≡ pts
  pub late : (e : ℕ) → Has e (live done) → Has (E e).high coming
  pub order : Ordered w E done
  pub fine : Neighbours (FinePair E) (live done)

-- the next event is on no live edge but as its end
abbrev pub Clear : (ℕ → Edge) → List ℕ → Point → Type 0
Clear E now p = (e : ℕ) → Has e now → OnStraight (E e) (point p) → (E e).high ≡ p

-- the step is made from the live list: cut where the sides at its point change, and with the edges
-- that start there by slope.
-- Only the edges beside a cut are asked for, so a binary search can give it
pub record Made (m : ℕ) (E : ℕ → Edge) (now : List ℕ) (s : Step) : Type 0 where
  pub is : now ≡ before s
  pub below_last : Last (λ e. pos 0 <ℤ side (E e) (point s.at)) s.below
  pub ending_first : First (λ e. side (E e) (point s.at) ≤ℤ pos 0) s.ending
  pub ending_last : Last (λ e. pos 0 ≤ℤ side (E e) (point s.at)) s.ending
  pub above_first : First (λ e. side (E e) (point s.at) <ℤ pos 0) s.above
  pub starting_only : (e : ℕ) → Has e s.starting → (e < m) × ((E e).low ≡ s.at)
  pub starting_all : (e : ℕ) → e < m → (E e).low ≡ s.at → Has e s.starting
  pub sorted : Neighbours (λ a b. pos 0 ≤ℤ side (E a) (point (E b).high)) s.starting

-- R holds of some two neighbours
abbrev pub SomeFirst : {X : Type 0} → (X → Type 0) → List X → Type 0
SomeFirst P [] = ⊥
SomeFirst P (x ∷ xs) = P x

abbrev pub SomeNeighbours : {X : Type 0} → (X → X → Type 0) → List X → Type 0
SomeNeighbours R [] = ⊥
SomeNeighbours R (x ∷ xs) = SomeFirst (R x) xs ⊎ SomeNeighbours R xs

-- the next event is on a live edge and not its end
pub record OnLive (E : ℕ → Edge) (now : List ℕ) (p : Point) : Type 0 where
  pub edge : ℕ
  pub lives : Has edge now
  pub on : OnStraight (E edge) (point p)
  pub no_end : (E edge).high ≡ p → ⊥

-- two neighbours after the step are bad
pub record BadAfter (m : ℕ) (E : ℕ → Edge) (now : List ℕ) (p : Point) : Type 0 where
  pub step : Step
  pub at : step.at ≡ p
  pub made : Made m E now step
  pub pair : SomeNeighbours (λ a b. Bad (E a) (E b)) (after step)

-- A sweep is under way: for some weight of the points all is well so far. This is what a sweep
-- keeps from event to event.
pub record IsUnderWay (m : ℕ) (E : ℕ → Edge) (pts : List Point) (done : List Step)
    (coming : List Point) : Type 0 where
  pub weight : ℤ
  pub heavy : Weight weight pts
  pub ends : IsEventList m E pts
  pub front : Front weight m E pts done coming

-- A sweep has come to a fault: it is under way up to some event, and that one is on a live edge
-- that does not end there, or has bad neighbours after it.
pub record IsFaulty (m : ℕ) (E : ℕ → Edge) (pts : List Point) : Type 0 where
  pub done : List Step
  pub event : Point
  pub coming : List Point
  pub under_way : IsUnderWay m E pts done (event ∷ coming)
  pub fault : OnLive E (live done) event ⊎ BadAfter m E (live done) event
