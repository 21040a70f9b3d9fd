-- Curves that break the last level with no other curve, while they are looked for.
use Rattle.std.specs.Prelude.{◌≡◌, ◌⊎◌, ℕ, ◌<◌, Bool, true, false, List, length, slice_index_or, ⊤}
use Rattle.near_pairs.specs.Boxes.{mark_of}
use Rattle.plane.specs.Rule.Curves.{arc}
use Rattle.plane.specs.Rule.Plans.{Plan, curve}
use Rattle.plane.specs.declared.kinds.Curve.{Curve}
use Rattle.plane.specs.declared.kinds.CurveKind.TheVariants as kind
use Rattle.tubes.specs.HalfArcTubes.{HasNoTube}
use Rattle.tubes.specs.Settled.{Breaks}
use Rattle.area_search.specs.declared.unsettled.standing.SearchState.{SearchState}
use Rattle.area_search.specs.declared.unsettled.standing.SearchState.TheVariants.{Alone, Tried}
use Rattle.area_search.specs.declared.unsettled.standing.SearchState.TheVariants.{Seen, Waiting}

abbrev pub standing_of : List SearchState → ℕ → SearchState
standing_of ss i = slice_index_or ss i Alone

-- The curve was looked at together with all that are alone.
abbrev pub IsSeen : SearchState → Type 0
IsSeen Alone = ⊤
IsSeen Tried = ⊥
IsSeen Waiting = ⊥
IsSeen Seen = ⊤

abbrev pub is_alone : SearchState → Bool
is_alone Alone = true
is_alone Tried = false
is_alone Waiting = false
is_alone Seen = false

-- Of the drawing that is looked at next the curve is no part.
abbrev pub is_left_out : SearchState → Bool
is_left_out Alone = false
is_left_out Tried = false
is_left_out Waiting = true
is_left_out Seen = true

-- How a curve stands once the last level settles that drawing.
abbrev pub after_settling : SearchState → SearchState
after_settling Alone = Alone
after_settling Tried = Seen
after_settling Waiting = Tried
after_settling Seen = Seen

-- How a curve stands that is near another one there.
abbrev pub after_leaving : SearchState → SearchState
after_leaving Alone = Seen
after_leaving Tried = Waiting
after_leaving Waiting = Waiting
after_leaving Seen = Seen

-- No curve that is alone breaks the last level with one that was looked at.
pub record AreApart (d : Plan) (ss : List SearchState) : Type 0 where
  pub size : length ss ≡ length d.curves
  pub apart : (i j : ℕ) → (i ≡ j → ⊥) → i < length d.curves → j < length d.curves
      → standing_of ss i ≡ Alone → IsSeen (standing_of ss j) → Breaks d (λ n. 5) i j → ⊥

-- A half arc that has no tube at the last level.
pub record IsBare (c : Curve) : Type 0 where
  pub half_arc : c.kind ≡ kind.HalfArc
  pub no_tube : HasNoTube (arc c) 5

-- How a curve stands at first: those that are not set aside are alone, and of the others half arcs
-- without a tube are not looked at.
pub record IsFirst (c : Curve) (aside : Bool) (s : SearchState) : Type 0 where
  pub seen : IsSeen s → (aside ≡ false) ⊎ IsBare c
  pub alone : s ≡ Alone → aside ≡ false

-- So the first k curves stand.
pub record AreFirstTo (d : Plan) (aside : List Bool) (k : ℕ) (ss : List SearchState) : Type 0 where
  pub size : length ss ≡ k
  pub each : (i : ℕ) → i < k → IsFirst (curve d i) (mark_of aside i) (standing_of ss i)

-- The first k curves stand as before, or as those that are near others.
pub record AreLeftTo (old : List SearchState) (k : ℕ) (new : List SearchState) : Type 0 where
  pub size : length new ≡ k
  pub each : (i : ℕ) → i < k
      → (standing_of new i ≡ standing_of old i)
      ⊎ (standing_of new i ≡ after_leaving (standing_of old i))
