-- The ends of half arcs by a number of the point, and what is looked for among them.
use Rattle.std.specs.Prelude.{◌≡◌, ◌⊎◌, ℕ, ◌<◌, ◌≤◌, ◌^◌, Bool, Option, None, Some, ℤ, pos}
use Rattle.std.specs.Prelude.{◌+ℤ◌, ◌*ℤ◌, ◌≤ℤ◌, List, length, get_or, slice_index_or}
use Rattle.std.specs.List.{All, Contains}
use Rattle.plane.specs.declared.kinds.Curve.{Curve}
use Rattle.plane.specs.declared.kinds.CurveKind.TheVariants as kind
use Rattle.plane.specs.declared.kinds.Point.{Point}
use Rattle.plane.specs.Rule.Plans.{Plan, straight}
use Rattle.forks.specs.Bent.{BendsAt}
use Rattle.forks.specs.declared.ends.End.{End}
use Rattle.forks.specs.declared.bends.Bend.{Bend}

-- One number for each point; in one window no two points share it.
abbrev pub key : Point → ℤ
key p = (p.x *ℤ pos (2 ^ 40)) +ℤ p.y

abbrev pub end_of : Point → ℕ → End
end_of p number = record { key = key p; number = number }

abbrev pub curve_at : List Curve → ℕ → Curve
curve_at cs k =
    get_or cs k (straight (record { x = pos 0; y = pos 0 }) (record { x = pos 0; y = pos 0 }) 0)

-- No end is before one that stands ahead of it.
abbrev pub IsRising : List End → Type 0
IsRising ends =
    (i j : ℕ) (d : End) → i < j → j < length ends
    → (slice_index_or ends i d).key ≤ℤ (slice_index_or ends j d).key

-- Both ends of the half arc of that number.
pub record HasBoth (c : Curve) (number : ℕ) (ends : List End) : Type 0 where
  pub from : Contains ends (end_of c.from number)
  pub to : Contains ends (end_of c.to number)

-- The ends of all half arcs among the curves, in order.
pub record AreEnds (cs : List Curve) (ends : List End) : Type 0 where
  pub rising : IsRising ends
  pub known : All (λ e. e.number < length cs) ends
  pub whole : (k : ℕ) → k < length cs → (curve_at cs k).kind ≡ kind.HalfArc
      → HasBoth (curve_at cs k) k ends

-- The ends of one more curve, if it is a half arc, and nothing is lost.
pub record AreAdded (c : Curve) (number : ℕ) (before after : List End) : Type 0 where
  pub known : (n : ℕ) → number < n → All (λ e. e.number < n) before → All (λ e. e.number < n) after
  pub kept : (e : End) → Contains before e → Contains after e
  pub both : c.kind ≡ kind.HalfArc → HasBoth c number after

-- ---- the least bend
-- The bend of straight i at the named end by half arc k, if it has one in the window.
abbrev pub IsBendBy : ℤ → Plan → ℕ → Bool → ℕ → Option Point → Type 0
IsBendBy t d i at_from k None = (b : Point) → BendsAt t d i at_from k b → ⊥
IsBendBy t d i at_from k (Some b) = BendsAt t d i at_from k b

-- what was found is a bend
abbrev pub IsFound : ℤ → Plan → ℕ → Bool → Option Bend → Type 0
IsFound t d i at_from None = Unit {0}
IsFound t d i at_from (Some b) = BendsAt t d i at_from b.number b.at

-- what was found is of no greater half arc
abbrev pub IsUpTo : ℕ → Option Bend → Type 0
IsUpTo k None = ⊥
IsUpTo k (Some b) = b.number ≤ k

-- The half arc has no bend there, or what was found is no greater.
abbrev pub IsSeen : ℤ → Plan → ℕ → Bool → Option Bend → ℕ → Type 0
IsSeen t d i at_from best k = (b : Point) → BendsAt t d i at_from k b → IsUpTo k best

-- The lesser of what was found and the bend by half arc k.
pub record IsLesser (t : ℤ) (d : Plan) (i : ℕ) (at_from : Bool) (k : ℕ)
    (best next : Option Bend) : Type 0 where
  pub found : IsFound t d i at_from best → IsFound t d i at_from next
  pub kept : (l : ℕ) → IsUpTo l best → IsUpTo l next
  pub seen : IsSeen t d i at_from next k

-- The one with the lesser number, or the new one where none was found.
abbrev pub IsLesserBend : Option Bend → Bend → Option Bend → Type 0
IsLesserBend None bend next = next ≡ Some bend
IsLesserBend (Some first) bend next =
    ((first.number ≤ bend.number) × (next ≡ Some first))
    ⊎ ((bend.number < first.number) × (next ≡ Some bend))
