use Rattle.std.proofs.Common.{inl, inr}
use Rattle.tubes.specs.TubedEdges.{drawn_bays}
use Rattle.level_breaks.proofs.AnyEdges.{any_meet}
use Rattle.level_breaks.proofs.BrokenPairs.{no_bad_straights, no_half_arc, one_is_half_arc}
use Rattle.level_breaks.proofs.Unbroken.{settled}
use Rattle.level_breaks.proofs.laws.straights_are_settled.Goals as goal

pub returns : goal.returns
returns c d s none =
    settled d (λ n. 0) (λ i h. absurd (no_half_arc d s i h))
    (λ i j l h. elim (one_is_half_arc
    (λ a b e f k m p q. (c.edges_of_straights.ensures.bad a b e f k m p q).0) d (λ n. 0)
    (no_bad_straights d none) i j h) [
      | inl a ↦ no_half_arc d s i a
      | inr a ↦ no_half_arc d s j a
    ])
    (any_meet c.meetings_are_decided.ensures.decided c.meetings_are_decided.ensures.fine)
    (c.own_edges_of_tubes.ensures.meet d (drawn_bays d (λ n. 0)))
    (c.own_edges_of_tubes.ensures.enter d (drawn_bays d (λ n. 0)))
    (c.edges_of_tubed_drawing.ensures.tubes d (λ n. 0))
