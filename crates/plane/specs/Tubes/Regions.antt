-- The tube as a region: on the half arc's picture, between the inner chain and the outer chain.
use Rattle.std.specs.Prelude.{List, [], ◌∷◌, pos, ◌≤ℤ◌}
use Rattle.plane.specs.declared.kinds.Point.{Point}
use Rattle.plane.specs.Forms.Vectors.{Vector, point, Edge, side}
use Rattle.plane.specs.Forms.Arcs.{HalfArc, along, bow, seen}
use Rattle.plane.specs.Tubes.Caps.{InSlab, cap}
use Rattle.plane.specs.Tubes.Bays.{Bay}
use Rattle.plane.specs.Tubes.CapStrips.{IsUnder, AtInner}

-- a point on the picture
abbrev pub seen_point : HalfArc → Point → Point
seen_point h p = record { x = along h (point p); y = bow h (point p) }

abbrev pub seen_bay : HalfArc → Bay → Bay
seen_bay h b = record { outer = seen_point h b.outer; inner = seen_point h b.inner }

abbrev pub seen_bays : HalfArc → List Bay → List Bay
seen_bays h [] = []
seen_bays h (b ∷ rest) = seen_bay h b ∷ seen_bays h rest

abbrev pub NotUnder : Edge → Vector → Type 0
NotUnder e z = pos 0 ≤ℤ side e z

-- z is over the chord or under it, not under the inner chain and not over the outer chain
pub record IsRegion (h : HalfArc) (bs : List Bay) (z : Vector) : Type 0 where
  pub slab : InSlab (cap h) (seen h z)
  pub over : AtInner NotUnder (seen h z) (seen_point h h.from) (seen_bays h bs)
  pub under : IsUnder (seen h z) (seen_point h h.from) (seen_point h h.from) (seen_bays h bs)
