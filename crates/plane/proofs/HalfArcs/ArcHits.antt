-- A segment hits a half arc in the words of means of its ends exactly where it does so in the words
-- of places on a straight.
use Rattle.std.proofs.Common.{◌↔◌}
use Rattle.plane.specs.Forms.Vectors.{Vector, Place}
use Rattle.plane.specs.Rule.HalfArcs.{HalfArc, HitsHalfArc}
use Rattle.plane.proofs.HalfArcs.HitWords.{HitsArc}
use Rattle.plane.proofs.Linear.Straights.{between_is}

pub hits_half_arc : (h : HalfArc) (p q : Vector) → Place p → Place q → HitsArc h p q
    → HitsHalfArc h p q
hits_half_arc h p q P Q k = record {
  u = k.u;
  v = k.v;
  u_place = k.u_place;
  v_place = k.v_place;
  u_of_segment = (between_is p q k.u P Q k.u_place).0 k.u_between;
  v_of_segment = (between_is p q k.v P Q k.v_place).0 k.v_between;
  u_away = k.u_away;
  v_away = k.v_away;
  u_not_outside = k.u_in;
  v_not_inside = k.v_out;
}

pub hits_arc : (h : HalfArc) (p q : Vector) → Place p → Place q → HitsHalfArc h p q → HitsArc h p q
hits_arc h p q P Q k = record {
  u = k.u;
  v = k.v;
  u_place = k.u_place;
  v_place = k.v_place;
  u_between = (between_is p q k.u P Q k.u_place).1 k.u_of_segment;
  v_between = (between_is p q k.v P Q k.v_place).1 k.v_of_segment;
  u_away = k.u_away;
  v_away = k.v_away;
  u_in = k.u_not_outside;
  v_out = k.v_not_inside;
}

pub hits_arc_is : (h : HalfArc) (p q : Vector) → Place p → Place q
    → HitsArc h p q ↔ HitsHalfArc h p q
hits_arc_is h p q P Q = ((λ k. hits_half_arc h p q P Q k), (λ k. hits_arc h p q P Q k))
