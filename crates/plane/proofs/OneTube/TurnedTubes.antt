-- A tube in the direction in which its triangles turn left: its bays, its places, its end.
use Rattle.std.proofs.Common.{◌≡◌, Bool, true, false, cond, List, [], ◌∷◌, ◌++◌, ℤ, pos, negsuc}
use Rattle.std.proofs.Common.{zero, suc, ◌*ℤ◌, ◌<ℤ◌, ◌↔◌, refl, arith, ap, sym, ◌∙◌, subst}
use Rattle.std.proofs.lemmas.Int.{ints}
use Rattle.plane.specs.declared.kinds.Point.{Point}
use Rattle.plane.specs.Lists.{Each}
use Rattle.plane.specs.Forms.Vectors.{Vector}
use Rattle.plane.specs.Forms.Arcs.{HalfArc, bend}
use Rattle.plane.specs.Faces.Cells.{is_positive}
use Rattle.plane.specs.Tubes.Bays.{Bay, InTube, IsTube}
use Rattle.plane.specs.Tubes.Windings.{IsLeftTile, tiles, InSomeTile}
use Rattle.plane.specs.Tubes.Facing.{tip}
use Rattle.plane.specs.CurveRuns.TubedRuns.{backward, first_bay, later_bays}
use Rattle.plane.proofs.ParityLemmas.Wedges.{not_both, is_true}
use Rattle.plane.proofs.OneTube.ArcTubes.{tiles_in_tube, tube_in_tiles, tiles_left}
use Rattle.plane.proofs.OneTube.BackwardBays.{last_inner, last_inner_tip, last_backward}
use Rattle.plane.proofs.OneTube.BackwardBays.{backward_tube, tube_backward, backward_left}

-- the start and the bays, from either end
abbrev pub start : Bool → Point → Point → Point
start left a e = cond left e a

abbrev pub bays_from : Bool → Point → List Bay → List Bay
bays_from left a bs = cond left (backward a bs) bs

-- a list with a last element is its first bay and the later ones
split : (ks : List Bay) (k : Bay)
    → first_bay (ks ++ k ∷ []) ∷ later_bays (ks ++ k ∷ []) ≡ ks ++ k ∷ []
split [] k = refl
split (d ∷ ks) k = refl

pub split_bays : (left : Bool) (a : Point) (b : Bay) (bs : List Bay)
    → first_bay (bays_from left a (b ∷ bs)) ∷ later_bays (bays_from left a (b ∷ bs))
    ≡ bays_from left a (b ∷ bs)
split_bays false a b bs = refl
split_bays true a b bs = split (backward b.inner bs) (record { outer = b.outer; inner = a })

-- the last corner is the other end
pub turned_tip : (left : Bool) (a e : Point) (b : Bay) (bs : List Bay) → last_inner a (b ∷ bs) ≡ e
    → tip (first_bay (bays_from left a (b ∷ bs))) (later_bays (bays_from left a (b ∷ bs)))
    ≡ cond left a e
turned_tip false a e b bs q = sym (last_inner_tip a b bs) ∙ q
turned_tip true a e b bs q =
    sym (last_inner_tip e (first_bay (backward a (b ∷ bs))) (later_bays (backward a (b ∷ bs))))
    ∙ ap (λ (ks : List Bay). last_inner e ks) (split_bays true a b bs)
    ∙ last_backward e a (b ∷ bs) q

-- the triangles hold the places of the tube
pub turned_places : (left : Bool) (a e : Point) (b : Bay) (bs : List Bay) (z : Vector)
    → last_inner a (b ∷ bs) ≡ e
    → InSomeTile
    (tiles (start left a e) (first_bay (bays_from left a (b ∷ bs))
    ∷ later_bays (bays_from left a (b ∷ bs)))) z ↔ InTube a (b ∷ bs) z
turned_places false a e b bs z q =
    ((λ k. tiles_in_tube a b bs z k), (λ k. tube_in_tiles a b bs z k))
turned_places true a e b bs z q =
    let ks = backward a (b ∷ bs) in
    let s = split_bays true a b bs in (
      (λ k. backward_tube e a (b ∷ bs) z q
          (subst (λ (xs : List Bay). InTube e xs z) s
          (tiles_in_tube e (first_bay ks) (later_bays ks) z k))),
      (λ k. tube_in_tiles e (first_bay ks) (later_bays ks) z
          (subst (λ (xs : List Bay). InTube e xs z) (sym s) (tube_backward e a (b ∷ bs) z q k))),
    )

-- ---- the triangles turn left
below : (b : ℤ) → pos 0 <ℤ (b *ℤ b) → is_positive b ≡ false → b <ℤ pos 0
below (pos zero) l e = absurd (omega (arith, ints, l))
below (pos (suc n)) l e = absurd (not_both e)
below (negsuc n) l e = omega (arith, ints)

pub turned_left : (h : HalfArc) (b : Bay) (bs : List Bay) (left : Bool)
    → is_positive (bend h) ≡ left → IsTube h (b ∷ bs) → last_inner h.from (b ∷ bs) ≡ h.to
    → Each (λ t. IsLeftTile t)
    (tiles (start left h.from h.to) (first_bay (bays_from left h.from (b ∷ bs))
    ∷ later_bays (bays_from left h.from (b ∷ bs))))
turned_left h b bs false e t q = tiles_left h b bs (below (bend h) t.circle e) t
turned_left h b bs true e t q =
    subst (λ (ks : List Bay). Each (λ t. IsLeftTile t) (tiles h.to ks))
    (sym (split_bays true h.from b bs))
    (backward_left h h.to h.from b bs (is_true (bend h) e) q t.are_bays t.are_next)
