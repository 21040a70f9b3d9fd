-- In the tube of one half arc, all that is inside the circle is one piece, and all that is outside.
use Rattle.std.proofs.Common.{◌≡◌, List, [], ◌∷◌, pos, ◌<ℤ◌, ◌≤ℤ◌, ◌⊎◌, inl, inr, arith, ap, ◌∙◌}
use Rattle.std.proofs.lemmas.Int.{ints}
use Rattle.plane.specs.declared.kinds.Point.{Point}
use Rattle.plane.specs.Forms.Vectors.{Vector, Place, point}
use Rattle.plane.specs.Forms.Arcs.{HalfArc, power, along}
use Rattle.plane.specs.Tubes.Caps.{IsCap, cap}
use Rattle.plane.specs.Tubes.Bays.{Bay, IsTube, InTube}
use Rattle.plane.specs.Tubes.Windings.{tiles}
use Rattle.plane.proofs.TubePaths.PieceWords.{PathIn}
use Rattle.plane.proofs.ListLemmas.Lists.{each_map}
use Rattle.plane.proofs.Caps.Pictures.{along-to}
use Rattle.plane.proofs.Caps.Powers.{power-from, power-to}
use Rattle.plane.proofs.OneTube.TubeStrips.{IsRest, rest_of, before_end, tube_cap, tube_rest}
use Rattle.plane.proofs.OneTube.Chains.{tube_outer, tube_outer_corners}
use Rattle.plane.proofs.OneTube.ArcTubes.{tiles_in_tube, tube_in_tiles}
use Rattle.plane.proofs.TubePaths.TubePieces.{AreInside, NotOutside, Within, Without, inner_piece}
use Rattle.plane.proofs.TubePaths.TubePieces.{outer_piece}
use Rattle.plane.proofs.TubePaths.AwayFrom.{path_more}

-- ---- the inner points
are_inside : (h : HalfArc) (p : Point) (b : Bay) (bs : List Bay) (hc : IsCap (cap h))
    → IsRest h p b bs → AreInside h hc (b ∷ bs)
are_inside h p b [] hc r = tt
are_inside h p b (d ∷ ds) hc r =
    (first r.inside.0, are_inside h b.inner d ds hc (rest_of h p b d ds r))
  where
    first : (power h (point b.inner) <ℤ pos 0) ⊎ (b.inner ≡ h.to) → power h (point b.inner) <ℤ pos 0
    first (inl k) = k
    first (inr e) =
        let i = before_end h b.inner d ds (rest_of h p b d ds r) in
        let bay = r.are_bays.1.0 in
        let u = bay.up in
        let v = bay.on in
        let a = ap (λ (q : Point). along h (point q)) e ∙ along-to h in
        absurd (omega (arith, ints, i, u, v, a))

not_outside : (h : HalfArc) (hc : IsCap (cap h)) (b : Bay)
    → (power h (point b.inner) <ℤ pos 0) ⊎ (b.inner ≡ h.to) → NotOutside h hc b
not_outside h hc b (inl k) = omega (arith, ints, k)
not_outside h hc b (inr e) =
    let a = ap (λ (q : Point). power h (point q)) e ∙ power-to h in omega (arith, ints, a)

-- ---- the two parts
abbrev pub Inner : HalfArc → List Bay → Vector → Type 0
Inner h bs z = InTube h.from bs z × (power h z <ℤ pos 0)

abbrev pub Outer : HalfArc → List Bay → Vector → Type 0
Outer h bs z = InTube h.from bs z × (pos 0 <ℤ power h z)

pub inner_part : (h : HalfArc) (bs : List Bay) (p q : Vector) → IsTube h bs → Place p → Place q
    → Inner h bs p → Inner h bs q → PathIn (Inner h bs) p q
inner_part h [] p q t P Q i j = absurd t.some
inner_part h (b ∷ rest) p q t P Q i j =
    let hc = tube_cap h (b ∷ rest) t in
    path_more (Within h hc (tiles h.from (b ∷ rest))) (Inner h (b ∷ rest))
    (λ z k. (tiles_in_tube h.from b rest z k.0, k.1)) p q
    (inner_piece h hc h.from b rest (are_inside h h.from b rest hc (tube_rest h b rest t)) p q P Q
    (tube_in_tiles h.from b rest p i.0, i.1) (tube_in_tiles h.from b rest q j.0, j.1))

pub outer_part : (h : HalfArc) (bs : List Bay) (p q : Vector) → IsTube h bs → Place p → Place q
    → Outer h bs p → Outer h bs q → PathIn (Outer h bs) p q
outer_part h [] p q t P Q i j = absurd t.some
outer_part h (b ∷ rest) p q t P Q i j =
    let hc = tube_cap h (b ∷ rest) t in
    let below : power h (point h.from) ≤ℤ pos 0 = (let e = power-from h in
    omega (arith, ints, e)) in
    path_more (Without h hc (tiles h.from (b ∷ rest))) (Outer h (b ∷ rest))
    (λ z k. (tiles_in_tube h.from b rest z k.0, k.1)) p q
    (outer_piece h hc h.from h.to b rest (tube_outer h (b ∷ rest) t)
    (tube_outer_corners h (b ∷ rest) t)
    (each_map (λ b. (power h (point b.inner) <ℤ pos 0) ⊎ (b.inner ≡ h.to)) (NotOutside h hc)
    (b ∷ rest) (not_outside h hc) t.inside) below p q P Q
    (tube_in_tiles h.from b rest p i.0, i.1) (tube_in_tiles h.from b rest q j.0, j.1))
