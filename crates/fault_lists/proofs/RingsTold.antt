-- The sides that one face has by the numbers are those of one face of the drawing.
use Rattle.std.proofs.Common.{◌≡◌, ◌↔◌, ◌⊎◌, inl, inr, ℕ, ◌<◌, Bool, true, Option, Some, None, List}
use Rattle.std.proofs.Common.{length, refl, sym, subst, arith, ◌∙◌}
use Rattle.plane.specs.Rule.LeftOut.{IsRestOf}
use Rattle.plane.specs.Rule.Places.{Vector, Place}
use Rattle.plane.specs.Rule.Plans.{Plan, curve}
use Rattle.plane.specs.Lists.{Has}
use Rattle.fault_lists.specs.declared.faces.CurveFaces.{CurveFaces}
use Rattle.fault_lists.specs.declared.faces.DrawingFaces.{DrawingFaces}
use Rattle.fault_lists.specs.declared.kinds.Region.{Region}
use Rattle.fault_lists.specs.declared.kinds.SideAt.{SideAt}
use Rattle.fault_lists.specs.DrawingFaces.{AreCurveFaces, AreDrawingFaces, face_count, faces_of}
use Rattle.fault_lists.specs.FaceLists.{face_beside, IsSide}
use Rattle.fault_lists.specs.FaultLists.{AreRegionsOver, HasBoth, IsBeside}
use Rattle.fault_lists.specs.Rings.{AreRegions, AreRings}
use Rattle.fault_lists.specs.Sides.{side_end}
use Rattle.fault_lists.proofs.FacesOfRest as faces

module _ (d r : Plan) (out : ℕ → Bool) (rest : IsRestOf d r out) (f : DrawingFaces)
    (D : AreDrawingFaces d r out rest f) where
  -- what a place is beside of is a side of some face
  some_face : (o : SideAt) (z : Vector) → (out o.curve ≡ true → ⊥) → IsBeside d r out rest o z
      → (n : ℕ) × IsSide f n o
  some_face o z kept b = by (faces_of f o.curve) refl
    where
      there : o.curve < length d.curves
      there = subst (λ i. i < length d.curves) b.is (rest.there b.k b.there)

      by : (c : Option CurveFaces) → faces_of f o.curve ≡ c → (n : ℕ) × IsSide f n o
      by None e = absurd
          (kept (subst (λ c. AreCurveFaces d r out rest (face_count f) D.at o.curve c) e
          (D.curves o.curve there)))
      by (Some c) e = (
        face_beside o.left c,
        record {
          there = let n = D.curve_count in omega (arith, there, n);
          faces = c;
          is = e;
          on = refl;
        },
      )

  same_face : (n : ℕ) (s o : SideAt) → IsSide f n s → IsSide f n o ↔ HasBoth d r out rest s o
  same_face n s o side = (forth, back)
    where
      is_kept : IsSide f n o → out o.curve ≡ true → ⊥
      is_kept h = (subst (λ c. AreCurveFaces d r out rest (face_count f) D.at o.curve c) h.is
          (D.curves o.curve (let c = D.curve_count in let t = h.there in omega (arith, c, t)))).0

      both : IsSide f n o
          → (z : Vector) × Place z × IsBeside d r out rest s z × IsBeside d r out rest o z
      both h =
          let e = faces.side_has_end d r out rest f D n s side in
          let z = side_end (curve r e.k) s.left e.p e.q in (
            z,
            e.place,
            faces.is_beside d r out rest f D n s z e.place e.in_face side,
            faces.is_beside d r out rest f D n o z e.place e.in_face h,
          )

      forth : IsSide f n o → HasBoth d r out rest s o
      forth h = (is_kept h, both h)

      back : HasBoth d r out rest s o → IsSide f n o
      back (kept, (z, Z, b, c)) =
          let (m, h) = some_face o z kept c in
          let i = faces.beside_in d r out rest f D n s z Z side b in
          let j = faces.beside_in d r out rest f D m o z Z h c in
          let e : m ≡ n = faces.one_number d r out rest f D z z m n Z Z j i
          (faces.in_one d r out rest f D z z m Z Z j j) in
          subst (λ k. IsSide f k o) e h

  pub rings_tell : (sides : List SideAt) (regions : List Region) → AreRegions d f sides regions
      → AreRegionsOver d r out rest sides regions
  rings_tell sides regions h = record {
    sides_are = h.sides_are;
    rings = λ x a. elim (h.rings x a) [
      | inl none ↦ inl none
      | inr told ↦ (
          let (n, side, rings) = told in
          inr (record {
            each = rings.each;
            has = λ o. (
              (λ b. (same_face n x.side o side).0 ((rings.has o).0 b)),
              (λ b. (rings.has o).1 ((same_face n x.side o side).1 b)),
            );
            once = rings.once;
            rise = rings.rise;
          }))
    ];
  }
