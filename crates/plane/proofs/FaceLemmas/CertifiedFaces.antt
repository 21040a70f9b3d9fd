-- The labels of a certificate are face numbers; face numbers under other names are face numbers
-- again.
use Rattle.std.proofs.Common.{◌≡◌, ℕ, suc, ◌<◌, refl, arith, ap, sym, ◌∙◌, inl, inr, subst, length}
use Rattle.plane.specs.Faces.Replays.{Replay}
use Rattle.plane.proofs.Runs.RunWords.{IsRun, IsLawful}
use Rattle.plane.specs.Faces.Labels.{Labels}
use Rattle.plane.specs.Faces.Cells.{Sector, IsSector, label_of}
use Rattle.plane.specs.Faces.Halves.{Half, under, over, edge_of, mark, Beside}
use Rattle.plane.specs.Faces.Classes.{Connected, outside, same, cross, Lead, IsFaces}
use Rattle.plane.specs.Rule.Plans.{Plan, object}
use Rattle.plane.specs.Faces.Certified.{IsRoot, Certified}
use Rattle.plane.proofs.Turning.OneSide.{some_beside}
use Rattle.plane.proofs.Turning.CellWalls.{linked_connected, connected_join}
use Rattle.plane.proofs.FaceLemmas.FaceNumbers.{label_before, label_under}
use Rattle.plane.proofs.LabelLemmas.HalfLabels.{upper_label, border_label}
use Rattle.plane.proofs.Turning.InnerClasses.{Rooted, rooted}
use Rattle.plane.proofs.FaceLemmas.PlacedPoints.{placed_is}
use Rattle.plane.proofs.Strips.OneStrip.{linked_back}

-- other names for the same faces
pub renamed_faces : (r : Replay) (face : Half → ℕ) (name : ℕ → ℕ) → IsFaces r face → name 0 ≡ 0
    → ((g h : Half) → edge_of g < r.edges → edge_of h < r.edges → name (face g) ≡ name (face h)
    → face g ≡ face h)
    → ((h : Half) → edge_of h < r.edges → name (face h) ≡ 0 → face h ≡ 0)
    → IsFaces r (λ h. name (face h))
renamed_faces r face name f at_zero one none = record {
  across = λ g h a. ap name (f.across g h a);
  border = λ h t. ap name (f.border h t) ∙ at_zero;
  one = λ g h lg lh e. f.one g h lg lh (one g h lg lh e);
  outside = λ h l e. f.outside h l (none h l e);
}

module _ (d : Plan) (r : Replay) (run : IsRun r) (law : IsLawful r) (lab : Labels) (rank : Half → ℕ)
    (link : Half → Lead) (cert : Certified d r lab rank link) where
  abbrev Root : Half → Type 0
  Root = IsRoot d r lab cert.strip cert.index

  -- the label of a cell is that of each half-edge beside it
  beside_mark : (h : Half) (c : Sector) → IsSector r c → Beside r h c
      → label_of lab r c ≡ mark lab h
  beside_mark (under e) c C b = upper_label r run law lab cert.matched c C
      ∙ label_under lab 0 c.index (r.list c.strip) e b
  beside_mark (over e) c C b = label_before lab 0 c.index (r.list c.strip) e b

  root_of : (h : Half) → edge_of h < r.edges → (g : Half) × Rooted r (mark lab) Root h g
  root_of h l =
      rooted r run law (mark lab) rank link Root cert.links (suc (rank h)) h l (omega arith)

  rooted_connected : (h g : Half) → edge_of h < r.edges → Rooted r (mark lab) Root h g
      → Connected r h g
  rooted_connected h g l o =
      let y = some_beside r run law h l in
      let z = some_beside r run law g o.fits in
      linked_connected r run law h g y.0 z.0 y.1 z.1 y.2 z.2 (o.linked y.0 z.0 y.1 z.1 y.2 z.2)

  -- two roots of one label are connected
  roots_connected : (g h : Half) → mark lab g ≡ mark lab h → Root g → Root h → Connected r g h
  roots_connected g h e (inl a) (inl b) = outside g h h a.1 b.1 (same h h refl)
  roots_connected g h e (inl a) (inr b) =
      let z = a.0 in let w = b.2 in absurd (omega (arith, e, z, w))
  roots_connected g h e (inr a) (inl b) =
      let z = a.2 in let w = b.0 in absurd (omega (arith, e, z, w))
  roots_connected g h e (inr a) (inr b) =
      let x = a.2 in
      let y = b.2 in
      let same_point : b.0 ≡ a.0 = omega (arith, e, x, y) in
      let here = subst
      (λ (j : ℕ). Beside r h (record { strip = cert.strip j; index = cert.index j })) same_point
      b.3 in
      let C = spot_is a.0 a.1 in
      cross g h h (record { strip = cert.strip a.0; index = cert.index a.0 }, C, a.3, here)
      (same h h refl)
    where
      spot_is : (j : ℕ) → j < length d.points
          → IsSector r (record { strip = cert.strip j; index = cert.index j })
      spot_is j l = placed_is r run law (cert.strip j) (cert.index j) (object d j) (cert.placed j l)

  rooted_back : (h g : Half) → edge_of h < r.edges → Rooted r (mark lab) Root h g → Connected r g h
  rooted_back h g l o =
      let y = some_beside r run law h l in
      let z = some_beside r run law g o.fits in
      linked_connected r run law g h z.0 y.0 z.1 y.1 z.2 y.2
      (linked_back r y.0 z.0 (o.linked y.0 z.0 y.1 z.1 y.2 z.2))

  pub labels_are_faces : IsFaces r (mark lab)
  labels_are_faces = record {
    across = λ g h a. sym (beside_mark g a.0 a.1 a.2) ∙ beside_mark h a.0 a.1 a.3;
    border = λ h t. sym (beside_mark h t.0 t.1 t.2)
        ∙ border_label r run law lab cert.matched t.0 t.1 t.3;
    one = λ g h lg lh e.
        let x = root_of g lg in
        let y = root_of h lh in
        let b = roots_connected x.0 y.0 (x.1.label ∙ e ∙ sym y.1.label) x.1.good y.1.good in
        connected_join r run law g x.0 h (rooted_connected g x.0 lg x.1)
        (connected_join r run law x.0 y.0 h b (rooted_back h y.0 lh y.1));
    outside = λ h l e.
        let x = root_of h l in
        elim x.1.good [
          | inl o ↦ (x.0, rooted_connected h x.0 l x.1, o.1)
          | inr o ↦ (let z = x.1.label in let w = o.2 in absurd (omega (arith, e, z, w)))
        ];
  }
