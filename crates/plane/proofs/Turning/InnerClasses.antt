-- Cells alone connect the half-edges of a class that holds no border cell.
-- Links along which the label stays and the rank falls lead to a root.
use Rattle.std.proofs.Common.{◌≡◌, ◌↔◌, ℕ, zero, suc, ◌<◌, refl, arith, ◌∙◌, inl, inr}
use Rattle.plane.specs.Faces.Replays.{Replay}
use Rattle.plane.proofs.Runs.RunWords.{IsRun, IsLawful}
use Rattle.plane.specs.Faces.Cells.{Sector, IsSector, corner, Linked}
use Rattle.plane.specs.Faces.Halves.{Half, edge_of, Beside}
use Rattle.plane.specs.Faces.Classes.{Crossing, Connected, Lead, root, next, previous, across}
use Rattle.plane.specs.Faces.Classes.{Falls, IsLead, AreLeads}
use Rattle.plane.proofs.Strips.OneStrip.{linked_back, linked_join}
use Rattle.plane.proofs.Turning.OneSide.{beside_linked, some_beside}
use Rattle.plane.proofs.Turning.Rotation.{next_cells}
use Rattle.plane.proofs.Turning.CellWalls.{touches_linked, crossing_linked, linked_connected}
use Rattle.plane.proofs.Turning.CellWalls.{connected_linked, crossing_connected}

-- g is a root with the label of h, and all cells beside the two are linked
pub record Rooted (r : Replay) (lab : Half → ℕ) (Root : Half → Type 0) (h g : Half) : Type 0 where
  pub fits : edge_of g < r.edges
  pub good : Root g
  pub label : lab g ≡ lab h
  pub linked : (c d : Sector) → IsSector r c → IsSector r d → Beside r h c → Beside r g d
      → Linked r c d

module _ (r : Replay) (run : IsRun r) (law : IsLawful r) where
  -- half-edges are connected exactly where cells beside them are linked
  pub connected_is_linked : (g h : Half) (c d : Sector) → IsSector r c → IsSector r d → Beside r g c
      → Beside r h d → Connected r g h ↔ Linked r c d
  connected_is_linked g h c d C D b k = (
    (λ j. connected_linked r run law g h j c d C D b k),
    (λ l. linked_connected r run law g h c d C D b k l),
  )

  -- where no cell of the class is at the border, cells between two edges alone connect
  pub inner_crossing : (g h : Half) (c d : Sector) → IsSector r c → IsSector r d → Beside r g c
      → Beside r h d → Linked r c d → (Linked r c corner → ⊥) → Crossing r g h
  inner_crossing g h c d C D b k l out = elim (crossing_linked r run law g h c d C D b k l) [
    | inl x ↦ x
    | inr x ↦ absurd
        (out (linked_join r c x.2.0 corner
        (connected_linked r run law g x.0
        (crossing_connected r run law g x.0 x.1) c x.2.0 C x.2.1 b x.2.2)
        (touches_linked r run law x.0 x.2.0 x.2 x.2.1 x.2.2)))
  ]

  -- the root of a half-edge
  pub rooted : (lab rank : Half → ℕ) (link : Half → Lead) (Root : Half → Type 0)
      → AreLeads r lab rank link Root
      → (n : ℕ) (h : Half) → edge_of h < r.edges → rank h < n → (g : Half) × Rooted r lab Root h g
  rooted lab rank link Root ok zero h l m = absurd (omega arith)
  rooted lab rank link Root ok (suc n) h l m =
      lead (λ x f k. rooted lab rank link Root ok n x f k) (link h) (ok h l)
    where
      more : ((x : Half) → edge_of x < r.edges → rank x < n → (g : Half) × Rooted r lab Root x g)
          → (x : Half) → Falls r lab rank h x
          → ((c d : Sector) → IsSector r c → IsSector r d → Beside r h c → Beside r x d
          → Linked r c d)
          → (g : Half) × Rooted r lab Root h g
      more below x f way =
          let less = f.less in
          let i = below x f.fits (omega (arith, less, m)) in
          let y = some_beside r run law x f.fits in (
            i.0,
            record {
              fits = i.1.fits;
              good = i.1.good;
              label = i.1.label ∙ f.kept;
              linked = λ c d C D b k. linked_join r c y.0 d (way c y.0 C y.1 b y.2)
                  (i.1.linked y.0 d y.1 D y.2 k);
            },
          )

      lead : ((x : Half) → edge_of x < r.edges → rank x < n → (g : Half) × Rooted r lab Root x g)
          → (k : Lead) → IsLead r lab rank Root h k → (g : Half) × Rooted r lab Root h g
      lead below root o = (
        h,
        record {
          fits = l;
          good = o;
          label = refl;
          linked = λ c d C D b k. beside_linked r run law h c d C D b k;
        },
      )
      lead below (next x) o = let y = next_cells r run law x h o.0 in
          more below x o.1
          (λ c d C D b k. linked_join r c y.0 d (beside_linked r run law h c y.0 C y.2 b y.4)
          (linked_join r y.0 y.1 d y.6 (beside_linked r run law x y.1 d y.3 D y.5 k)))
      lead below (previous x) o = let y = next_cells r run law h x o.0 in
          more below x o.1
          (λ c d C D b k. linked_join r c y.1 d (beside_linked r run law h c y.1 C y.3 b y.5)
          (linked_join r y.1 y.0 d (linked_back r y.0 y.1 y.6)
          (beside_linked r run law x y.0 d y.2 D y.4 k)))
      lead below (across x) o = let a = o.0 in
          more below x o.1
          (λ c d C D b k. linked_join r c a.0 d (beside_linked r run law h c a.0 C a.1 b a.2)
          (beside_linked r run law x a.0 d a.1 D a.3 k))
