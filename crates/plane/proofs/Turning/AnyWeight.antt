-- What is said of a replay by numbers alone does not depend on its weight: cells, what opens, what
-- is linked, next half-edges,
-- connections and face numbers. So each law on these takes a weight of its own, and asks none of a
-- caller.
use Rattle.std.proofs.Common.{ℕ, inl, inr, List, ℤ}
use Rattle.plane.specs.declared.kinds.Point.{Point}
use Rattle.plane.specs.Forms.Vectors.{Edge}
use Rattle.plane.specs.Runs.Steps.{Step}
use Rattle.plane.specs.Faces.Replays.{Replay, replay}
use Rattle.plane.specs.Faces.Cells.{Sector, IsSector, Opens, Linked, stays, onward, back}
use Rattle.plane.specs.Faces.Halves.{Half}
use Rattle.plane.specs.Faces.Classes.{Next, Across, Touches, Connected, IsFaces, Lead, root, next}
use Rattle.plane.specs.Faces.Classes.{previous, across, Falls, IsLead}
use Rattle.plane.specs.Faces.Classes as faces
use Rattle.plane.specs.Faces.PlacedPoints.{IsPlaced, IsLocated}

module _ (v w : ℤ) (m : ℕ) (E : ℕ → Edge) (steps : List Step) where
  abbrev from : Replay
  from = replay v m E steps

  abbrev to : Replay
  to = replay w m E steps

  pub cell_to : (c : Sector) → IsSector from c → IsSector to c
  cell_to c h = record { strip = h.strip; index = h.index }

  pub opens_to : (c d : Sector) → Opens from c d → Opens to c d
  opens_to c d (inl o) = inl (record { fits = o.fits; next = o.next; low = o.low; kept = o.kept })
  opens_to c d (inr o) =
      inr (record { fits = o.fits; next = o.next; top = o.top; high = o.high; kept = o.kept })

  pub linked_to : (c d : Sector) → Linked from c d → Linked to c d
  linked_to _ _ (stays c d e) = stays c d e
  linked_to _ _ (onward c d e o l) = onward c d e (opens_to c d o) (linked_to d e l)
  linked_to _ _ (back c d e o l) = back c d e (opens_to d c o) (linked_to d e l)

  pub next_to : (g h : Half) → Next from g h → Next to g h
  next_to g h n = record { event = n.event; fits = n.fits; turn = n.turn }

  pub across_to : (g h : Half) → Across from g h → Across to g h
  across_to g h a = (a.0, cell_to a.0 a.1, a.2, a.3)

  pub touches_to : (h : Half) → Touches from h → Touches to h
  touches_to h a = (a.0, cell_to a.0 a.1, a.2, a.3)

  pub connected_to : (g h : Half) → Connected from g h → Connected to g h
  connected_to _ _ (faces.same g h e) = faces.same g h e
  connected_to _ _ (faces.cross g h i a k) =
      faces.cross g h i (across_to g h a) (connected_to h i k)
  connected_to _ _ (faces.go g h i n k) = faces.go g h i (next_to g h n) (connected_to h i k)
  connected_to _ _ (faces.return g h i n k) =
      faces.return g h i (next_to h g n) (connected_to h i k)
  connected_to _ _ (faces.outside g h i a b k) =
      faces.outside g h i (touches_to g a) (touches_to h b) (connected_to h i k)

  abbrev pub placed_to : (p : Point) (k i : ℕ) → IsPlaced from p k i → IsPlaced to p k i
  placed_to p k i a = record {
    fits = a.fits;
    passed = a.passed;
    coming = a.coming;
    lower = a.lower;
    upper = a.upper;
    is_lower = a.is_lower;
    is_upper = a.is_upper;
    above = a.above;
    below = a.below;
  }

  pub located_to : (p : Point) (k i : ℕ) → IsLocated from p k i → IsLocated to p k i
  located_to p k i a = record {
    fits = a.fits;
    index = a.index;
    passed = a.passed;
    coming = a.coming;
    above = a.above;
    below = a.below;
  }

  -- links, where the roots of the one replay are roots of the other
  module _ (lab rank : Half → ℕ) (Here There : Half → Type 0) (roots : (h : Half) → Here h
      → There h) where
    falls_to : (h g : Half) → Falls from lab rank h g → Falls to lab rank h g
    falls_to h g f = record { fits = f.fits; kept = f.kept; less = f.less }

    pub link_to : (h : Half) (k : Lead) → IsLead from lab rank Here h k
        → IsLead to lab rank There h k
    link_to h root o = roots h o
    link_to h (next g) o = (next_to h g o.0, falls_to h g o.1)
    link_to h (previous g) o = (next_to g h o.0, falls_to h g o.1)
    link_to h (across g) o = (across_to h g o.0, falls_to h g o.1)

module _ (v w : ℤ) (m : ℕ) (E : ℕ → Edge) (steps : List Step) where
  -- face numbers are face numbers with every weight
  pub faces_to : (face : Half → ℕ) → IsFaces (replay v m E steps) face
      → IsFaces (replay w m E steps) face
  faces_to face f = record {
    across = λ g h a. f.across g h (across_to w v m E steps g h a);
    border = λ h t. f.border h (touches_to w v m E steps h t);
    one = λ g h l k e. connected_to v w m E steps g h (f.one g h l k e);
    outside = λ h l e. let t = f.outside h l e in
        (t.0, connected_to v w m E steps h t.0 t.1, touches_to v w m E steps t.0 t.2);
  }
