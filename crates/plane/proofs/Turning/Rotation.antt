-- A cell beside a half-edge is linked to a cell beside the next one.
-- Five cases, by where the twin stands among the half-edges round the event.
use Rattle.std.proofs.Common.{◌≡◌, ℕ, suc, ◌+◌, ◌<◌, ◌≤◌, List, [], ◌∷◌, ◌++◌, length, refl, arith}
use Rattle.std.proofs.Common.{ap, sym, inl, inr, subst}
use Rattle.plane.specs.Faces.Replays.{Replay}
use Rattle.plane.proofs.Runs.RunWords.{IsRun, IsLawful}
use Rattle.plane.specs.Faces.Cells.{Sector, IsSector, Linked, stays, onward, back}
use Rattle.plane.specs.Faces.Halves.{Half, under, over, twin, At, Beside}
use Rattle.plane.specs.Faces.Classes.{starting_halves, ending_halves, fan, IsFirst, IsLast, Follows}
use Rattle.plane.specs.Faces.Classes.{FollowsRound, Next}
use Rattle.plane.proofs.Strips.OneStrip.{linked_back, linked_join}
use Rattle.plane.proofs.Strips.Joins.{lengths_before, lengths_after}
use Rattle.plane.proofs.Turning.ListPlaces.{at_front, at_back}
use Rattle.plane.proofs.Turning.OneSide.{beside_linked}

-- from the cell c counterclockwise through the half-edges to the cell d: each has a cell at its
-- right, beside its twin, and a cell at its left
abbrev pub Goes : Replay → Sector → List Half → Sector → Type 0
Goes r c [] d = Linked r c d
Goes r c (x ∷ xs) d =
    (right : Sector) × (left : Sector) × IsSector r right × IsSector r left × Linked r c right
    × Beside r (twin x) right × Beside r x left × Goes r left xs d

pub goes_from : (r : Replay) (b c d : Sector) (xs : List Half) → Linked r b c → Goes r c xs d
    → Goes r b xs d
goes_from r b c d [] l g = linked_join r b c d l g
goes_from r b c d (x ∷ xs) l g = (g.0, g.1, g.2, g.3, linked_join r b c g.0 l g.4, g.5, g.6, g.7)

pub goes_append : (r : Replay) (b c d : Sector) (xs ys : List Half) → Goes r b xs c → Goes r c ys d
    → Goes r b (xs ++ ys) d
goes_append r b c d [] ys g h = goes_from r b c d ys g h
goes_append r b c d (x ∷ xs) ys g h =
    (g.0, g.1, g.2, g.3, g.4, g.5, g.6, goes_append r g.1 c d xs ys g.7 h)

pub goes_first : (r : Replay) (c d : Sector) (xs : List Half) (x : Half) → Goes r c xs d
    → IsFirst x xs → (u : Sector) × IsSector r u × Beside r (twin x) u × Linked r c u
goes_first r c d [] x g h = absurd h
goes_first r c d (y ∷ xs) x g h =
    (g.0, g.2, subst (λ (z : Half). Beside r (twin z) g.0) (sym h) g.5, g.4)

pub goes_last : (r : Replay) (c d : Sector) (xs : List Half) (x : Half) → Goes r c xs d
    → IsLast x xs → (u : Sector) × IsSector r u × Beside r x u × Linked r u d
goes_last r c d [] x g h = absurd h
goes_last r c d (y ∷ []) x g h = (g.1, g.3, subst (λ (z : Half). Beside r z g.1) (sym h) g.6, g.7)
goes_last r c d (y ∷ (z ∷ zs)) x g h = goes_last r g.1 d (z ∷ zs) x g.7 h

-- the region between two neighbours
record Between2 (r : Replay) (g h : Half) : Type 0 where
  left : Sector
  right : Sector
  is_left : IsSector r left
  is_right : IsSector r right
  of_left : Beside r g left
  of_right : Beside r (twin h) right
  linked : Linked r left right

goes_follows : (r : Replay) (c d : Sector) (xs : List Half) (x y : Half) → Goes r c xs d
    → Follows xs x y → Between2 r x y
goes_follows r c d [] x y g h = absurd h
goes_follows r c d (z ∷ zs) x y g (inl h) =
    let n = goes_first r g.1 d zs y g.7 h.1 in
    record {
      left = g.1;
      right = n.0;
      is_left = g.3;
      is_right = n.1;
      of_left = subst (λ (u : Half). Beside r u g.1) (sym h.0) g.6;
      of_right = n.2;
      linked = n.3;
    }
goes_follows r c d (z ∷ zs) x y g (inr h) = goes_follows r g.1 d zs x y g.7 h

goes_round : (r : Replay) (c : Sector) (xs : List Half) (x y : Half) → Goes r c xs c
    → FollowsRound xs x y → Between2 r x y
goes_round r c xs x y g (inl h) = goes_follows r c c xs x y g h
goes_round r c xs x y g (inr h) =
    let a = goes_last r c c xs x g h.0 in
    let b = goes_first r c c xs y g h.1 in
    record {
      left = a.0;
      right = b.0;
      is_left = a.1;
      is_right = b.1;
      of_left = a.2;
      of_right = b.2;
      linked = linked_join r a.0 c b.0 a.3 b.3;
    }

abbrev pub cell_of : ℕ → ℕ → Sector
cell_of k n = record { strip = k; index = n }

-- the edges of es stand from place n on in the live list k
abbrev pub StandsFrom : Replay → ℕ → ℕ → List ℕ → Type 0
StandsFrom r k n es = (j m e : ℕ) → m ≡ n + j → At es j e → At (r.list k) m e

module _ (r : Replay) (k : ℕ) (fits : k ≤ r.steps) where
  is_cell : (n : ℕ) → n ≤ length (r.list k) → IsSector r (cell_of k n)
  is_cell n l = record { strip = fits; index = l }

  goes_outward : (n t : ℕ) (es : List ℕ) → t ≡ n + length es → t ≤ length (r.list k)
      → StandsFrom r k n es → Goes r (cell_of k n) (starting_halves es) (cell_of k t)
  goes_outward n t [] q l s = stays _ _ (ap (cell_of k) (omega arith))
  goes_outward n t (e ∷ es) q l s =
      let a = s 0 n e (omega arith) refl in (
        cell_of k n,
        cell_of k (suc n),
        is_cell n (omega arith),
        is_cell (suc n) (omega arith),
        stays _ _ refl,
        a,
        a,
        goes_outward (suc n) t es (omega arith) l (λ j m d h b. s (suc j) m d (omega arith) b),
      )

  goes_inward : (n t : ℕ) (es : List ℕ) → t ≡ n + length es → t ≤ length (r.list k)
      → StandsFrom r k n es → Goes r (cell_of k t) (ending_halves es) (cell_of k n)
  goes_inward n t [] q l s = stays _ _ (ap (cell_of k) (omega arith))
  goes_inward n t (e ∷ es) q l s =
      let a = s 0 n e (omega arith) refl in
      goes_append r (cell_of k t) (cell_of k (suc n)) (cell_of k n) (ending_halves es)
      (under e ∷ [])
      (goes_inward (suc n) t es (omega arith) l (λ j m d h b. s (suc j) m d (omega arith) b)) (
        cell_of k (suc n),
        cell_of k n,
        is_cell (suc n) (omega arith),
        is_cell n (omega arith),
        stays _ _ refl,
        a,
        a,
        stays _ _ refl,
      )

module _ (r : Replay) (run : IsRun r) (law : IsLawful r) where
  -- once round an event
  pub around : (k : ℕ) → k < r.steps
      → Goes r (cell_of (suc k) (length (r.step k).below)) (fan (r.step k))
      (cell_of (suc k) (length (r.step k).below))
  around k l =
      let s = r.step k in
      let b = length s.below in
      let size = lengths_before r run law k l in
      let size2 = lengths_after r run law k l in
      let stand : (now ys : List ℕ) → now ≡ s.below ++ (ys ++ s.above) → (j m e : ℕ) → m ≡ b + j
      → At ys j e → At now m e =
      λ (now ys : List ℕ) q (j m e : ℕ) h a. subst (λ (es : List ℕ). At es m e) (sym q)
      (at_back s.below (ys ++ s.above) m j e h (at_front ys s.above j e a)) in
      let one = goes_outward r (suc k) (omega arith) b (b + length s.starting) s.starting refl
      (omega (arith, size2)) (stand (r.list (suc k)) s.starting (run.after k l)) in
      let two = goes_inward r k (omega arith) b (b + length s.ending) s.ending refl
      (omega (arith, size)) (stand (r.list k) s.ending (run.before k l)) in
      let top : Linked r (cell_of (suc k) (b + length s.starting))
      (cell_of k (b + length s.ending)) =
      back _ (cell_of k (b + length s.ending)) _ (inr record {
        fits = l;
        next = refl;
        top = omega (arith, size);
        high = omega arith;
        kept = omega arith;
      }) (stays _ _ refl) in
      let bottom : Linked r (cell_of k b) (cell_of (suc k) b) =
      onward _ (cell_of (suc k) b) _ (inl record {
        fits = l;
        next = refl;
        low = omega arith;
        kept = refl;
      }) (stays _ _ refl) in
      let low = cell_of (suc k) b in
      goes_append r low (cell_of (suc k) (b + length s.starting)) low (starting_halves s.starting)
      (ending_halves s.ending) one
      (goes_from r (cell_of (suc k) (b + length s.starting)) (cell_of k (b + length s.ending)) low
      (ending_halves s.ending) top
      (goes_to (cell_of k (b + length s.ending)) (cell_of k b) low
      (ending_halves s.ending) two bottom))
    where
      goes_to : (c d e : Sector) (xs : List Half) → Goes r c xs d → Linked r d e → Goes r c xs e
      goes_to c d e [] g l = linked_join r c d e g l
      goes_to c d e (x ∷ xs) g l = (g.0, g.1, g.2, g.3, g.4, g.5, g.6, goes_to g.1 d e xs g.7 l)

  -- the region between a half-edge and the next one
  pub next_cells : (g h : Half) → Next r h g
      → (c d : Sector) × IsSector r c × IsSector r d × Beside r h c × Beside r g d × Linked r c d
  next_cells g h n =
      let m = goes_round r (cell_of (suc n.event) (length (r.step n.event).below))
      (fan (r.step n.event)) g (twin h) (around n.event n.fits) n.turn in (
        m.right,
        m.left,
        m.is_right,
        m.is_left,
        subst (λ (x : Half). Beside r x m.right) (twice h) m.of_right,
        m.of_left,
        linked_back r m.left m.right m.linked,
      )
    where
      twice : (h : Half) → twin (twin h) ≡ h
      twice (under e) = refl
      twice (over e) = refl

  pub next_linked : (g h : Half) (c d : Sector) → Next r h g → IsSector r c → IsSector r d
      → Beside r h c → Beside r g d → Linked r c d
  next_linked g h c d n C D b k =
      let m = next_cells g h n in
      linked_join r c m.0 d (beside_linked r run law h c m.0 C m.2 b m.4)
      (linked_join r m.0 m.1 d m.6 (beside_linked r run law g m.1 d m.3 D m.5 k))
