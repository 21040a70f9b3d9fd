-- Numbers of half-edges that are equal on both sides of each cell, and 0 at the border, match as
-- labels.
use Rattle.std.proofs.Common.{◌≡◌, ℕ, suc, ◌+◌, ◌≤◌, List, [], ◌∷◌, ◌++◌, length, refl, arith, sym}
use Rattle.std.proofs.Common.{◌∙◌, ◌⊎◌, inl, inr, subst}
use Rattle.plane.specs.Faces.Labels.{Match, last_label}
use Rattle.plane.specs.Faces.Replays.{Replay}
use Rattle.plane.proofs.Runs.RunWords.{IsRun}
use Rattle.plane.specs.Faces.Cells.{IsSector, IsBorder}
use Rattle.plane.specs.Faces.Halves.{Half, under, over, At, Beside, IsMatched}
use Rattle.plane.specs.Faces.Classes.{Across, Touches, numbers}
use Rattle.plane.proofs.LabelLemmas.Matches.{match_front, match_back, match_lowest}
use Rattle.plane.proofs.Turning.Rotation.{cell_of, StandsFrom}

module _ (r : Replay) (run : IsRun r) (face : Half → ℕ) (across : (g h : Half) → Across r g h
    → face g ≡ face h) (border : (h : Half) → Touches r h → face h ≡ 0) where
  -- the number below the cell (k, n)
  abbrev IsFloor : ℕ → ℕ → ℕ → Type 0
  IsFloor k n f =
      (IsBorder r (cell_of k n) × (f ≡ 0))
      ⊎ ((e : ℕ) × Beside r (over e) (cell_of k n) × (f ≡ face (over e)))

  match_from : (k n f : ℕ) (es : List ℕ) → k ≤ r.steps → n + length es ≡ length (r.list k)
      → StandsFrom r k n es → IsFloor k n f → Match (numbers face) f es 0
  match_from k n f [] h size stand (inl b) = b.1
  match_from k n f [] h size stand (inr b) =
      b.2 ∙ border (over b.0) (
        cell_of k n,
        record {
          strip = h;
          index = omega (arith, size);
        },
        b.1,
        inr (omega (arith, size)),
      )
  match_from k n f (e ∷ es) h size stand b =
      let a : At (r.list k) n e = stand 0 n e (omega arith) refl in
      let C : IsSector r (cell_of k n) = record { strip = h; index = omega (arith, size) } in
      let here : f ≡ face (under e) = elim b [
        | inl x ↦ x.1 ∙ sym (border (under e) (cell_of k n, C, a, x.0))
        | inr x ↦ x.2 ∙ across (over x.0) (under e) (cell_of k n, C, x.1, a)
      ] in (
        here,
        match_from k (suc n) (face (over e)) es h (omega (arith, size))
            (λ j m d q w. stand (suc j) m d (omega arith) w) (inr (e, a, refl)),
      )

  sides_match : (k : ℕ) → k ≤ r.steps → Match (numbers face) 0 (r.list k) 0
  sides_match k h =
      match_from k 0 0 (r.list k) h (omega arith)
      (λ j m e q w. subst (λ (i : ℕ). At (r.list k) i e) (let p : j ≡ m = omega arith in p) w)
      (inl (inl refl, refl))

  pub sides_matched : IsMatched r (numbers face)
  sides_matched k l =
      let s = r.step k in
      let lab = numbers face in
      let all : Match lab 0 (s.below ++ (s.starting ++ s.above)) 0 = subst
      (λ (es : List ℕ). Match lab 0 es 0) (run.after k l) (sides_match (suc k) (omega arith)) in
      let rest = match_back lab 0 0 s.below (s.starting ++ s.above) all in
      let new = match_front lab (last_label lab 0 s.below) 0 s.starting s.above rest in
      let high = match_back lab (last_label lab 0 s.below) 0 s.starting s.above rest in
      subst (λ (g : ℕ). Match lab (last_label lab 0 s.below) s.starting g)
      (match_lowest lab (last_label lab (last_label lab 0 s.below) s.starting) 0 s.above high)
      new
