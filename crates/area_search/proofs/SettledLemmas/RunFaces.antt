-- The face numbers of a mesh of a run are its face numbers in the plane.
use Rattle.std.proofs.Common.{◌≡◌, inl, inr, ℕ, ◌*◌, ◌<◌, ℤ, List, [], length, slice_index, refl}
use Rattle.std.proofs.Common.{sym, ap, subst, ◌∙◌, arith}
use Rattle.plane.specs.declared.kinds.Edge.{Edge}
use Rattle.plane.specs.Faces.Classes.{Across, Connected, IsFaces, Next, Touches, same, cross, go}
use Rattle.plane.specs.Faces.Classes.{return, outside}
use Rattle.plane.specs.Faces.Halves.{Half, edge_of, half_of, number, over, twin, under}
use Rattle.plane.specs.Faces.Replays.{Replay, replay}
use Rattle.plane.specs.Runs.Gaps.{AtBorder as IsAtBorder, Gap, GapBetween, closed_gaps}
use Rattle.plane.specs.Runs.Moves.{Fit, Move, live_from, steps_from}
use Rattle.plane.specs.Runs.Steps.{Run}
use Rattle.half_edges.specs.HalfEdges.{HalfEdges, next_of, size}
use Rattle.event_mesh.specs.Turned.{IsTurned}
use Rattle.faces.specs.Joined.{Across as IsAcross, AreKnown, AtBorder, IsBetween, Joined, highest}
use Rattle.faces.specs.Joined.{lowest, same as joined_same, onward, back, across}
use Rattle.faces.specs.Joined.{outside as joined_outside}
use Rattle.half_edges.specs.HalfEdges.{over_of, under_of}
use Rattle.faces.specs.Labels.{AreFaces}
use Rattle.area_search.proofs.PlaneLaws.{across_gap, below_number, border_touches, gap_across}
use Rattle.area_search.proofs.PlaneLaws.{half_number, next_has, next_is, number_below, number_half}
use Rattle.area_search.proofs.PlaneLaws.{run_leaves_none, touches_border}

-- the face of a half-edge
abbrev pub face_in : List ℕ → Half → ℕ
face_in faces h = slice_index faces (number h)

module _ (w : ℤ) (m : ℕ) (E : ℕ → Edge) (vs : List Move) (mesh : HalfEdges)
    (run : Run m E (steps_from [] vs)) (fit : Fit [] vs)
    (turned : IsTurned m E (steps_from [] vs) mesh (length (steps_from [] vs)))
    (known : AreKnown (size mesh) (closed_gaps vs)) where
  abbrev pub r : Replay
  r = replay w m E (steps_from [] vs)

  abbrev pub cells : List Gap
  cells = closed_gaps vs

  end : live_from [] vs ≡ []
  end = run_leaves_none m E vs run

  pub within : (n : ℕ) → n < size mesh → edge_of (half_of n) < m
  within n l =
      below_number (half_of n) m
      (subst (λ (k : ℕ). k < 2 * m) (sym (number_half n)) (omega (arith, l, turned.count)))

  pub number_within : (h : Half) → edge_of h < m → number h < size mesh
  number_within h l = let a = number_below h m l in omega (arith, a, turned.count)

  over_half : (e : ℕ) → half_of (over_of e) ≡ over e
  over_half e =
      let n : over_of e ≡ number (over e) = omega arith in ap half_of n ∙ half_number (over e)

  under_half : (e : ℕ) → half_of (under_of e) ≡ under e
  under_half e =
      let n : under_of e ≡ number (under e) = omega arith in ap half_of n ∙ half_number (under e)

  -- ---- from joined to connected
  pub to_next : (g h : ℕ) → g < size mesh → next_of mesh g ≡ h → Next r (half_of g) (half_of h)
  to_next g h l e =
      (next_is w m E (steps_from [] vs) mesh (half_of g) (half_of h) run turned (within g l)).0
      (ap (next_of mesh) (number_half g) ∙ e ∙ sym (number_half h))

  to_across : (g h : ℕ) → IsBetween cells g h → Across r (half_of g) (half_of h)
  to_across g h b = gap_across vs fit end w m E (half_of g) (half_of h)
      (subst (λ (x : Half). GapBetween vs x (half_of h))
      (sym (ap half_of b.low_side ∙ over_half b.lower))
      (subst (λ (y : Half). GapBetween vs (over b.lower) y)
      (sym (ap half_of b.high_side ∙ under_half b.upper)) b.cell))

  turned_round : (g h : Half) → Across r g h → Across r h g
  turned_round g h (c, s, a, b) = (c, s, b, a)

  pub either_across : (g h : ℕ) → IsAcross cells g h → Across r (half_of g) (half_of h)
  either_across g h (inl b) = to_across g h b
  either_across g h (inr b) = turned_round (half_of h) (half_of g) (to_across h g b)

  pub to_touches : (h : ℕ) → AtBorder cells h → Touches r (half_of h)
  to_touches h (lowest e c q) =
      border_touches vs fit end w m E (half_of h)
      (subst (IsAtBorder vs) (sym (ap half_of q ∙ under_half e)) c)
  to_touches h (highest e c q) =
      border_touches vs fit end w m E (half_of h)
      (subst (IsAtBorder vs) (sym (ap half_of q ∙ over_half e)) c)

  connected : (g h : ℕ) → Joined mesh cells g h → Connected r (half_of g) (half_of h)
  connected g h (joined_same _ _ e) = same (half_of g) (half_of h) (ap half_of e)
  connected g i (onward _ h _ l e j) =
      go (half_of g) (half_of h) (half_of i) (to_next g h l e) (connected h i j)
  connected g i (back _ h _ l e j) =
      return (half_of g) (half_of h) (half_of i) (to_next h g l e) (connected h i j)
  connected g i (across _ h _ a j) =
      cross (half_of g) (half_of h) (half_of i) (either_across g h a) (connected h i j)
  connected g i (joined_outside _ h _ a b j) =
      outside (half_of g) (half_of h) (half_of i) (to_touches g a) (to_touches h b)
      (connected h i j)

  -- ---- and back
  pub from_gap : (g h : Half) → GapBetween vs g h → IsBetween cells (number g) (number h)
  from_gap (over d) (under e) c = record {
    lower = d;
    upper = e;
    cell = c;
    low_side = omega arith;
    high_side = omega arith;
  }
  from_gap (over d) (over e) c = absurd c
  from_gap (under d) h c = absurd c

  from_border : (h : Half) → IsAtBorder vs h → AtBorder cells (number h)
  from_border (under e) c = lowest e c (omega arith)
  from_border (over e) c = highest e c (omega arith)

  pub from_touches : (h : Half) → Touches r h → AtBorder cells (number h)
  from_touches h t = from_border h (touches_border vs fit end w m E h t)

  pub border_within : (h : Half) → Touches r h → edge_of h < m
  border_within h t = by_border h (touches_border vs fit end w m E h t)
    where
      by_border : (g : Half) → IsAtBorder vs g → edge_of g < m
      by_border (under e) c = let k = known c.0 e c.1 (inr c.3) in omega (arith, k, turned.count)
      by_border (over e) c = let k = known c.0 e c.1 (inl c.2) in omega (arith, k, turned.count)

  pub gap_within : (g h : Half) → GapBetween vs g h → (edge_of g < m) × (edge_of h < m)
  gap_within (over d) (under e) c =
      let k = known c.0 d c.1 (inl c.2) in
      let l = known c.0 e c.1 (inr c.3) in
      (omega (arith, k, turned.count), omega (arith, l, turned.count))
  gap_within (over d) (over e) c = absurd c
  gap_within (under d) h c = absurd c

  pub from_across : (g h i : Half) → edge_of g < m → Across r g h
      → (edge_of h < m → Joined mesh cells (number h) (number i))
      → Joined mesh cells (number g) (number i)
  from_across g h i l a j = elim (across_gap vs fit end w m E g h a) [
    | inl e ↦ subst (λ (x : Half). Joined mesh cells (number x) (number i)) (sym e)
        (j (subst (λ (x : Half). edge_of x < m) e l))
    | inr (inl b) ↦ across (number g) (number h) (number i) (inl (from_gap g h b))
        (j (gap_within g h b).1)
    | inr (inr b) ↦ across (number g) (number h) (number i) (inr (from_gap h g b))
        (j (gap_within h g b).0)
  ]

  edge_before : (h : Half) → edge_of (twin h) < m → edge_of h < m
  edge_before (under e) l = l
  edge_before (over e) l = l

  pub joined : (g h : Half) → edge_of g < m → Connected r g h
      → Joined mesh cells (number g) (number h)
  joined g h l (same _ _ e) = joined_same (number g) (number h) (ap number e)
  joined g i l (cross _ h _ a c) = from_across g h i l a (λ k. joined h i k c)
  joined g i l (go _ h _ n c) =
      let k = (next_has w m E (steps_from [] vs) run g h n).0 in
      onward (number g) (number h) (number i) (number_within g l)
      ((next_is w m E (steps_from [] vs) mesh g h run turned l).1 n) (joined h i k c)
  joined g i l (return _ h _ n c) =
      let k = edge_before h ((next_has w m E (steps_from [] vs) run h g n).1) in
      back (number g) (number h) (number i) (number_within h k)
      ((next_is w m E (steps_from [] vs) mesh h g run turned k).1 n) (joined h i k c)
  joined g i l (outside _ h _ a b c) =
      joined_outside (number g) (number h) (number i) (from_touches g a) (from_touches h b)
      (joined h i (border_within h b) c)

  -- ---- face numbers
  module _ (faces : List ℕ) (f : AreFaces mesh cells faces) where
    pub are_faces : IsFaces r (face_in faces)
    are_faces = record {
      across = λ g h a. elim (across_gap vs fit end w m E g h a) [
        | inl e ↦ ap (face_in faces) e
        | inr (inl b) ↦ (let k = gap_within g h b in
            (f.one (number g) (number h) (number_within g k.0) (number_within h k.1)).1
            (joined g h k.0 (cross g h h a (same h h refl))))
        | inr (inr b) ↦ (let k = gap_within h g b in
            (f.one (number g) (number h) (number_within g k.1) (number_within h k.0)).1
            (joined g h k.1 (cross g h h a (same h h refl))))
      ];
      border = λ h t. (f.outer (number h) (number_within h (border_within h t))).1
          (number h, joined_same (number h) (number h) refl, from_touches h t);
      one = λ g h k l e.
          let j = (f.one (number g) (number h) (number_within g k) (number_within h l)).0 e in
          subst (λ (x : Half). Connected r x h) (half_number g)
          (subst (λ (y : Half). Connected r (half_of (number g)) y) (half_number h)
          (connected (number g) (number h) j));
      outside = λ h k e.
          let t = (f.outer (number h) (number_within h k)).0 e in (
            half_of t.0,
            subst (λ (x : Half). Connected r x (half_of t.0)) (half_number h)
                (connected (number h) t.0 t.1),
            to_touches t.0 t.2,
          );
    }
