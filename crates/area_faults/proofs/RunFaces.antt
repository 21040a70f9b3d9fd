-- The faces of a mesh of a run: half-edges have numbers below their count, each of which is some
-- half-edge's or 0, and begin where they did before.
use Rattle.std.proofs.Common.{◌≡◌, ℕ, zero, suc, ◌*◌, ◌<◌, ◌≤◌, List, [], ◌∷◌, ◌++◌, length, max}
use Rattle.std.proofs.Common.{take, get_or, slice_index, ℤ, arith, refl, inl, inr, sym, ◌∙◌, subst}
use Rattle.std.proofs.Common.{ap, add-one}
use Rattle.std.proofs.lemmas.Bool.{cases_lt}
use Rattle.std.proofs.lemmas.List.{take_all, take_more}
use Rattle.area_search.specs.Settled.Meshing.{HasEdges}
use Rattle.event_mesh.specs.Turned.{IsEventAt, IsTurned}
use Rattle.faces.specs.declared.labelled.Labelled.{Labelled}
use Rattle.faces.specs.Joined.{AreKnown}
use Rattle.faces.specs.Labels.{AreFaces, IsNumbered, greatest}
use Rattle.half_edges.specs.HalfEdges.{HalfEdges, origin_of, size}
use Rattle.half_edges.specs.Meshes.{IsMesh, with_faces}
use Rattle.plane.specs.declared.kinds.Edge.{Edge}
use Rattle.plane.specs.Faces.Classes.{IsFaces}
use Rattle.plane.specs.Faces.Directions.{origin}
use Rattle.plane.specs.Faces.Halves.{number}
use Rattle.plane.specs.Faces.Replays.{replay}
use Rattle.plane.specs.Lists.{Has}
use Rattle.plane.specs.Runs.Gaps.{Gap, closed_gaps}
use Rattle.plane.specs.Runs.Moves.{Fit, Move, steps_from}
use Rattle.plane.specs.Runs.Steps.{Run}
use Rattle.plane.proofs.GapLemmas.GapsOnce.{closed_edges}
use Rattle.plane.proofs.MoveLemmas.RunMoves.{run_known}
use Rattle.area_faults.specs.RestFaces.{AreRunFaces}

-- ---- the greatest number
greatest_at : (ns : List ℕ) (h : ℕ) → h < length ns → slice_index ns h < suc (greatest ns)
greatest_at [] h l = absurd (omega (arith, l))
greatest_at (n ∷ ns) zero l = omega arith
greatest_at (n ∷ ns) (suc h) l = (let k = greatest_at ns h (omega (arith, l)) in omega (arith, k))

greatest_has : (ns : List ℕ) (n : ℕ) → Has n ns → n ≤ greatest ns
greatest_has [] n h = absurd h
greatest_has (m ∷ ns) n (inl e) = omega (arith, e)
greatest_has (m ∷ ns) n (inr h) = (let k = greatest_has ns n h in omega (arith, k))

greatest_more : (ns : List ℕ) (n : ℕ) → greatest (ns ++ n ∷ []) ≡ max (greatest ns) n
greatest_more [] n = omega arith
greatest_more (m ∷ ns) n = (let k = greatest_more ns n in omega (arith, k))

-- numbers that are given in order leave none out
module _ (ns : List ℕ) (numbered : (h : ℕ) → h < length ns → IsNumbered ns h) where
  given : (h n : ℕ) → h ≤ length ns → 0 < n → n ≤ greatest (take h ns)
      → (i : ℕ) × (i < length ns) × (slice_index ns i ≡ n)
  given zero n l p q = absurd (omega (arith, p, q))
  given (suc h) n l p q =
      let b : h < length ns = omega (arith, l) in
      let more = ap (λ (k : ℕ). greatest (take k ns)) (sym (add-one h))
      ∙ ap greatest (take_more ns h 0 b) ∙ greatest_more (take h ns) (get_or ns h 0) in
      elim (numbered h b) [
        | inl old ↦ given h n (omega (arith, l)) p (let k = at_most old in
            omega (arith, q, more, k))
        | inr new ↦ elim (cases_lt (greatest (take h ns)) n) [
          | inl g ↦ (h, b, omega (arith, g, q, more, new))
          | inr g ↦ given h n (omega (arith, l)) p g
        ]
      ]
    where
      at_most : Has (slice_index ns h) (0 ∷ take h ns) → slice_index ns h ≤ greatest (take h ns)
      at_most (inl e) = omega (arith, e)
      at_most (inr k) = greatest_has (take h ns) (slice_index ns h) k

  pub all_given : (n : ℕ) → 0 < n → n < suc (greatest ns)
      → (i : ℕ) × (i < length ns) × (slice_index ns i ≡ n)
  all_given n p q =
      given (length ns) n (omega arith) p
      (let e = ap greatest (take_all (length ns) ns (omega arith)) in omega (arith, q, e))

-- ---- the faces of a run
module _ (m : ℕ) (vs : List Move) (fit : Fit [] vs) (edges : HasEdges m (steps_from [] vs))
    (mesh : HalfEdges)
    (turned : (E : ℕ → Edge) → Run m E (steps_from [] vs)
    → IsTurned m E (steps_from [] vs) mesh (length (steps_from [] vs))) where
  count : size mesh ≡ 2 * m
  count = (turned edges.0 edges.1).count

  pub known_cells : (cells : List Gap) → cells ≡ closed_gaps vs → AreKnown (size mesh) cells
  known_cells cells same g c h side =
      let w = closed_edges vs g c fit (subst (Has g) same h) side in
      let k = run_known m edges.0 vs w.0 c edges.1 w.1 w.2 in
      let z = count in
      omega (arith, k, z)

  pub run_faces : ((w : ℤ) (m : ℕ) (E : ℕ → Edge) (vs : List Move) (mesh : HalfEdges)
      (faces : List ℕ)
      → Run m E (steps_from [] vs) → Fit [] vs
      → IsTurned m E (steps_from [] vs) mesh (length (steps_from [] vs))
      → AreKnown (size mesh) (closed_gaps vs) → AreFaces mesh (closed_gaps vs) faces
      → IsFaces (replay w m E (steps_from [] vs)) (λ h. slice_index faces (number h)))
      → (cells : List Gap) → cells ≡ closed_gaps vs → (l : Labelled)
      → l.mesh ≡ with_faces mesh l.mesh.face → IsMesh l.mesh → AreFaces mesh cells l.mesh.face
      → l.count ≡ suc (greatest l.mesh.face) → AreRunFaces m vs l
  run_faces law cells same l unchanged is faces n =
      let z = count in
      let s : size l.mesh ≡ size mesh = ap size unchanged in
      let f = faces.size_is in
      record {
        size_is = s ∙ z;
        entries = f ∙ sym s;
        faces = λ w E run. law w m E vs mesh l.mesh.face run fit (turned E run)
            (known_cells (closed_gaps vs) refl)
            (subst (λ (gs : List Gap). AreFaces mesh gs l.mesh.face) same faces);
        below = λ h k. let g = greatest_at l.mesh.face h (omega (arith, k, s, f)) in
            omega (arith, g, n);
        some = omega (arith, n);
        used = λ i p q.
            let (h, k, e) = all_given l.mesh.face
            (λ h k. faces.numbered h (omega (arith, k, f))) i p (omega (arith, q, n)) in
            (h, omega (arith, k, s, f), e);
        mesh_is = is;
        begins = λ E run h k. subst
            (λ (x : HalfEdges). IsEventAt (steps_from [] vs) (origin_of x (number h)) (origin E h))
            (sym unchanged) ((turned E run).begins h k);
      }
