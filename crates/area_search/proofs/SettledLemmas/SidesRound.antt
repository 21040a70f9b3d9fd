-- The sides that follow one another go round the faces: along `next` of the mesh from half-edge to
-- half-edge.
use Rattle.std.proofs.Common.{◌≡◌, ◌≢◌, ℕ, zero, suc, ◌+◌, ◌<◌, Some, List, [], ◌∷◌}
use Rattle.std.proofs.Common.{length, set, slice_index, refl, sym, ap, subst, ◌∙◌, arith, inl, inr}
use Rattle.std.proofs.lemmas.Bool.{cases_eq}
use Rattle.std.specs.Prelude.{slice_get, slice_set}
use Rattle.event_mesh.specs.Turned.{IsTurned, nth_step}
use Rattle.fault_lists.specs.FaceLists.{IsSide, side_number}
use Rattle.fault_lists.specs.Rings.{GoRound, IsSaidNext, end_of, start_of}
use Rattle.fault_lists.specs.declared.faces.DrawingFaces.{DrawingFaces}
use Rattle.fault_lists.specs.declared.kinds.SideAt.{SideAt}
use Rattle.half_edges.specs.HalfEdges.{HalfEdges, face_of, next_of, origin_of, prev_of, size}
use Rattle.half_edges.specs.HalfEdges.{twin_of}
use Rattle.half_edges.specs.Meshes.{IsMesh}
use Rattle.plane.specs.CurveRuns.TubedRuns.{Owned}
use Rattle.plane.specs.Faces.Directions.{origin}
use Rattle.plane.specs.Faces.Halves.{Half, edge_of, number, twin}
use Rattle.plane.specs.Rule.Plans.{Plan}
use Rattle.plane.specs.Runs.Steps.{Step}
use Rattle.plane.specs.declared.kinds.Edge.{Edge}
use Rattle.plane.specs.declared.kinds.Point.{Point}
use Rattle.area_search.specs.Settled.NextSides.{AreNextTo, IsHalfOf}
use Rattle.area_search.proofs.SettledLemmas.ChainLaws.{one_face_beside, one_side}
use Rattle.area_search.proofs.SettledLemmas.SideHalves.{AreChains, Begins, Ends, begins_once}
use Rattle.area_search.proofs.SettledLemmas.SideHalves.{ends_once, goes_on, none_after}
use Rattle.area_search.proofs.SettledLemmas.SideHalves.{one_side_of, some_end, twin_edge, twin_is}
use Rattle.area_search.proofs.PlaneLaws.{number_below}
use Rattle.area_search.proofs.Small.{less_or}

-- ---- an entry that is written
entry_kept : (xs : List ℕ) (i j v : ℕ) → j ≢ i → slice_get (set xs i v) j ≡ slice_get xs j
entry_kept [] i j v n = refl
entry_kept (x ∷ xs) zero zero v n = absurd (n refl)
entry_kept (x ∷ xs) zero (suc j) v n = refl
entry_kept (x ∷ xs) (suc i) zero v n = refl
entry_kept (x ∷ xs) (suc i) (suc j) v n = entry_kept xs i j v (λ e. n (ap suc e))

entry_written : (xs : List ℕ) (i v : ℕ) → i < length xs → slice_get (set xs i v) i ≡ Some v
entry_written [] i v l = absurd (omega (arith, l))
entry_written (x ∷ xs) zero v l = refl
entry_written (x ∷ xs) (suc i) v l = entry_written xs i v (omega (arith, l))

some_once : (i j : ℕ) → Some i ≡ Some j → i ≡ j
some_once i j e = cc

module _ (d : Plan) (m : ℕ) (E : ℕ → Edge) (o : ℕ → Owned) (are : AreChains d m E o)
    (mesh : HalfEdges) (is : IsMesh mesh) (steps : List Step) (count : ℕ)
    (turned : IsTurned m E steps mesh count) where
  abbrev On : SideAt → ℕ → Type 0
  On s h = IsHalfOf d m E o s h

  abbrev at : ℕ → Point
  at v = (nth_step steps v).at

  place : (x : Half) → edge_of x < m → at (origin_of mesh (number x)) ≡ origin E x
  place x l = (turned.begins x l).point

  -- the next half-edge begins where the half-edge ends
  meets : (s t : SideAt) (h : ℕ) (a : On s h) (b : On t (next_of mesh h)) → h < size mesh
      → origin E b.half ≡ origin E (twin a.half)
  meets s t h a b l =
      sym (place b.half b.there)
      ∙ ap (λ (n : ℕ). at (origin_of mesh n)) b.is
      ∙ ap at (is.joined h l)
      ∙ ap (λ (n : ℕ). at (origin_of mesh n)) (ap twin_of (sym a.is) ∙ sym (twin_is a.half))
      ∙ place (twin a.half) (subst (λ (e : ℕ). e < m) (sym (twin_edge a.half)) a.there)

  -- where that is on another side, the one side ends there and the other begins
  side_ends : (s t : SideAt) (h : ℕ) (a : On s h) (b : On t (next_of mesh h)) → h < size mesh
      → (s ≡ t → ⊥) → Ends d m E o are s h a × Begins d m E o are t (next_of mesh h) b
  side_ends s t h a b l differ =
      elim (goes_on d m E o are s t h (next_of mesh h) a b (meets s t h a b l))
      [ inl e ↦ absurd (differ e) | inr k ↦ k ]

  -- ---- one half-edge more
  pub none_next : (next : List ℕ) → AreNextTo d m E o mesh 0 next
  none_next next h s t l a b differ = absurd (omega (arith, l))

  pub note_more : (k : ℕ) (s t : SideAt) (old new : List ℕ) → k < size mesh → On s k
      → On t (next_of mesh k) → side_number s < length old
      → ((side_number s ≡ side_number t → ⊥) → new ≡ slice_set old (side_number s) (side_number t))
      → (side_number s ≡ side_number t → new ≡ old)
      → AreNextTo d m E o mesh k old → AreNextTo d m E o mesh (k + 1) new
  note_more k s t old new there on after within set_new kept are_next h u v l a b differ =
      less_or h k (slice_get new (side_number u) ≡ Some (side_number v)) l earlier here
    where
      here : h ≡ k → slice_get new (side_number u) ≡ Some (side_number v)
      here q =
          let p : u ≡ s = one_side_of d m E o are u s k (subst (On u) q a) on in
          let r : v ≡ t = one_side_of d m E o are v t (next_of mesh k)
          (subst (λ (i : ℕ). On v (next_of mesh i)) q b) after in
          ap (λ (xs : List ℕ). slice_get xs (side_number u))
          (set_new (λ e. differ (p ∙ one_side s t e ∙ sym r)))
          ∙ ap (λ (w : SideAt). slice_get (set old (side_number s) (side_number t)) (side_number w))
          p
          ∙ entry_written old (side_number s) (side_number t) within
          ∙ ap (λ (w : SideAt). Some (side_number w)) (sym r)

      -- an earlier half-edge that ends the same side is the same
      apart : h < k → u ≡ s → (side_number s ≡ side_number t → ⊥) → ⊥
      apart less e n =
          let p = (side_ends u v h a b (omega (arith, less, there)) differ).0 in
          let q = (side_ends s t k on after there (λ x. n (ap side_number x))).0 in
          let same : h ≡ k = subst (λ (w : SideAt). (c : On w h) → Ends d m E o are w h c → h ≡ k)
          (sym e) (λ c r. ends_once d m E o are s h k c on r q) a p in
          omega (arith, less, same)

      earlier : h < k → slice_get new (side_number u) ≡ Some (side_number v)
      earlier less = elim (cases_eq (side_number s) (side_number t)) [
        | inl e ↦ ap (λ (xs : List ℕ). slice_get xs (side_number u)) (kept e)
            ∙ are_next h u v less a b differ
        | inr n ↦ ap (λ (xs : List ℕ). slice_get xs (side_number u)) (set_new n)
            ∙ entry_kept old (side_number s) (side_number u) (side_number t)
            (λ e. apart less (one_side u s e) n)
            ∙ are_next h u v less a b differ
      ]

  -- ---- all half-edges
  -- `next` of a half-edge on a side is on one too; `face` has the numbers of the faces beside sides
  module _ (f : DrawingFaces) (names : List ℕ) (curves : length f.curves.items ≡ length d.curves)
      (stays : (s : SideAt) (h : ℕ) → h < size mesh → On s h → (t : SideAt) × On t (next_of mesh h))
      (sides : (s : SideAt) (h : ℕ) → On s h → IsSide f (slice_index names (face_of mesh h)) s)
      (next : AreNextTo d m E o mesh (size mesh) f.next.items) where
    -- the half-edge at the end of a side, and the side of the next half-edge
    record Follower (s : SideAt) : Type 0 where
      half : ℕ
      there : half < size mesh
      on : On s half
      side : SideAt
      after : On side (next_of mesh half)
      said : IsSaidNext f s side
      ends : Ends d m E o are s half on
      begins : Begins d m E o are side (next_of mesh half) after

    on_there : (s : SideAt) (h : ℕ) → On s h → h < size mesh
    on_there s h a =
        let l = number_below a.half m a.there in
        let c = turned.count in
        let i = a.is in
        omega (arith, l, c, i)

    follower : (n : ℕ) (s : SideAt) → IsSide f n s → Follower s
    follower n s a =
        let known = a.there in
        let h = some_end d m E o are s (omega (arith, known, curves)) in
        let l = on_there s h.0 h.1 in
        let t = stays s h.0 l h.1 in
        let differ : s ≡ t.0 → ⊥ = λ e.
        let b = subst (λ (w : SideAt). On w (next_of mesh h.0)) (sym e) t.1 in
        none_after d m E o are s h.0 (next_of mesh h.0) h.1 b h.2 (meets s s h.0 h.1 b l) in
        record {
          half = h.0;
          there = l;
          on = h.1;
          side = t.0;
          after = t.1;
          said = next h.0 s t.0 l h.1 t.1 differ;
          ends = h.2;
          begins = (side_ends s t.0 h.0 h.1 t.1 l differ).1;
        }

    next_side : (n : ℕ) (s : SideAt) → IsSide f n s
        → (t : SideAt) × IsSaidNext f s t × IsSide f n t × (end_of d s ≡ start_of d t)
    next_side n s a =
        let w = follower n s a in (
          w.side,
          w.said,
          subst (λ (i : ℕ). IsSide f i w.side)
              (ap (slice_index names) (is.one_face.same w.half w.there)
              ∙ one_face_beside f _ n s (sides s w.half w.on) a)
              (sides w.side (next_of mesh w.half) w.after),
          sym w.ends ∙ sym (meets s w.side w.half w.on w.after w.there) ∙ w.begins,
        )

    once : (i n : ℕ) (s t u : SideAt) → IsSide f i s → IsSide f n t → IsSaidNext f s u
        → IsSaidNext f t u → s ≡ t
    once i n s t u a b p q =
        let v = follower i s a in
        let w = follower n t b in
        let e : v.side ≡ w.side = one_side v.side w.side
        (some_once (side_number v.side) (side_number w.side) (sym v.said ∙ p ∙ sym q ∙ w.said)) in
        let g : next_of mesh v.half ≡ next_of mesh w.half = subst
        (λ (x : SideAt). (c : On x (next_of mesh v.half))
        → Begins d m E o are x (next_of mesh v.half) c → next_of mesh v.half ≡ next_of mesh w.half)
        (sym e)
        (λ c r. begins_once d m E o are w.side (next_of mesh v.half) (next_of mesh w.half) c w.after
        r w.begins) v.after v.begins in
        let h : v.half ≡ w.half = sym (is.prev_next v.half v.there)
        ∙ ap (prev_of mesh) g ∙ is.prev_next w.half w.there in
        one_side_of d m E o are s t w.half (subst (On s) h v.on) w.on

    pub go_round : GoRound d f
    go_round = record { next = next_side; once = once }
