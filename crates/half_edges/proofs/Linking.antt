use Rattle.std.proofs.Common.{◌≡◌, ◌≢◌, ℕ, zero, suc, ◌<◌, List, length, get_or, arith, ap, sym}
use Rattle.std.proofs.Common.{◌∙◌, refl, ◌⊎◌, inl, inr, replicate, subst, below_more}
use Rattle.std.proofs.lemmas.List.{get_or-replicate, length-replicate}
use Rattle.std.proofs.lemmas.Bool.{cases_eq}
use Rattle.half_edges.specs.HalfEdges.{HalfEdges, size, twin_of}
use Rattle.half_edges.specs.Meshes.{IsMesh, with_one_face}
use Rattle.half_edges.specs.Stars.{IsStar, IsLoose, IsLinked, Links, before}
use Rattle.half_edges.proofs.Twins.{twin-twin, twin_within}
use Rattle.half_edges.proofs.Joining.{before_within, before_some}

-- h is f at some place below n, or at none
pub found : (f : ℕ → ℕ) (n h : ℕ) → ((k : ℕ) × ((k < n) × (h ≡ f k))) ⊎ ((k : ℕ) → k < n → h ≢ f k)
found f zero h = inr (λ k l. absurd (omega arith))
found f (suc n) h = elim (cases_eq h (f n)) [
  | inl e ↦ inl (n, (omega arith, e))
  | inr ne ↦ elim (found f n h) [
    | inl w ↦ inl (w.0, (omega (arith, w.1.0), w.1.1))
    | inr far ↦ inr (λ k l. below_more (λ (j : ℕ). h ≢ f j) n far ne k (omega arith))
  ]
]

-- linking a loose star makes a mesh of a mesh
pub linked_mesh : (old new : HalfEdges) (around : List ℕ) → IsMesh old → IsStar old around
    → IsLoose old around → IsLinked old new around → IsMesh new
linked_mesh old new around mesh star loose linked =
    let n = length around in
    let at : ℕ → ℕ = λ k. get_or around k 0 in
    let links = linked.links in
    let long : size new ≡ size old = links.next_length in
    let into : (h : ℕ) → h < size new → h < size old = λ h l. rw long at l in
    let og : (h : ℕ) → get_or new.origin h 0
    ≡ get_or old.origin h 0 = λ h. ap (λ (xs : List ℕ). get_or xs h 0) linked.origins in
    let twin_in : (h : ℕ) → h < size old
    → twin_of h < size old = λ h l. twin_within (size old) h mesh.pairs l in
    let plain : (h : ℕ) → h < size old
    → get_or new.face h 0 ≡ 0 = λ h l. rw linked.faces (get_or-replicate _ h 0 0 l) in
    -- what is next of no twin of the list is not in the list
    let apart : (h : ℕ) → h < size old → ((k : ℕ) → k < n → h ≢ twin_of (at k)) → (k : ℕ) → k < n
    → get_or old.next h 0 ≢ at k =
    λ h l far k m e. far k m (sym (mesh.prev_next h l)
    ∙ (ap (λ (j : ℕ). get_or old.prev j 0) (e ∙ sym (loose.alone k m))
    ∙ mesh.prev_next _ (twin_in _ (star.within k m)))) in
    let apart_back : (h : ℕ) → h < size old → ((k : ℕ) → k < n → h ≢ at k) → (k : ℕ) → k < n
    → get_or old.prev h 0 ≢ twin_of (at k) =
    λ h l far k m e. far k m (sym (mesh.next_prev h l)
    ∙ (ap (λ (j : ℕ). get_or old.next j 0) e ∙ loose.alone k m)) in
    let next_in : (h : ℕ) → h < size old → get_or new.next h 0 < size old =
    λ h l. elim (found (λ k. twin_of (at k)) n h) [
      | inl w ↦ rw (w.1.1, links.next_is w.0 w.1.0) (star.within _ (before_within n w.0 w.1.0))
      | inr far ↦ rw (links.next_stays h far) (mesh.next_within h l)
    ] in
    -- h is the place before some other, or stands nowhere in the list
    let prev_in : (h : ℕ) → h < size old → get_or new.prev h 0 < size old =
    λ h l. elim (found at n h) [
      | inl w ↦ let s = before_some n w.0 w.1.0 in
          let here : at (before n s.0) ≡ h = ap at s.1.1 ∙ sym w.1.1 in
          rw (← here, links.prev_is s.0 s.1.0) (twin_in _ (star.within s.0 s.1.0))
      | inr far ↦ rw (links.prev_stays h far) (mesh.prev_within h l)
    ] in
    record {
      pairs = rw long mesh.pairs;
      few = rw long mesh.few;
      prevs = links.prev_length ∙ (mesh.prevs ∙ sym long);
      origins = ap length linked.origins ∙ (mesh.origins ∙ sym long);
      faces = ap length linked.faces ∙ (length-replicate (size old) 0 ∙ sym long);
      next_within = λ h l. rw long (next_in h (into h l));
      prev_within = λ h l. rw long (prev_in h (into h l));
      origin_within = λ h l. rw (og h, linked.vertices) (mesh.origin_within h (into h l));
      next_prev = λ h l. elim (found at n h) [
        | inl w ↦ let s = before_some n w.0 w.1.0 in
            let here : at (before n s.0) ≡ h = ap at s.1.1 ∙ sym w.1.1 in
            rw (← here, links.prev_is s.0 s.1.0) (links.next_is s.0 s.1.0)
        | inr far ↦ rw (links.prev_stays h far) (links.next_stays _ (apart_back h (into h l) far)
            ∙ mesh.next_prev h (into h l))
      ];
      prev_next = λ h l. elim (found (λ k. twin_of (at k)) n h) [
        | inl w ↦ rw (w.1.1, links.next_is w.0 w.1.0) (links.prev_is w.0 w.1.0)
        | inr far ↦ rw (links.next_stays h far) (links.prev_stays _ (apart h (into h l) far)
            ∙ mesh.prev_next h (into h l))
      ];
      joined = λ h l. elim (found (λ k. twin_of (at k)) n h) [
        | inl w ↦ rw (w.1.1, links.next_is w.0 w.1.0, twin-twin) (og _
            ∙ (star.start _ (before_within n w.0 w.1.0)
            ∙ (sym (star.start w.0 w.1.0) ∙ sym (og _))))
        | inr far ↦ rw (links.next_stays h far) (og _ ∙ (mesh.joined h (into h l) ∙ sym (og _)))
      ];
      ends = λ h l e. mesh.ends h (into h l) (sym (og _) ∙ (e ∙ og h));
      one_face = record { same = λ h l. plain _ (next_in h (into h l)) ∙ sym (plain h (into h l)) };
    }

-- as the call finds it: the faces were reset, then next and prev were rewritten
pub linked_arena : (given old : HalfEdges) (around next prev : List ℕ)
    → IsMesh old → with_one_face given ≡ old → IsStar given around → IsLoose given around
    → Links around old.next old.prev next prev
    → IsMesh (record {
      vertices = old.vertices;
      next = next;
      prev = prev;
      origin = old.origin;
      face = old.face;
    })
linked_arena given old around next prev mesh e star loose links =
    linked_mesh old _ around mesh
    (subst (λ (m : HalfEdges). IsStar m around) e (record {
      filled = star.filled;
      within = star.within;
      start = star.start;
      once = star.once;
      whole = star.whole;
    }))
    (subst (λ (m : HalfEdges). IsLoose m around) e (record { alone = loose.alone }))
    (record {
      links = links;
      faces = subst (λ (m : HalfEdges). m.face ≡ replicate (size m) 0) e refl;
      vertices = refl;
      origins = refl;
    })
