-- One half-edge of the queue is passed.
use Rattle.std.proofs.Common.{◌≡◌, ℕ, zero, suc, ◌+◌, ◌<◌, ◌≤◌, ◌⊎◌, inl, inr, List, [], ◌∷◌, ◌++◌}
use Rattle.std.proofs.Common.{length, get_or, refl, arith, ap, sym, ◌∙◌, subst, vec_capacity}
use Rattle.std.proofs.lemmas.List.{get_or-set_same, get_or-set_other, length-append}
use Rattle.plane.specs.Runs.Gaps.{Gap}
use Rattle.half_edges.specs.HalfEdges.{HalfEdges, size}
use Rattle.half_edges.specs.Meshes.{IsMesh}
use Rattle.faces.specs.declared.searching.Search.{Search}
use Rattle.faces.specs.Joined.{AreKnown, AtBorder, Joined}
use Rattle.faces.specs.Searching.{AreWaiting, HasSearched, IsGiven, IsKept, IsNear, IsPassing}
use Rattle.faces.specs.Searching.{IsReached, IsSearched, IsSet, IsWaiting, unset}
use Rattle.faces.proofs.PairCounts.{by_lt, same_or}
use Rattle.faces.proofs.PlaneLaws.{has_at}
use Rattle.faces.proofs.PairRows.{place_of}
use Rattle.faces.proofs.Searches.{joined_back, joined_more, kept_put, near_back, near_joined}
use Rattle.faces.proofs.Searches.{near_within, room_left, searched_put, waiting_put}

pub kept_all : (a b d : List ℕ) → IsKept a b → IsKept b d → IsKept a d
kept_all a b d f g h k = g h (λ (e : get_or b h 0 ≡ unset). k (sym (f h k) ∙ e)) ∙ f h k

pub given_all : (face : ℕ) (a b d : List ℕ) → IsGiven face a b → IsGiven face b d → IsKept b d
    → IsGiven face a d
given_all face a b d f g k h s = elim (g h s) [
  | inl m ↦ elim (f h m) [ inl o ↦ inl o | inr e ↦ inr (k h m ∙ e) ]
  | inr e ↦ inr e
]

pub reached_given : (h face : ℕ) (old new : Search) → IsReached h face old new
    → IsGiven face old.faces.items new.faces.items
reached_given h face old new (inl q) g s = elim (same_or g h) [
  | inl e ↦ inr
      (by_length (by_lt h (length old.faces.items) (λ (l : h < length old.faces.items). inl l)
      (λ (l : length old.faces.items ≤ h). inr l)) e)
  | inr n ↦ inl
      (λ (e : get_or old.faces.items g 0 ≡ unset). s (ap (λ (xs : List ℕ). get_or xs g 0) q.faces
      ∙ get_or-set_other old.faces.items h g face 0 n ∙ e))
]
  where
    past : (xs : List ℕ) (i : ℕ) → length xs ≤ i → get_or xs i 0 ≡ 0
    past [] i l = refl
    past (x ∷ xs) zero l = absurd (omega (arith, l))
    past (x ∷ xs) (suc i) l = past xs i (omega (arith, l))

    by_length : (h < length old.faces.items) ⊎ (length old.faces.items ≤ h) → g ≡ h
        → get_or new.faces.items g 0 ≡ face
    by_length (inl l) e = ap (λ (i : ℕ). get_or new.faces.items i 0) e
        ∙ ap (λ (xs : List ℕ). get_or xs h 0) q.faces ∙ get_or-set_same old.faces.items h face 0 l
    by_length (inr l) e =
        absurd (let z = past old.faces.items h l in let f = q.free in omega (arith, z, f))
reached_given h face old new (inr q) g s =
    inl (λ (e : get_or old.faces.items g 0 ≡ unset). s (ap (λ (xs : List ℕ). get_or xs g 0) q.faces
    ∙ e))

-- what reaching a half-edge changes, whatever it is reached from
module _ (mesh : HalfEdges) (cells : List Gap) (is : IsMesh mesh)
    (known : AreKnown (size mesh) cells) (h face : ℕ) (l : h < size mesh) (f : face < unset)
    (old new : Search) (s : HasSearched mesh cells old)
    (joins : (g : ℕ) → g < size mesh → get_or old.faces.items g 0 ≡ face → Joined mesh cells h g)
    (out : face ≡ 0 → (t : ℕ) × Joined mesh cells h t × AtBorder cells t)
    (r : IsReached h face old new) (p : new.passed ≡ old.passed)
    (c : vec_capacity new.queue ≡ vec_capacity old.queue) where
  searched_next : IsReached h face old new
      → IsSearched mesh cells new.faces.items new.queue.items new.passed
  searched_next (inl q) =
      subst (λ (n : ℕ). IsSearched mesh cells new.faces.items new.queue.items n) (sym p)
      (subst (λ (xs : List ℕ). IsSearched mesh cells new.faces.items xs old.passed) (sym q.queue)
      (subst (λ (xs : List ℕ). IsSearched mesh cells xs (old.queue.items ++ h ∷ []) old.passed)
      (sym q.faces)
      (searched_put mesh cells is known old.faces.items old.queue.items old.passed s.searched h face
      l q.free f joins out)))
  searched_next (inr q) =
      subst (λ (n : ℕ). IsSearched mesh cells new.faces.items new.queue.items n) (sym p)
      (subst (λ (xs : List ℕ). IsSearched mesh cells new.faces.items xs old.passed) (sym q.queue)
      (subst (λ (xs : List ℕ). IsSearched mesh cells xs old.queue.items old.passed)
      (sym q.faces) s.searched))

  pub has_reached : HasSearched mesh cells new
  has_reached = record {
    searched = searched_next r;
    room = subst (λ (n : ℕ). size mesh ≤ n) (sym c) s.room;
  }

  kept_next : IsReached h face old new → IsKept old.faces.items new.faces.items
  kept_next (inl q) g k = ap (λ (xs : List ℕ). get_or xs g 0) q.faces
      ∙ kept_put mesh cells is known old.faces.items old.queue.items old.passed s.searched h face l
      q.free f joins out g k
  kept_next (inr q) g k = ap (λ (xs : List ℕ). get_or xs g 0) q.faces

  pub reached_kept : IsKept old.faces.items new.faces.items
  reached_kept = kept_next r

  waiting_next : IsReached h face old new → IsWaiting old face → IsWaiting new face
  waiting_next (inl q) w =
      subst (λ (n : ℕ). AreWaiting new.faces.items new.queue.items n face) (sym p)
      (subst (λ (xs : List ℕ). AreWaiting new.faces.items xs old.passed face) (sym q.queue)
      (subst (λ (xs : List ℕ). AreWaiting xs (old.queue.items ++ h ∷ []) old.passed face)
      (sym q.faces)
      (waiting_put mesh cells is known old.faces.items old.queue.items old.passed s.searched h face
      l q.free f joins out w)))
  waiting_next (inr q) w =
      subst (λ (n : ℕ). AreWaiting new.faces.items new.queue.items n face) (sym p)
      (subst (λ (xs : List ℕ). AreWaiting new.faces.items xs old.passed face) (sym q.queue)
      (subst (λ (xs : List ℕ). AreWaiting xs old.queue.items old.passed face) (sym q.faces) w))

  pub reached_waiting : IsWaiting old face → IsWaiting new face
  reached_waiting = waiting_next r

  put_face : IsReached h face old new
      → (IsSet old.faces.items h → get_or old.faces.items h 0 ≡ face)
      → get_or new.faces.items h 0 ≡ face
  put_face (inl q) k = ap (λ (xs : List ℕ). get_or xs h 0) q.faces
      ∙ get_or-set_same old.faces.items h face 0 (let z = s.searched.sized in omega (arith, l, z))
  put_face (inr q) k = ap (λ (xs : List ℕ). get_or xs h 0) q.faces ∙ k q.has

  -- the half-edge has the face now, if it had no other
  pub reached_face : (IsSet old.faces.items h → get_or old.faces.items h 0 ≡ face)
      → get_or new.faces.items h 0 ≡ face
  reached_face = put_face r

  queue_next : IsReached h face old new → (i : ℕ) → i < length old.queue.items
      → (i < length new.queue.items) × (get_or new.queue.items i 0 ≡ get_or old.queue.items i 0)
  queue_next (inl q) i m = (
    (let z = length-append old.queue.items (h ∷ []) in let e = ap length q.queue in
        omega (arith, z, e, m)),
    ap (λ (xs : List ℕ). get_or xs i 0) q.queue ∙ front old.queue.items i m,
  )
    where
      front : (xs : List ℕ) (i : ℕ) → i < length xs → get_or (xs ++ h ∷ []) i 0 ≡ get_or xs i 0
      front [] i m = absurd (omega (arith, m))
      front (x ∷ xs) zero m = refl
      front (x ∷ xs) (suc i) m = front xs i (omega (arith, m))
  queue_next (inr q) i m = (
    (let e = ap length q.queue in omega (arith, e, m)),
    ap (λ (xs : List ℕ). get_or xs i 0) q.queue,
  )

  pub reached_queue : (i : ℕ) → i < length old.queue.items
      → (i < length new.queue.items) × (get_or new.queue.items i 0 ≡ get_or old.queue.items i 0)
  reached_queue = queue_next r

-- ---- one that a step leads to from the half-edge that is passed
module _ (mesh : HalfEdges) (cells : List Gap) (is : IsMesh mesh)
    (known : AreKnown (size mesh) cells) (h face : ℕ) (f : face < unset) (s : Search)
    (p : IsPassing mesh cells h face s) where
  pub passing_within : h < size mesh
  passing_within =
      subst (λ (n : ℕ). n < size mesh) p.here
      (p.searched.searched.known _ (has_at s.queue.items s.passed 0 p.more))

  pub passing_face : get_or s.faces.items h 0 ≡ face
  passing_face = ap (λ (n : ℕ). get_or s.faces.items n 0) (sym p.here)
      ∙ p.waiting s.passed (omega arith) p.more

  passing_set : IsSet s.faces.items h
  passing_set e = let q = passing_face in omega (arith, e, q, f)

  pub passing_sized : length s.faces.items ≡ size mesh
  passing_sized = p.searched.searched.sized

  pub passing_room : (g : ℕ) → g < size mesh → get_or s.faces.items g 0 ≡ unset
      → length s.queue.items < vec_capacity s.queue
  passing_room g l e =
      let r = room_left mesh cells is known s.faces.items s.queue.items s.passed g
      p.searched.searched l e in
      let c = p.searched.room in omega (arith, r, c)

  module _ (g : ℕ) (n : IsNear mesh cells h g) where
    pub step_within : g < size mesh
    step_within = near_within mesh cells is known h g passing_within n

    joins : (i : ℕ) → i < size mesh → get_or s.faces.items i 0 ≡ face → Joined mesh cells g i
    joins i m e =
        joined_more mesh cells g h i
        (joined_back mesh cells h g (near_joined mesh cells is known h g passing_within n))
        (p.searched.searched.sound h i passing_within m passing_set (passing_face ∙ sym e))

    out : face ≡ 0 → (t : ℕ) × Joined mesh cells g t × AtBorder cells t
    out e =
        let (t, j, b) = p.searched.searched.outer h passing_within (passing_face ∙ e) in (
          t,
          joined_more mesh cells g h t
              (joined_back mesh cells h g (near_joined mesh cells is known h g passing_within n)) j,
          b,
        )

    -- where it has a face, that is the face
    had : IsSet s.faces.items g → get_or s.faces.items g 0 ≡ face
    had k =
        let (i, m, e) = place_of g s.queue.items (p.searched.searched.all g step_within k) in
        by_lt i s.passed
        (λ (b : i < s.passed).
        let c = p.searched.searched.closed i h b
        (subst (λ (x : ℕ). IsNear mesh cells x h) (sym e)
        (near_back mesh cells is known h g passing_within n)) in
        ap (λ (x : ℕ). get_or s.faces.items x 0) (sym e) ∙ sym c ∙ passing_face)
        (λ (b : s.passed ≤ i). ap (λ (x : ℕ). get_or s.faces.items x 0) (sym e) ∙ p.waiting i b m)

    module _ (new : Search) (r : IsReached g face s new) (q : new.passed ≡ s.passed)
        (c : vec_capacity new.queue ≡ vec_capacity s.queue) where
      pub passing_next : IsPassing mesh cells h face new
      passing_next =
          let at = reached_queue mesh cells is known g face step_within f s new p.searched joins out
          r q c s.passed p.more in
          record {
            searched = has_reached mesh cells is known g face step_within f s new p.searched joins
                out r q c;
            waiting = reached_waiting mesh cells is known g face step_within f s new p.searched
                joins out r q c p.waiting;
            more = subst (λ (i : ℕ). i < length new.queue.items) (sym q) at.0;
            here = ap (λ (i : ℕ). get_or new.queue.items i 0) q ∙ at.1 ∙ p.here;
          }

      pub passing_kept : IsKept s.faces.items new.faces.items
      passing_kept =
          reached_kept mesh cells is known g face step_within f s new p.searched joins out r q c

      pub passing_reached : get_or new.faces.items g 0 ≡ face
      passing_reached =
          reached_face mesh cells is known g face step_within f s new p.searched joins out r q c had

  -- all that a step leads to have the face
  module _ (all : (g : ℕ) → IsNear mesh cells h g → get_or s.faces.items g 0 ≡ face) (new : Search)
      (ef : new.faces.items ≡ s.faces.items) (eq : new.queue.items ≡ s.queue.items)
      (ec : vec_capacity new.queue ≡ vec_capacity s.queue) (ep : new.passed ≡ s.passed + 1) where
    closed_next : (i x : ℕ) → i < s.passed + 1 → IsNear mesh cells (get_or s.queue.items i 0) x
        → get_or s.faces.items x 0 ≡ get_or s.faces.items (get_or s.queue.items i 0) 0
    closed_next i x l n = by_lt i s.passed
        (λ (b : i < s.passed). p.searched.searched.closed i x b n)
        (λ (b : s.passed ≤ i).
        let e : s.passed ≡ i = omega (arith, l, b) in
        let at : get_or s.queue.items i 0 ≡ h = ap (λ (j : ℕ). get_or s.queue.items j 0) (sym e)
        ∙ p.here in
        all x (subst (λ (j : ℕ). IsNear mesh cells j x) at n) ∙ sym passing_face
        ∙ ap (λ (j : ℕ). get_or s.faces.items j 0) (sym at))

    searched_more : IsSearched mesh cells s.faces.items s.queue.items (s.passed + 1)
    searched_more =
        let z = p.searched.searched in
        record {
          sized = z.sized;
          known = z.known;
          once = z.once;
          set = z.set;
          all = z.all;
          within = (let m = p.more in omega (arith, m));
          closed = closed_next;
          sound = z.sound;
          outer = z.outer;
        }

    pub passed_one : HasSearched mesh cells new
    passed_one = record {
      searched = subst (λ (n : ℕ). IsSearched mesh cells new.faces.items new.queue.items n) (sym ep)
          (subst (λ (xs : List ℕ). IsSearched mesh cells new.faces.items xs (s.passed + 1)) (sym eq)
          (subst (λ (xs : List ℕ). IsSearched mesh cells xs s.queue.items (s.passed + 1))
          (sym ef) searched_more));
      room = subst (λ (n : ℕ). size mesh ≤ n) (sym ec) p.searched.room;
    }

    pub passed_waiting : IsWaiting new face
    passed_waiting =
        subst (λ (n : ℕ). AreWaiting new.faces.items new.queue.items n face) (sym ep)
        (subst (λ (xs : List ℕ). AreWaiting new.faces.items xs (s.passed + 1) face) (sym eq)
        (subst (λ (xs : List ℕ). AreWaiting xs s.queue.items (s.passed + 1) face) (sym ef)
        (λ i a b. p.waiting i (omega (arith, a)) b)))
