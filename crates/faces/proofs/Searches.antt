-- A search for faces: what stays true when one more half-edge gets a face.
use Rattle.std.proofs.Common.{◌≡◌, ℕ, zero, suc, ◌<◌, ◌≤◌, ◌⊎◌, inl, inr, List, [], ◌∷◌, ◌++◌}
use Rattle.std.proofs.Common.{length, get_or, set, refl, arith, ap, sym, ◌∙◌, subst}
use Rattle.std.proofs.lemmas.List.{get_or-set_same, get_or-set_other, length-append, length-set}
use Rattle.plane.specs.Lists.{Has}
use Rattle.plane.specs.Runs.Gaps.{Gap}
use Rattle.half_edges.specs.HalfEdges.{HalfEdges, size, next_of, prev_of}
use Rattle.half_edges.specs.Meshes.{IsMesh}
use Rattle.faces.specs.Joined.{Across, AreKnown, AtBorder, IsBetween, Joined, across, back, highest}
use Rattle.faces.specs.Joined.{lowest, onward, outside, same}
use Rattle.faces.specs.Searching.{AreWaiting, IsKept, IsNear, IsSearched, IsSet, unset}
use Rattle.faces.proofs.PairCounts.{by_lt, same_or}
use Rattle.faces.proofs.PlaneLaws.{has_append, has_at, has_back, has_front, once_append, room}

-- ---- joined half-edges
pub joined_more : (mesh : HalfEdges) (cells : List Gap) (g h i : ℕ) → Joined mesh cells g h
    → Joined mesh cells h i → Joined mesh cells g i
joined_more mesh cells _ _ i (same g h e) k = subst (λ (n : ℕ). Joined mesh cells n i) (sym e) k
joined_more mesh cells _ _ i (onward g f h l e j) k =
    onward g f i l e (joined_more mesh cells f h i j k)
joined_more mesh cells _ _ i (back g f h l e j) k =
    back g f i l e (joined_more mesh cells f h i j k)
joined_more mesh cells _ _ i (across g f h a j) k =
    across g f i a (joined_more mesh cells f h i j k)
joined_more mesh cells _ _ i (outside g f h a b j) k =
    outside g f i a b (joined_more mesh cells f h i j k)

turned : (cells : List Gap) (g h : ℕ) → Across cells g h → Across cells h g
turned cells g h (inl b) = inr b
turned cells g h (inr b) = inl b

pub joined_back : (mesh : HalfEdges) (cells : List Gap) (g h : ℕ) → Joined mesh cells g h
    → Joined mesh cells h g
joined_back mesh cells _ _ (same g h e) = same h g (sym e)
joined_back mesh cells _ _ (onward g f h l e j) =
    joined_more mesh cells h f g (joined_back mesh cells f h j) (back f g g l e (same g g refl))
joined_back mesh cells _ _ (back g f h l e j) =
    joined_more mesh cells h f g (joined_back mesh cells f h j) (onward f g g l e (same g g refl))
joined_back mesh cells _ _ (across g f h a j) =
    joined_more mesh cells h f g (joined_back mesh cells f h j)
    (across f g g (turned cells g f a) (same g g refl))
joined_back mesh cells _ _ (outside g f h a b j) =
    joined_more mesh cells h f g (joined_back mesh cells f h j) (outside f g g b a (same g g refl))

module _ (mesh : HalfEdges) (cells : List Gap) (is : IsMesh mesh)
    (known : AreKnown (size mesh) cells) where
  -- ---- one step
  pub near_joined : (g h : ℕ) → g < size mesh → IsNear mesh cells g h → Joined mesh cells g h
  near_joined g h l (inl e) = onward g h h l e (same h h refl)
  near_joined g h l (inr (inl e)) =
      back g h h (subst (λ (n : ℕ). n < size mesh) e (is.prev_within g l))
      (ap (next_of mesh) (sym e) ∙ is.next_prev g l) (same h h refl)
  near_joined g h l (inr (inr a)) = across g h h a (same h h refl)

  pub near_back : (g h : ℕ) → g < size mesh → IsNear mesh cells g h → IsNear mesh cells h g
  near_back g h l (inl e) = inr (inl (ap (prev_of mesh) (sym e) ∙ is.prev_next g l))
  near_back g h l (inr (inl e)) = inl (ap (next_of mesh) (sym e) ∙ is.next_prev g l)
  near_back g h l (inr (inr a)) = inr (inr (turned cells g h a))

  between_within : (g h : ℕ) → IsBetween cells g h → (g < size mesh) × (h < size mesh)
  between_within g h b =
      let (c, k, l, u) = b.cell in
      let x = known c b.lower k (inl l) in
      let y = known c b.upper k (inr u) in
      let p = b.low_side in
      let q = b.high_side in
      (omega (arith, x, p), omega (arith, y, q))

  across_within : (g h : ℕ) → Across cells g h → h < size mesh
  across_within g h (inl b) = (between_within g h b).1
  across_within g h (inr b) = (between_within h g b).0

  pub near_within : (g h : ℕ) → g < size mesh → IsNear mesh cells g h → h < size mesh
  near_within g h l (inl e) = subst (λ (n : ℕ). n < size mesh) e (is.next_within g l)
  near_within g h l (inr (inl e)) = subst (λ (n : ℕ). n < size mesh) e (is.prev_within g l)
  near_within g h l (inr (inr a)) = across_within g h a

  pub border_within : (h : ℕ) → AtBorder cells h → h < size mesh
  border_within h (lowest e (c, k, l, u) q) = let x = known c e k (inr u) in omega (arith, x, q)
  border_within h (highest e (c, k, l, u) q) = let x = known c e k (inl l) in omega (arith, x, q)

  -- ---- a half-edge without face gets one
  module _ (faces queue : List ℕ) (passed : ℕ) (s : IsSearched mesh cells faces queue passed)
      (h face : ℕ) (l : h < size mesh) (free : get_or faces h 0 ≡ unset) (f : face < unset)
      (joins : (g : ℕ) → g < size mesh → get_or faces g 0 ≡ face → Joined mesh cells h g)
      (out : face ≡ 0 → (t : ℕ) × Joined mesh cells h t × AtBorder cells t) where
    not_set : IsSet faces h → ⊥
    not_set k = k free

    out_of_queue : Has h queue → ⊥
    out_of_queue k = s.set h k free

    here : get_or (set faces h face) h 0 ≡ face
    here = get_or-set_same faces h face 0 (let z = s.sized in omega (arith, l, z))

    other : (g : ℕ) → (g ≡ h → ⊥) → get_or (set faces h face) g 0 ≡ get_or faces g 0
    other g n = get_or-set_other faces h g face 0 n

    differs : (g : ℕ) → IsSet faces g → g ≡ h → ⊥
    differs g k e = k (ap (λ (i : ℕ). get_or faces i 0) e ∙ free)

    pub kept_put : IsKept faces (set faces h face)
    kept_put g k = other g (differs g k)

    set_put : (g : ℕ) → IsSet faces g → IsSet (set faces h face) g
    set_put g k e = k (sym (kept_put g k) ∙ e)

    here_set : IsSet (set faces h face) h
    here_set e = let q = here in omega (arith, q, e, f)

    -- what has a face now had it before, or is the half-edge
    was : (g : ℕ) → IsSet (set faces h face) g → (g ≡ h) ⊎ IsSet faces g
    was g k = elim (same_or g h) [
      | inl e ↦ inl e
      | inr n ↦ inr (λ (q : get_or faces g 0 ≡ unset). k (other g n ∙ q))
    ]

    queued : (i : ℕ) → i < length queue → get_or (queue ++ h ∷ []) i 0 ≡ get_or queue i 0
    queued i m = front queue i m
      where
        front : (xs : List ℕ) (i : ℕ) → i < length xs → get_or (xs ++ h ∷ []) i 0 ≡ get_or xs i 0
        front [] i m = absurd (omega (arith, m))
        front (x ∷ xs) zero m = refl
        front (x ∷ xs) (suc i) m = front xs i (omega (arith, m))

    last_queued : get_or (queue ++ h ∷ []) (length queue) 0 ≡ h
    last_queued = last queue
      where
        last : (xs : List ℕ) → get_or (xs ++ h ∷ []) (length xs) 0 ≡ h
        last [] = refl
        last (x ∷ xs) = last xs

    in_queue : (i : ℕ) → i < length queue → IsSet faces (get_or queue i 0)
    in_queue i m = s.set (get_or queue i 0) (has_at queue i 0 m)

    pub waiting_put : AreWaiting faces queue passed face
        → AreWaiting (set faces h face) (queue ++ h ∷ []) passed face
    waiting_put w i a b = by_lt i (length queue)
        (λ (m : i < length queue). ap (λ (g : ℕ). get_or (set faces h face) g 0) (queued i m)
        ∙ kept_put (get_or queue i 0) (in_queue i m) ∙ w i a m)
        (λ (m : length queue ≤ i).
        let e : length queue ≡ i = (let z = length-append queue (h ∷ []) in
        omega (arith, m, b, z)) in
        subst (λ (j : ℕ). get_or (set faces h face) (get_or (queue ++ h ∷ []) j 0) 0 ≡ face) e
        (ap (λ (g : ℕ). get_or (set faces h face) g 0) last_queued ∙ here))

    closed_put : (i x : ℕ) → i < passed → IsNear mesh cells (get_or (queue ++ h ∷ []) i 0) x
        → get_or (set faces h face) x 0 ≡ get_or (set faces h face) (get_or (queue ++ h ∷ []) i 0) 0
    closed_put i x a n =
        let m : i < length queue = (let w = s.within in omega (arith, a, w)) in
        let c = s.closed i x a (subst (λ (g : ℕ). IsNear mesh cells g x) (queued i m) n) in
        let k = in_queue i m in
        let kx : IsSet faces x = λ (e : get_or faces x 0 ≡ unset). k (sym c ∙ e) in
        kept_put x kx ∙ c ∙ sym (kept_put (get_or queue i 0) k)
        ∙ ap (λ (g : ℕ). get_or (set faces h face) g 0) (sym (queued i m))

    sound_put : (g i : ℕ) → g < size mesh → i < size mesh → IsSet (set faces h face) g
        → get_or (set faces h face) g 0 ≡ get_or (set faces h face) i 0 → Joined mesh cells g i
    sound_put g i a b k e = elim (was g k) [
      | inl q ↦ elim (same_or i h) [
        | inl p ↦ same g i (q ∙ sym p)
        | inr n ↦ subst (λ (j : ℕ). Joined mesh cells j i) (sym q)
            (joins i b (sym (other i n) ∙ sym e ∙ ap (λ (j : ℕ). get_or (set faces h face) j 0) q
            ∙ here))
      ]
      | inr kg ↦ elim (same_or i h) [
        | inl p ↦ subst (λ (j : ℕ). Joined mesh cells g j) (sym p)
            (joined_back mesh cells h g
            (joins g a (sym (kept_put g kg) ∙ e ∙ ap (λ (j : ℕ). get_or (set faces h face) j 0) p
            ∙ here)))
        | inr n ↦ s.sound g i a b kg (sym (kept_put g kg) ∙ e ∙ other i n)
      ]
    ]

    pub searched_put : IsSearched mesh cells (set faces h face) (queue ++ h ∷ []) passed
    searched_put = record {
      sized = length-set faces h face ∙ s.sized;
      known = λ g k. elim (has_append g queue (h ∷ []) k) [
        | inl m ↦ s.known g m
        | inr m ↦ one g m (λ (q : g ≡ h). omega (arith, q, l))
      ];
      once = once_append queue (h ∷ []) s.once ((λ k. k), tt)
          (λ g m n. one g n (λ (q : g ≡ h). out_of_queue (subst (λ (j : ℕ). Has j queue) q m)));
      set = λ g k. elim (has_append g queue (h ∷ []) k) [
        | inl m ↦ set_put g (s.set g m)
        | inr m ↦ one g m
            (λ (q : g ≡ h). subst (λ (j : ℕ). IsSet (set faces h face) j) (sym q) here_set)
      ];
      all = λ g m k. elim (was g k) [
        | inl q ↦ has_back g queue (h ∷ []) (inl q)
        | inr kg ↦ has_front g queue (h ∷ []) (s.all g m kg)
      ];
      within = let w = s.within in let z = length-append queue (h ∷ []) in omega (arith, w, z);
      closed = closed_put;
      sound = sound_put;
      outer = λ g m e. elim (same_or g h) [
        | inl q ↦
            let (t, j, b) = out (sym here ∙ ap (λ (j : ℕ). get_or (set faces h face) j 0) (sym q)
            ∙ e) in
            (t, subst (λ (i : ℕ). Joined mesh cells i t) (sym q) j, b)
        | inr n ↦ s.outer g m (sym (other g n) ∙ e)
      ];
    }
      where
        one : {P : Type 0} (g : ℕ) → Has g (h ∷ []) → (g ≡ h → P) → P
        one g (inl q) f = f q
        one g (inr k) f = absurd k

  -- there is room in the queue for a half-edge without face
  pub room_left : (faces queue : List ℕ) (passed h : ℕ) → IsSearched mesh cells faces queue passed
      → h < size mesh → get_or faces h 0 ≡ unset → length queue < size mesh
  room_left faces queue passed h s l free =
      let all = room (size mesh) (queue ++ h ∷ [])
      (once_append queue (h ∷ []) s.once ((λ k. k), tt) apart) inside in
      let z = length-append queue (h ∷ []) in
      omega (arith, all, z)
    where
      apart : (g : ℕ) → Has g queue → Has g (h ∷ []) → ⊥
      apart g m (inl q) = s.set g m (ap (λ (j : ℕ). get_or faces j 0) q ∙ free)
      apart g m (inr k) = k

      inside : (g : ℕ) → Has g (queue ++ h ∷ []) → g < size mesh
      inside g k =
          elim (has_append g queue (h ∷ []) k) [
            | inl m ↦ s.known g m
            | inr m ↦ elim m [ inl q ↦ omega (arith, q, l) | inr x ↦ absurd x ]
          ]

  pub room_all : (faces queue : List ℕ) (passed : ℕ) → IsSearched mesh cells faces queue passed
      → length queue ≤ size mesh
  room_all faces queue passed s = room (size mesh) queue s.once s.known
