use Rattle.std.proofs.Common.{◌≡◌, ◌≢◌, ℕ, ◌<◌, ◌+◌, ◌-◌, ◌^◌, List, [], ◌∷◌, ◌++◌, length}
use Rattle.std.proofs.Common.{length-append, get_or, arith, ap, sym, ◌∙◌, refl, inl, inr, replicate}
use Rattle.std.proofs.Common.{subst}
use Rattle.std.proofs.lemmas.List.{get_or_append_left, get_or-append_right}
use Rattle.std.proofs.lemmas.List.{get_or-replicate, length-replicate}
use Rattle.std.proofs.lemmas.List.{replicate-append-replicate}
use Rattle.std.proofs.lemmas.Bool.{cases_lt, cases_eq}
use Rattle.half_edges.specs.HalfEdges.{HalfEdges, size, edge_count, twin_of}
use Rattle.half_edges.specs.Meshes.{IsMesh, with_one_face}
use Rattle.half_edges.proofs.Twins.{twin_within}

-- one more pair at the end of a list
pub pair_before : (xs : List ℕ) (n x y h : ℕ) → length xs ≡ n → h < n
    → get_or (xs ++ x ∷ y ∷ []) h 0 ≡ get_or xs h 0
pair_before xs n x y h e l = get_or_append_left xs (x ∷ y ∷ []) 0 h (omega arith)

pub pair_first : (xs : List ℕ) (n x y : ℕ) → length xs ≡ n → get_or (xs ++ x ∷ y ∷ []) n 0 ≡ x
pair_first xs n x y e =
    let k : n - n ≡ 0 = omega arith in
    get_or-append_right xs (x ∷ y ∷ []) n n 0 e (omega arith) ∙ rw k

pub pair_second : (xs : List ℕ) (n x y : ℕ) → length xs ≡ n
    → get_or (xs ++ x ∷ y ∷ []) (n + 1) 0 ≡ y
pair_second xs n x y e =
    let k : n + 1 - n ≡ 1 = omega arith in
    get_or-append_right xs (x ∷ y ∷ []) n (n + 1) 0 e (omega arith) ∙ rw k

pub pair_length : (xs : List ℕ) (n x y : ℕ) → length xs ≡ n → length (xs ++ x ∷ y ∷ []) ≡ n + 2
pair_length xs n x y e = length-append xs (x ∷ y ∷ []) ∙ omega arith

-- what holds of the numbers below n, and of the next two, holds of those below n + 2
pub below_pair : (P : ℕ → Type 0) (n : ℕ) → ((h : ℕ) → h < n → P h) → P n → P (n + 1) → (h : ℕ)
    → h < n + 2 → P h
below_pair P n below here there h l = elim (cases_lt h n) [
  | inl m ↦ below h m
  | inr m ↦ elim (cases_eq h n) [
    | inl e ↦ subst P (sym e) here
    | inr ne ↦ let e : n + 1 ≡ h = omega arith in subst P e there
  ]
]

-- a mesh with one more edge, and with its faces
abbrev pub extended : HalfEdges → ℕ → ℕ → HalfEdges
extended m low high = record {
  vertices = m.vertices;
  next = m.next ++ (size m + 1) ∷ size m ∷ [];
  prev = m.prev ++ (size m + 1) ∷ size m ∷ [];
  origin = m.origin ++ high ∷ low ∷ [];
  face = m.face ++ 0 ∷ 0 ∷ [];
}

pub mesh_extended : (m : HalfEdges) (low high : ℕ) → IsMesh m → low < m.vertices → high < m.vertices
    → low ≢ high → size m + 2 < 2 ^ 32
    → IsMesh (extended m low high)
mesh_extended m low high mesh lo hi apart room =
    let n = size m in
    let nx = (extended m low high).next in
    let pv = (extended m low high).prev in
    let og = (extended m low high).origin in
    let fc = (extended m low high).face in
    let long : length nx ≡ n + 2 = pair_length m.next n _ _ refl in
    let up : twin_of n ≡ n + 1 = let even = mesh.pairs in omega arith in
    let down : twin_of (n + 1) ≡ n = let even = mesh.pairs in omega arith in
    let nx0 : get_or nx n 0 ≡ n + 1 = pair_first m.next n _ _ refl in
    let nx1 : get_or nx (n + 1) 0 ≡ n = pair_second m.next n _ _ refl in
    let pv0 : get_or pv n 0 ≡ n + 1 = pair_first m.prev n _ _ mesh.prevs in
    let pv1 : get_or pv (n + 1) 0 ≡ n = pair_second m.prev n _ _ mesh.prevs in
    let og0 : get_or og n 0 ≡ high = pair_first m.origin n _ _ mesh.origins in
    let og1 : get_or og (n + 1) 0 ≡ low = pair_second m.origin n _ _ mesh.origins in
    let fc0 : get_or fc n 0 ≡ 0 = pair_first m.face n _ _ mesh.faces in
    let fc1 : get_or fc (n + 1) 0 ≡ 0 = pair_second m.face n _ _ mesh.faces in
    let nxb : (h : ℕ) → h < n → get_or nx h 0
    ≡ get_or m.next h 0 = λ h l. pair_before m.next n _ _ h refl l in
    let pvb : (h : ℕ) → h < n → get_or pv h 0
    ≡ get_or m.prev h 0 = λ h l. pair_before m.prev n _ _ h mesh.prevs l in
    let ogb : (h : ℕ) → h < n → get_or og h 0
    ≡ get_or m.origin h 0 = λ h l. pair_before m.origin n _ _ h mesh.origins l in
    let fcb : (h : ℕ) → h < n → get_or fc h 0
    ≡ get_or m.face h 0 = λ h l. pair_before m.face n _ _ h mesh.faces l in
    let each : (P : ℕ → Type 0) → ((h : ℕ) → h < n → P h) → P n → P (n + 1) → (h : ℕ)
    → h < length nx → P h =
    λ P below here there h l. below_pair P n below here there h (rw long at l) in
    record {
      pairs = rw long (let even = mesh.pairs in omega arith);
      few = rw long room;
      prevs = pair_length m.prev n _ _ mesh.prevs ∙ sym long;
      origins = pair_length m.origin n _ _ mesh.origins ∙ sym long;
      faces = pair_length m.face n _ _ mesh.faces ∙ sym long;
      next_within = each (λ (h : ℕ). get_or nx h 0 < length nx)
          (λ h l. let w = mesh.next_within h l in
          rw (nxb h l, long) (omega arith)) (rw (nx0, long) (omega arith))
          (rw (nx1, long) (omega arith));
      prev_within = each (λ (h : ℕ). get_or pv h 0 < length nx)
          (λ h l. let w = mesh.prev_within h l in
          rw (pvb h l, long) (omega arith)) (rw (pv0, long) (omega arith))
          (rw (pv1, long) (omega arith));
      origin_within = each (λ (h : ℕ). get_or og h 0 < m.vertices)
          (λ h l. rw (ogb h l) (mesh.origin_within h l)) (rw og0 hi) (rw og1 lo);
      next_prev = each (λ (h : ℕ). get_or nx (get_or pv h 0) 0 ≡ h)
          (λ h l. rw (pvb h l) (nxb _ (mesh.prev_within h l) ∙ mesh.next_prev h l)) (rw pv0 nx1)
          (rw pv1 nx0);
      prev_next = each (λ (h : ℕ). get_or pv (get_or nx h 0) 0 ≡ h)
          (λ h l. rw (nxb h l) (pvb _ (mesh.next_within h l) ∙ mesh.prev_next h l)) (rw nx0 pv1)
          (rw nx1 pv0);
      joined = each (λ (h : ℕ). get_or og (get_or nx h 0) 0 ≡ get_or og (twin_of h) 0)
          (λ h l. rw (nxb h l) (ogb _ (mesh.next_within h l)
          ∙ (mesh.joined h l ∙ sym (ogb _ (twin_within n h mesh.pairs l)))))
          (rw (nx0, up) refl) (rw (nx1, down) refl);
      ends = each (λ (h : ℕ). get_or og (twin_of h) 0 ≢ get_or og h 0)
          (λ h l e. mesh.ends h l (sym (ogb _ (twin_within n h mesh.pairs l)) ∙ (e ∙ ogb h l)))
          (λ e. apart (sym og1 ∙ (ap (λ (k : ℕ). get_or og k 0) (sym up) ∙ (e ∙ og0))))
          (λ e. apart (sym og1 ∙ (sym e ∙ (ap (λ (k : ℕ). get_or og k 0) down ∙ og0))));
      one_face = record {
        same = each (λ (h : ℕ). get_or fc (get_or nx h 0) 0 ≡ get_or fc h 0)
            (λ h l. rw (nxb h l) (fcb _ (mesh.next_within h l)
            ∙ (mesh.one_face.same h l ∙ sym (fcb h l))))
            (rw nx0 (fc1 ∙ sym fc0)) (rw nx1 (fc0 ∙ sym fc1));
      };
    }

pub mesh_added : (m : HalfEdges) (low high down up : ℕ) (next prev origin face : List ℕ)
    → IsMesh m → low < m.vertices → high < m.vertices → low ≢ high → edge_count m < 2 ^ 31 - 1
    → down ≡ size m → up ≡ down + 1
    → next ≡ m.next ++ up ∷ down ∷ [] → prev ≡ m.prev ++ up ∷ down ∷ []
    → origin ≡ m.origin ++ high ∷ low ∷ [] → face ≡ m.face ++ 0 ∷ 0 ∷ []
    → IsMesh (record {
      vertices = m.vertices;
      next = next;
      prev = prev;
      origin = origin;
      face = face;
    })
mesh_added m low high down up next prev origin face mesh lo hi apart room de ue ne pe oe fe =
    let even = mesh.pairs in
    rw (ne, pe, oe, fe, ue, de) (mesh_extended m low high mesh lo hi apart (omega arith))

-- with one face it is a mesh too
pub mesh_one_face : (m : HalfEdges) → IsMesh m → IsMesh (with_one_face m)
mesh_one_face m mesh = record {
  pairs = mesh.pairs;
  few = mesh.few;
  prevs = mesh.prevs;
  origins = mesh.origins;
  faces = length-replicate (size m) 0;
  next_within = mesh.next_within;
  prev_within = mesh.prev_within;
  origin_within = mesh.origin_within;
  next_prev = mesh.next_prev;
  prev_next = mesh.prev_next;
  joined = mesh.joined;
  ends = mesh.ends;
  one_face = record {
    same = λ h l. get_or-replicate (size m) _ 0 0 (mesh.next_within h l)
        ∙ sym (get_or-replicate (size m) h 0 0 l);
  };
}

pub unset_added : (m : HalfEdges) (x y : ℕ) (next : List ℕ) → next ≡ m.next ++ x ∷ y ∷ []
    → replicate {A = ℕ} (length next) 0 ≡ replicate (size m) 0 ++ 0 ∷ 0 ∷ []
unset_added m x y next ne =
    rw (ne, pair_length m.next (size m) x y refl)
    (sym (replicate-append-replicate (size m) 2 0))
