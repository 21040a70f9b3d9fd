-- Faces by number: the next half-edge without face gets the next number.
use Rattle.std.proofs.Common.{◌≡◌, ℕ, zero, suc, ◌+◌, ◌<◌, ◌≤◌, max, ◌==◌, Bool, true, false, not}
use Rattle.std.proofs.Common.{◌⊎◌, inl, inr, List, [], ◌∷◌, ◌++◌, length, take, replicate, get_or}
use Rattle.std.proofs.Common.{refl, arith, ap, sym, ◌∙◌, subst}
use Rattle.std.proofs.lemmas.Bool.Decides.{Decides-eqb}
use Rattle.std.proofs.lemmas.List.{take_more}
use Rattle.plane.specs.Lists.{Has}
use Rattle.plane.specs.Runs.Gaps.{Gap}
use Rattle.half_edges.specs.HalfEdges.{HalfEdges, size, next_of}
use Rattle.half_edges.specs.Meshes.{AgreesAlong, IsMesh}
use Rattle.faces.specs.declared.searching.Search.{Search}
use Rattle.faces.specs.Joined.{AreKnown, AtBorder, Joined, across, back, onward, outside, same}
use Rattle.faces.specs.Labels.{AreFaces, IsNumbered, greatest}
use Rattle.faces.specs.Searching.{HasSearched, IsGiven, IsKept, IsNear, IsNumberedTo, IsSet}
use Rattle.faces.specs.Searching.{IsWaiting, unset}
use Rattle.faces.proofs.PairCounts.{by_lt}
use Rattle.faces.proofs.PairRows.{place_of}
use Rattle.faces.proofs.PlaneLaws.{has_back, has_front}
use Rattle.faces.proofs.Searches.{border_within, near_within}

-- ---- lists of faces
same_front : (xs ys : List ℕ) (k : ℕ) → length xs ≡ length ys
    → ((i : ℕ) → i < k → get_or xs i 0 ≡ get_or ys i 0) → take k xs ≡ take k ys
same_front xs ys zero e f = refl
same_front [] [] (suc k) e f = refl
same_front [] (y ∷ ys) (suc k) e f = absurd (omega (arith, e))
same_front (x ∷ xs) [] (suc k) e f = absurd (omega (arith, e))
same_front (x ∷ xs) (y ∷ ys) (suc k) e f =
    ap (λ (z : ℕ). z ∷ take k xs) (f 0 (omega arith))
    ∙ ap (λ (zs : List ℕ). y ∷ zs)
    (same_front xs ys k (omega (arith, e)) (λ i l. f (suc i) (omega (arith, l))))

greatest_append : (xs : List ℕ) (y : ℕ) → greatest (xs ++ y ∷ []) ≡ max (greatest xs) y
greatest_append [] y = omega arith
greatest_append (x ∷ xs) y = let r = greatest_append xs y in omega (arith, r)

greatest_next : (xs : List ℕ) (i : ℕ) → i < length xs
    → greatest (take (i + 1) xs) ≡ max (greatest (take i xs)) (get_or xs i 0)
greatest_next xs i l = ap greatest (take_more xs i 0 l)
    ∙ greatest_append (take i xs) (get_or xs i 0)

front_has : (xs : List ℕ) (i x : ℕ) → i < length xs → Has x (take i xs) → Has x (take (i + 1) xs)
front_has xs i x l h =
    subst (λ (ys : List ℕ). Has x ys) (sym (take_more xs i 0 l))
    (has_front x (take i xs) (get_or xs i 0 ∷ []) h)

last_has : (xs : List ℕ) (i : ℕ) → i < length xs → Has (get_or xs i 0) (take (i + 1) xs)
last_has xs i l =
    subst (λ (ys : List ℕ). Has (get_or xs i 0) ys) (sym (take_more xs i 0 l))
    (has_back (get_or xs i 0) (take i xs) (get_or xs i 0 ∷ []) (inl refl))

pub none_replicated : (n i x : ℕ) → i < n → get_or (replicate n x) i 0 ≡ x
none_replicated zero i x l = absurd (omega (arith, l))
none_replicated (suc n) zero x l = refl
none_replicated (suc n) (suc i) x l = none_replicated n i x (omega (arith, l))

or_last : (i k : ℕ) → i < k + 1 → (i < k) ⊎ (i ≡ k)
or_last i k l = by_lt i k (λ (b : i < k). inl b) (λ (b : k ≤ i). inr (omega (arith, l, b)))

module _ (mesh : HalfEdges) (cells : List Gap) (h count : ℕ) (old : Search)
    (n : IsNumberedTo mesh cells h count old) (l : h < size mesh) where
  sized : length old.faces.items ≡ size mesh
  sized = n.searched.searched.sized

  -- the half-edge has a face
  pub number_kept : IsSet old.faces.items h → IsNumberedTo mesh cells (h + 1) count old
  number_kept k =
      let v = n.values h l k in
      let w : h < length old.faces.items = (let z = sized in omega (arith, l, z)) in
      record {
        searched = n.searched;
        done = n.done;
        few = let f = n.few in omega (arith, f);
        reached = λ g m. elim (or_last g h m) [
          | inl b ↦ n.reached g b
          | inr q ↦ subst (λ (i : ℕ). IsSet old.faces.items i) (sym q) k
        ];
        values = n.values;
        seeds = λ f a b. front_has old.faces.items h f w (n.seeds f a b);
        numbered = λ g m. elim (or_last g h m) [
          | inl b ↦ n.numbered g b
          | inr q ↦ subst (λ (i : ℕ). IsNumbered old.faces.items i) (sym q)
              (by_zero (get_or old.faces.items h 0) refl v)
        ];
        count_is =
            let c = n.count_is in
            let g = greatest_next old.faces.items h w in omega (arith, c, g, v);
        border = n.border;
      }
    where
      by_zero : (f : ℕ) → get_or old.faces.items h 0 ≡ f → get_or old.faces.items h 0 < count
          → IsNumbered old.faces.items h
      by_zero zero e v = inl (inl e)
      by_zero (suc f) e v = inl (inr (n.seeds (get_or old.faces.items h 0) (omega (arith, e)) v))

  -- it gets the next number, which spreads
  module _ (new : Search) (s : HasSearched mesh cells new) (d : new.passed ≡ length new.queue.items)
      (kept : IsKept old.faces.items new.faces.items) (here : get_or new.faces.items h 0 ≡ count)
      (fine : (g : ℕ) → g < size mesh → IsSet new.faces.items g
      → IsSet old.faces.items g ⊎ (get_or new.faces.items g 0 ≡ count)) where
    new_sized : length new.faces.items ≡ size mesh
    new_sized = s.searched.sized

    front_same : take h new.faces.items ≡ take h old.faces.items
    front_same =
        same_front new.faces.items old.faces.items h (new_sized ∙ sym sized)
        (λ i b. kept i (n.reached i b))

    count_set : count < unset → IsSet new.faces.items h
    count_set b e = let q = here in omega (arith, e, q, b)

    old_front : (g : ℕ) → g < h → take g new.faces.items ≡ take g old.faces.items
    old_front g b =
        same_front new.faces.items old.faces.items g (new_sized ∙ sym sized)
        (λ i m. kept i (n.reached i (omega (arith, b, m))))

    within : h < length new.faces.items
    within = let z = new_sized in omega (arith, l, z)

    numbered_front : (g : ℕ) → g < h → IsNumbered new.faces.items g
    numbered_front g b =
        let e = kept g (n.reached g b) in
        let t = old_front g b in
        elim (n.numbered g b) [
          | inl k ↦ inl
              (subst (λ (x : ℕ). Has x (0 ∷ take g new.faces.items)) (sym e)
              (subst (λ (xs : List ℕ). Has (get_or old.faces.items g 0) (0 ∷ xs)) (sym t) k))
          | inr q ↦ inr (e ∙ q ∙ ap (λ (xs : List ℕ). suc (greatest xs)) (sym t))
        ]

    values_next : (g : ℕ) → g < size mesh → IsSet new.faces.items g
        → get_or new.faces.items g 0 < count + 1
    values_next g m k = elim (fine g m k) [
      | inl o ↦ (let v = n.values g m o in let e = kept g o in omega (arith, v, e))
      | inr q ↦ omega (arith, q)
    ]

    seeds_next : (f : ℕ) → 0 < f → f < count + 1 → Has f (take (h + 1) new.faces.items)
    seeds_next f a b = elim (or_last f count b) [
      | inl m ↦ front_has new.faces.items h f within
          (subst (λ (xs : List ℕ). Has f xs) (sym front_same) (n.seeds f a m))
      | inr q ↦ subst (λ (x : ℕ). Has x (take (h + 1) new.faces.items)) (here ∙ sym q)
          (last_has new.faces.items h within)
    ]

    pub number_next : count < unset → IsNumberedTo mesh cells (h + 1) (count + 1) new
    number_next below = record {
      searched = s;
      done = d;
      few = let f = n.few in omega (arith, f);
      reached = λ g m. elim (or_last g h m) [
        | inl b ↦ (λ (e : get_or new.faces.items g 0 ≡ unset). n.reached g b
            (sym (kept g (n.reached g b)) ∙ e))
        | inr q ↦ subst (λ (i : ℕ). IsSet new.faces.items i) (sym q) (count_set below)
      ];
      values = values_next;
      seeds = seeds_next;
      numbered = λ g m. elim (or_last g h m) [
        | inl b ↦ numbered_front g b
        | inr q ↦ subst (λ (i : ℕ). IsNumbered new.faces.items i) (sym q)
            (inr (here ∙ n.count_is ∙ ap (λ (xs : List ℕ). suc (greatest xs)) (sym front_same)))
      ];
      count_is =
          let c = n.count_is in
          let g = greatest_next new.faces.items h within in
          let e = ap greatest front_same in
          let q = here in
          omega (arith, c, g, e, q);
      border = λ g b. kept g (border_set g b) ∙ n.border g b;
    }
      where
        border_set : (g : ℕ) → AtBorder cells g → IsSet old.faces.items g
        border_set g b e = let q = n.border g b in omega (arith, e, q)

-- ---- at the end
module _ (mesh : HalfEdges) (cells : List Gap) (is : IsMesh mesh)
    (known : AreKnown (size mesh) cells) (count : ℕ) (s : Search)
    (n : IsNumberedTo mesh cells (size mesh) count s) where
  abbrev faces : List ℕ
  faces = s.faces.items

  set_all : (h : ℕ) → h < size mesh → IsSet faces h
  set_all = n.reached

  -- all that one step leads to has the same face
  near_same : (g h : ℕ) → g < size mesh → IsNear mesh cells g h
      → get_or faces h 0 ≡ get_or faces g 0
  near_same g h l m =
      let (i, b, e) = place_of g s.queue.items (n.searched.searched.all g l (set_all g l)) in
      let c = n.searched.searched.closed i h (let d = n.done in
      omega (arith, b, d)) (subst (λ (x : ℕ). IsNear mesh cells x h) (sym e) m) in
      c ∙ ap (λ (x : ℕ). get_or faces x 0) e

  joined_same : (g h : ℕ) → g < size mesh → Joined mesh cells g h
      → get_or faces g 0 ≡ get_or faces h 0
  joined_same _ _ l (same g h e) = ap (λ (x : ℕ). get_or faces x 0) e
  joined_same _ _ l (onward g f h b e j) =
      sym (near_same g f l (inl e))
      ∙ joined_same f h (near_within mesh cells is known g f l (inl e)) j
  joined_same _ _ l (back g f h b e j) = near_same f g b (inl e) ∙ joined_same f h b j
  joined_same _ _ l (across g f h a j) =
      sym (near_same g f l (inr (inr a)))
      ∙ joined_same f h (near_within mesh cells is known g f l (inr (inr a))) j
  joined_same _ _ l (outside g f h a b j) =
      n.border g a ∙ sym (n.border f b) ∙ joined_same f h (border_within mesh cells is known f b) j

  pub faces_are : AreFaces mesh cells faces
  faces_are = record {
    size_is = n.searched.searched.sized;
    one = λ g h l m. ((λ e. n.searched.searched.sound g h l m (set_all g l) e), joined_same g h l);
    outer = λ h l. (
      (λ e. n.searched.searched.outer h l e),
      (λ k. let (t, j, b) = k in joined_same h t l j ∙ n.border t b),
    );
    numbered = n.numbered;
  }

  pub count_at_end : count ≡ suc (greatest faces)
  count_at_end =
      n.count_is ∙ ap (λ (xs : List ℕ). suc (greatest xs))
      (whole faces (size mesh) (let z = n.searched.searched.sized in omega (arith, z)))
    where
      whole : (xs : List ℕ) (k : ℕ) → length xs ≤ k → take k xs ≡ xs
      whole [] zero l = refl
      whole [] (suc k) l = refl
      whole (x ∷ xs) zero l = absurd (omega (arith, l))
      whole (x ∷ xs) (suc k) l = ap (λ (ys : List ℕ). x ∷ ys) (whole xs k (omega (arith, l)))

-- ---- at the beginning, when the face at the border has spread
module _ (mesh : HalfEdges) (cells : List Gap) (b s : Search) (first : HasSearched mesh cells b)
    (begun : b.passed ≡ 0) (waiting : IsWaiting b 0) (border : (h : ℕ) → AtBorder cells h
    → get_or b.faces.items h 0 ≡ 0)
    (searched : HasSearched mesh cells s) (done : s.passed ≡ length s.queue.items)
    (kept : IsKept b.faces.items s.faces.items)
    (given : IsGiven 0 b.faces.items s.faces.items) where
  zero_kept : (g : ℕ) → get_or b.faces.items g 0 ≡ 0 → get_or s.faces.items g 0 ≡ 0
  zero_kept g e = kept g (λ (q : get_or b.faces.items g 0 ≡ unset). omega (arith, q, e)) ∙ e

  all_zero : (g : ℕ) → g < size mesh → IsSet s.faces.items g → get_or s.faces.items g 0 ≡ 0
  all_zero g l k = elim (given g k) [
    | inl o ↦
        (let (i, m, e) = place_of g b.queue.items (first.searched.all g l o) in
        zero_kept g (ap (λ (x : ℕ). get_or b.faces.items x 0) (sym e)
        ∙ waiting i (omega (arith, begun)) m))
    | inr e ↦ e
  ]

  pub numbering_begun : IsNumberedTo mesh cells 0 1 s
  numbering_begun = record {
    searched = searched;
    done = done;
    few = omega arith;
    reached = λ g l. absurd (omega (arith, l));
    values = λ g l k. let e = all_zero g l k in omega (arith, e);
    seeds = λ f p q. absurd (omega (arith, p, q));
    numbered = λ g l. absurd (omega (arith, l));
    count_is = refl;
    border = λ g k. zero_kept g (border g k);
  }

-- ---- the test for a half-edge without face
clash : true ≡ false → ⊥
clash q = cc

pub has_face : (x n : ℕ) → true ≡ not (x == n) → x ≡ n → ⊥
has_face x n e q = clash (e ∙ ap not ((Decides-eqb x n).1 q))

pub has_none : (x n : ℕ) → false ≡ not (x == n) → x ≡ n
has_none x n e = by_test (x == n) refl
  where
    by_test : (t : Bool) → (x == n) ≡ t → x ≡ n
    by_test true q = (Decides-eqb x n).0 q
    by_test false q = absurd (clash (sym (e ∙ ap not q)))

-- no half-edge has the next number yet
pub none_joins : (mesh : HalfEdges) (cells : List Gap) (h count : ℕ) (s : Search)
    → IsNumberedTo mesh cells h count s → count < unset → (g : ℕ) → g < size mesh
    → get_or s.faces.items g 0 ≡ count → Joined mesh cells h g
none_joins mesh cells h count s n f g l e =
    absurd (let v = n.values g l
    (λ (q : get_or s.faces.items g 0 ≡ unset). omega (arith, q, e, f)) in omega (arith, v, e))

pub never_zero : (mesh : HalfEdges) (cells : List Gap) (h count : ℕ) (s : Search) {P : Type 0}
    → IsNumberedTo mesh cells h count s → count ≡ 0 → P
never_zero mesh cells h count s n e = absurd (let c = n.count_is in omega (arith, c, e))

-- what the numbers say along the way round a face
pub faces_agree : (mesh : HalfEdges) (cells : List Gap) (faces : List ℕ) → IsMesh mesh
    → AreFaces mesh cells faces → AgreesAlong mesh.next faces
faces_agree mesh cells faces is f =
    record {
      same = λ h l. (f.one (next_of mesh h) h (is.next_within h l) l).1
          (back (next_of mesh h) h h l refl (same h h refl));
    }
