-- What the mesh and the marks say of a half-edge's link.
use Rattle.std.proofs.Common.{◌≡◌, ◌↔◌, ◌⊎◌, ℕ, zero, suc, ◌+◌, ◌*◌, ◌<◌, ◌≤◌, inl, inr, Bool, true}
use Rattle.std.proofs.Common.{false, IsTrue, List, [], ◌∷◌, length, get_or, refl, arith, ap, sym}
use Rattle.std.proofs.Common.{◌∙◌, subst}
use Rattle.plane.specs.Faces.Halves.{Beside, Half, edge_of, half_of, mark, number, over, under}
use Rattle.half_edges.specs.HalfEdges.{HalfEdges, next_of, prev_of, size}
use Rattle.half_edges.specs.Meshes.{IsMesh}
use Rattle.certificate.specs.declared.notes.HalfNote.{HalfNote}
use Rattle.certificate.specs.declared.notes.Link.{Link}
use Rattle.certificate.specs.declared.notes.Link.TheVariants as link
use Rattle.certificate.specs.declared.notes.PointPlace.TheVariants as place
use Rattle.certificate_checker.specs.Ended.{HasEnded, IsAtOwnTube, IsMarkedRoot}
use Rattle.certificate_checker.specs.Marked.{IsMarked}
use Rattle.certificate_checker.specs.Rules.{FacesTube, FallsTo, HasLowLabels, IsInOwnCell, IsLinked}
use Rattle.certificate_checker.specs.Rules.{IsPointPlaced, IsRootOf, LeadsBy}
use Rattle.certificate_checker.specs.Subjects.{Subject, index_of, labels, note_at, place_at, rank}
use Rattle.certificate_checker.specs.Subjects.{replay_of, sector_of, strip_of}
use Rattle.certificate_checker.proofs.Marking.{half_over, half_under}
use Rattle.certificate_checker.proofs.ListParts.{of_at}
use Rattle.certificate_checker.proofs.Placing.{of_before}
use Rattle.certificate_checker.proofs.PlaneLaws.{below_number, half_number, number_below}
use Rattle.certificate_checker.proofs.PlaneLaws.{number_half}

-- ---- notes by number
pub mark_is : (s : Subject) (h : Half) → mark (labels s) h ≡ (note_at s h).label
mark_is s (under e) = refl
mark_is s (over e) = refl

same_note : (notes : List HalfNote) (n : ℕ) (d f : HalfNote) → n < length notes
    → get_or notes n d ≡ get_or notes n f
same_note [] n d f l = absurd (omega (arith, l))
same_note (x ∷ notes) zero d f l = refl
same_note (x ∷ notes) (suc n) d f l = same_note notes n d f (omega (arith, l))

pub note_is : (s : Subject) (n : ℕ) (d : HalfNote) → n < length s.claims.notes
    → get_or s.claims.notes n d ≡ note_at s (half_of n)
note_is s n d l = same_note s.claims.notes n d _ l
    ∙ ap (λ (k : ℕ). get_or s.claims.notes k (record { label = 0; link = link.Root; rank = 0 }))
    (sym (number_half n))

pub label_is : (s : Subject) (n : ℕ) (d : HalfNote) → n < length s.claims.notes
    → (get_or s.claims.notes n d).label ≡ mark (labels s) (half_of n)
label_is s n d l = ap (λ (x : HalfNote). x.label) (note_is s n d l) ∙ sym (mark_is s (half_of n))

pub rank_is : (s : Subject) (n : ℕ) (d : HalfNote) → n < length s.claims.notes
    → (get_or s.claims.notes n d).rank ≡ rank s (half_of n)
rank_is s n d l = ap (λ (x : HalfNote). x.rank) (note_is s n d l)

pub label_as : (s : Subject) (notes : List HalfNote) (n : ℕ) (d : HalfNote) → notes ≡ s.claims.notes
    → n < length s.claims.notes → (get_or notes n d).label ≡ mark (labels s) (half_of n)
label_as s notes n d e l = ap (λ (ns : List HalfNote). (get_or ns n d).label) e ∙ label_is s n d l

pub rank_as : (s : Subject) (notes : List HalfNote) (n : ℕ) (d : HalfNote) → notes ≡ s.claims.notes
    → n < length s.claims.notes → (get_or notes n d).rank ≡ rank s (half_of n)
rank_as s notes n d e l = ap (λ (ns : List HalfNote). (get_or ns n d).rank) e ∙ rank_is s n d l

pub link_as : (s : Subject) (notes : List HalfNote) (n : ℕ) (d : HalfNote) → notes ≡ s.claims.notes
    → n < length s.claims.notes → (get_or notes n d).link ≡ (note_at s (half_of n)).link
link_as s notes n d e l = ap (λ (ns : List HalfNote). (get_or ns n d).link) e
    ∙ ap (λ (x : HalfNote). x.link) (note_is s n d l)

pub linked_by : (s : Subject) (n : ℕ) (k : Link) (b : Bool) → (note_at s (half_of n)).link ≡ k
    → IsTrue b ↔ LeadsBy s (half_of n) k → IsTrue b ↔ IsLinked s (half_of n)
linked_by s n k b e f = subst (λ (k : Link). IsTrue b ↔ LeadsBy s (half_of n) k) (sym e) f

-- ---- marks by number
same_mark : (marks : List Bool) (n : ℕ) (d f : Bool) → n < length marks
    → get_or marks n d ≡ get_or marks n f
same_mark [] n d f l = absurd (omega (arith, l))
same_mark (x ∷ marks) zero d f l = refl
same_mark (x ∷ marks) (suc n) d f l = same_mark marks n d f (omega (arith, l))

pub marked_as : (marks : List Bool) (n : ℕ) (d : Bool) → n < length marks
    → IsTrue (get_or marks n d) ↔ IsMarked marks (half_of n)
marked_as marks n d l =
    subst (λ (b : Bool). IsTrue (get_or marks n d) ↔ (b ≡ true)) (same_mark marks n d false l
    ∙ ap (λ (k : ℕ). get_or marks k false) (sym (number_half n))) ((λ x. x), (λ x. x))

-- ---- low labels
pub low_no : (s : Subject) (e : ℕ) → (mark (labels s) (half_of (2 * e)) ≤ length s.points → ⊥)
    → HasLowLabels s e → ⊥
low_no s e f x =
    f (subst (λ (h : Half). mark (labels s) h ≤ length s.points) (sym (half_under e)) x.under)

pub low_is : (s : Subject) (e : ℕ) (b : Bool) → mark (labels s) (half_of (2 * e)) ≤ length s.points
    → IsTrue b ↔ (mark (labels s) (half_of (2 * e + 1)) ≤ length s.points)
    → IsTrue b ↔ HasLowLabels s e
low_is s e b l f = (
  (λ t. record {
    under = subst (λ (h : Half). mark (labels s) h ≤ length s.points) (half_under e) l;
    over = subst (λ (h : Half). mark (labels s) h ≤ length s.points) (half_over e) (f.0 t);
  }),
  (λ x. f.1 (subst (λ (h : Half). mark (labels s) h ≤ length s.points) (sym (half_over e)) x.over)),
)

-- ---- falling links
pub half_within : (s : Subject) (n : ℕ) → n < 2 * length s.edges
    → edge_of (half_of n) < length s.edges
half_within s n l =
    below_number (half_of n) (length s.edges) (let q = number_half n in omega (arith, l, q))

pub within_half : (s : Subject) (n : ℕ) → edge_of (half_of n) < length s.edges
    → n < 2 * length s.edges
within_half s n l =
    let a = number_below (half_of n) (length s.edges) l in
    let q = number_half n in omega (arith, a, q)

-- ---- the labels beside a point
label_beside : (s : Subject) (h : Half) (j : ℕ) → IsInOwnCell s j
    → Beside (replay_of s) h (sector_of s j) → mark (labels s) h ≡ suc j
label_beside s (over d) j p b =
    let es = (replay_of s).list (strip_of s j) in
    let q = (of_before es (index_of s j) d b).1 in
    let r = (of_before es (index_of s j) p.between.lower p.between.is_lower).1 in
    subst (λ (e : ℕ). (note_at s (over e)).label ≡ suc j) (sym r ∙ q) p.lower
label_beside s (under d) j p b =
    let es = (replay_of s).list (strip_of s j) in
    let q = (of_at es (index_of s j) d b).1 in
    let r = (of_at es (index_of s j) p.between.upper p.between.is_upper).1 in
    subst (λ (e : ℕ). (note_at s (under e)).label ≡ suc j) (sym r ∙ q) p.upper

cell_tube : (i : ℕ) (curve : ℕ) (inside : Bool) → place.Cell i ≡ place.Tube curve inside → ⊥
cell_tube i curve inside e = cc

-- where three of four do not hold, the fourth is left
pub last_mark : {A B C D P : Type 0} → (A → ⊥) → (B → ⊥) → (C → ⊥) → A ⊎ (B ⊎ (C ⊎ D)) → (D → P) → P
last_mark f g h (inl a) k = absurd (f a)
last_mark f g h (inr (inl b)) k = absurd (g b)
last_mark f g h (inr (inr (inl c))) k = absurd (h c)
last_mark f g h (inr (inr (inr d))) k = k d

-- a point that is placed in a cell is in its own one
pub own_cell : (s : Subject) (j i : ℕ) → place_at s j ≡ place.Cell i → IsPointPlaced s j
    → IsInOwnCell s j
own_cell s j i e (inl p) = p
own_cell s j i e (inr p) = absurd (cell_tube i p.curve p.inside (sym e ∙ p.tube))

module _ (s : Subject) (mesh : HalfEdges) (border across point : List Bool)
    (e : HasEnded s mesh border across point) (n : ℕ) (l : n < 2 * length s.edges) where
  abbrev h : Half
  h = half_of n

  here : edge_of h < length s.edges
  here = below_number h (length s.edges) (let q = number_half n in omega (arith, l, q))

  abbrev Marks : Type 0
  Marks = FacesTube s h
      ⊎ (IsMarked point h ⊎ (IsAtOwnTube s h ⊎ ((mark (labels s) h ≡ 0) × IsMarked border h)))

  root_of_marks : Marks → IsRootOf s h
  root_of_marks (inl f) = inl f
  root_of_marks (inr (inl p)) =
      let q = (e.at_point h).0 p in
      inr (inr (
        q.0,
        q.1,
        label_beside s h q.0 q.2.0 q.2.1,
        inl (record { cell = q.2.0.cell; beside = q.2.1 }),
      ))
  root_of_marks (inr (inr (inl (j, k, q, b)))) = inr (inr (j, k, q, inr b))
  root_of_marks (inr (inr (inr q))) = inr (inl (q.0, (e.at_border h).0 q.1))

  marks_of_root : IsRootOf s h → Marks
  marks_of_root (inl f) = inl f
  marks_of_root (inr (inl q)) = inr (inr (inr (q.0, (e.at_border h).1 q.1)))
  marks_of_root (inr (inr (j, k, q, inl b))) =
      inr (inl ((e.at_point h).1 (
        j,
        k,
        (own_cell s j (index_of s j) b.cell (e.placed j k), b.beside),
      )))
  marks_of_root (inr (inr (j, k, q, inr b))) = inr (inr (inl (j, k, q, b)))

  pub root_leads : (b : Bool) → IsTrue b ↔ IsMarkedRoot s border point h
      → IsTrue b ↔ LeadsBy s h link.Root
  root_leads b f = (
    (λ t. let r = f.0 t in (r.rank, root_of_marks r.marks)),
    (λ x. f.1 (record { rank = x.0; marks = marks_of_root x.1 })),
  )

  pub next_leads : (b : Bool) → IsTrue b ↔ FallsTo s h (half_of (next_of mesh n))
      → IsTrue b ↔ LeadsBy s h link.Next
  next_leads b f = (
    (λ t. (
      half_of (next_of mesh n),
      (e.next h (half_of (next_of mesh n)) here).0
          (ap (next_of mesh) (number_half n) ∙ sym (number_half (next_of mesh n))),
      f.0 t,
    )),
    (λ x.
        let q : next_of mesh n ≡ number x.0 = ap (next_of mesh) (sym (number_half n))
        ∙ (e.next h x.0 here).1 x.1 in
        f.1 (subst (λ (g : Half). FallsTo s h g) (sym (half_number x.0) ∙ ap half_of (sym q)) x.2)),
  )

  pub prev_leads : IsMesh mesh → (b : Bool) → IsTrue b ↔ FallsTo s h (half_of (prev_of mesh n))
      → IsTrue b ↔ LeadsBy s h link.Prev
  prev_leads ok b f = (
    (λ t. (
      half_of (prev_of mesh n),
      (e.next (half_of (prev_of mesh n)) h back).0
          (ap (next_of mesh) (number_half (prev_of mesh n)) ∙ ok.next_prev n inside
          ∙ sym (number_half n)),
      f.0 t,
    )),
    (λ x.
        let q : next_of mesh (number x.0) ≡ n = (e.next x.0 h x.2.fits).1 x.1 ∙ number_half n in
        let r : prev_of mesh n ≡ number x.0 = ap (prev_of mesh) (sym q)
        ∙ ok.prev_next (number x.0) (let a = number_below x.0 (length s.edges) x.2.fits in
        let z = e.size in omega (arith, a, z)) in
        f.1 (subst (λ (g : Half). FallsTo s h g) (sym (half_number x.0) ∙ ap half_of (sym r)) x.2)),
  )
    where
      inside : n < size mesh
      inside = let z = e.size in omega (arith, l, z)

      back : edge_of (half_of (prev_of mesh n)) < length s.edges
      back = below_number (half_of (prev_of mesh n)) (length s.edges)
          (let a = ok.prev_within n inside in let z = e.size in
          let q = number_half (prev_of mesh n) in omega (arith, a, z, q))

  no_fall : (g : Half) → h ≡ g → FallsTo s h g → ⊥
  no_fall g q f = let r = f.less in let w = ap (rank s) q in omega (arith, r, w)

  pub across_leads : (g : ℕ) (b : Bool) → (note_at s h).link ≡ link.Across g → IsMarked across h
      → IsTrue b ↔ FallsTo s h (half_of g) → IsTrue b ↔ LeadsBy s h (link.Across g)
  across_leads g b k m f = ((λ t. (e.is_across h g k m, f.0 t)), (λ x. f.1 x.1))

  pub not_across : (g : ℕ) → (note_at s h).link ≡ link.Across g → (IsMarked across h → ⊥)
      → LeadsBy s h (link.Across g) → ⊥
  not_across g k m x =
      elim (e.across_is h g k x.0) [ inl q ↦ no_fall (half_of g) q x.1 | inr y ↦ m y ]
