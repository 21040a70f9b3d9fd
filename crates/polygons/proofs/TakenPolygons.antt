-- Polygons that are taken out of a list, one by one.
use Rattle.std.proofs.Common.{◌≡◌, ℕ, ◌<◌, ◌≤◌, ◌+◌, arith, ap, sym, ◌∙◌, inl, inr, List, [], ◌∷◌}
use Rattle.std.proofs.Common.{◌++◌, length, get_or, set, slice_index, subst}
use Rattle.std.proofs.lemmas.Bool.{cases_eq}
use Rattle.std.proofs.lemmas.List.{get_or_append_left, get_or_push, length-append, map-append}
use Rattle.plane.specs.declared.kinds.Point.{Point}
use Rattle.half_edges.specs.HalfEdges.{HalfEdges}
use Rattle.polygons.specs.declared.kinds.Polygon.{Polygon}
use Rattle.polygons.specs.Leading.{shapes}
use Rattle.polygons.specs.Outlines.{AreChosen, AreTaken, ArePolygons, outline, outlines}
use Rattle.polygons.specs.Polygons.{IsPolygonOf}
use Rattle.polygons.proofs.Outlining.{outline_at, outline_set_other}

-- no two numbers of the list are equal
abbrev pub AreApart : List ℕ → Type 0
AreApart ns = (i j : ℕ) → i < length ns → j < length ns → slice_index ns i ≡ slice_index ns j
    → i ≡ j

-- those from place k on are still as they were
abbrev pub AreLeft : List Polygon → List Polygon → List ℕ → ℕ → Type 0
AreLeft old now ns k = (j : ℕ) → k ≤ j → j < length ns
    → outline (outlines now) (slice_index ns j) ≡ outline (outlines old) (slice_index ns j)

pub left_more : (old now : List Polygon) (ns : List ℕ) (k n : ℕ) (p : Polygon) → AreApart ns
    → k < length ns → n ≡ slice_index ns k → AreLeft old now ns k
    → AreLeft old (set now n p) ns (k + 1)
left_more old now ns k n p apart l is left j m under =
    outline_set_other now n (slice_index ns j) p (λ e. let q = apart j k under l (e ∙ is) in
    absurd (omega (arith, q, m)))
    ∙ left j (omega (arith, m)) under

push_outlines : (ps : List Polygon) (p : Polygon)
    → outlines (ps ++ p ∷ []) ≡ outlines ps ++ shapes p.rings.items ∷ []
push_outlines ps p = map-append (λ (q : Polygon). shapes q.rings.items) ps (p ∷ [])

pub taken_more : (old now : List Polygon) (ns : List ℕ) (k n : ℕ) (d p : Polygon)
    (taken new : List Polygon)
    → k < length ns → n ≡ slice_index ns k → n < length now → AreLeft old now ns k
    → shapes p.rings.items ≡ shapes (get_or now n d).rings.items → new ≡ taken ++ p ∷ []
    → AreTaken (outlines old) ns k (outlines taken)
    → AreTaken (outlines old) ns (k + 1) (outlines new)
taken_more old now ns k n d p taken new l is there left same more a =
    let size = a.size in
    let pushed : outlines new ≡ outlines taken ++ shapes p.rings.items ∷ [] = ap outlines more
    ∙ push_outlines taken p in
    let count = ap length pushed ∙ length-append (outlines taken) (shapes p.rings.items ∷ []) in
    record {
      size = omega (arith, count, size);
      each = λ j under. elim (cases_eq j k) [
        | inl e ↦
            ap (λ (os : List (List (List Point))). outline os j) pushed
            ∙ (get_or_push (outlines taken) (shapes p.rings.items) [] j (omega (arith, size, e))
            ∙ (same
            ∙ (sym (outline_at now n d there)
            ∙ (ap (outline (outlines now)) is
            ∙ (left k (omega arith) l
            ∙ ap (λ (i : ℕ). outline (outlines old) (slice_index ns i)) (sym e))))))
        | inr ne ↦
            ap (λ (os : List (List (List Point))). outline os j) pushed
            ∙ (get_or_append_left (outlines taken) (shapes p.rings.items ∷ []) [] j
            (omega (arith, size, under, ne)) ∙ a.each j (omega (arith, under, ne)))
      ];
    }

pub chosen_of : (m : HalfEdges) (at : List Point) (count : ℕ) (old : List Polygon) (ns : List ℕ)
    (taken : List Polygon)
    → ArePolygons m at count (outlines old) → ((j : ℕ) → j < length ns → slice_index ns j < count)
    → AreTaken (outlines old) ns (length ns) (outlines taken) → AreChosen m at ns (outlines taken)
chosen_of m at count old ns taken are known a = record {
  size = a.size;
  each = λ j l. subst (IsPolygonOf m at (slice_index ns j)) (sym (a.each j l))
      (are.each (slice_index ns j) (known j l));
}
