-- Cells with the same joins have the same faces, ranks and notes.
use Rattle.std.proofs.Common.{inl, inr, ℕ, ◌<◌, List, arith}
use Rattle.std.specs.Prelude.{Err, IfOk, Ok, Result}
use Rattle.certificate.specs.declared.notes.HalfNote.{HalfNote}
use Rattle.certificate.specs.declared.notes.Link.{Link}
use Rattle.certificate.specs.declared.notes.Link.TheVariants as link
use Rattle.half_edges.specs.HalfEdges.{HalfEdges, size}
use Rattle.plane.specs.Runs.Gaps.{Gap}
use Rattle.faces.specs.declared.joins.Joins.{Joins}
use Rattle.faces.specs.Joined.{Across, AreKnown, AtBorder, Joined, across, back, onward, outside}
use Rattle.faces.specs.Joined.{same}
use Rattle.faces.specs.Joins.{AreJoins}
use Rattle.faces.specs.Labels.{AreFaces}
use Rattle.faces.specs.Ranking.{AreNotes, AreRanks, AreRooted, IsLink, Leads, step, there}
use Rattle.faces.specs.Searching.{IsNear}

pub if_ok : {V E : Type 0} (P Q : V → Type 0) (r : Result V E) → ((v : V) → P v → Q v) → IfOk r P
    → IfOk r Q
if_ok P Q (Ok v) f h = f v h
if_ok P Q (Err e) f h = h

across_known : (n : ℕ) (cells : List Gap) → AreKnown n cells → (g h : ℕ) → Across cells g h → g < n
across_known n cells known g h (inl b) =
    let (c, k, l, u) = b.cell in
    let w = known c b.lower k (inl l) in let e = b.low_side in omega (arith, w, e)
across_known n cells known g h (inr b) =
    let (c, k, l, u) = b.cell in
    let w = known c b.upper k (inr u) in let e = b.high_side in omega (arith, w, e)

module _ (mesh : HalfEdges) (a b : List Gap) (j : Joins) (here : AreJoins (size mesh) a j)
    (there' : AreJoins (size mesh) b j) where
  across_same : (g h : ℕ) → Across a g h → Across b g h
  across_same g h w =
      let l = across_known (size mesh) a here.known g h w in
      (there'.rows.rows g h l).0 ((here.rows.rows g h l).1 w)

  border_same : (h : ℕ) → AtBorder a h → AtBorder b h
  border_same h w = (there'.border h).0 ((here.border h).1 w)

  joined_same : (g h : ℕ) → Joined mesh a g h → Joined mesh b g h
  joined_same g i (same _ _ e) = same g i e
  joined_same g i (onward _ h _ l e w) = onward g h i l e (joined_same h i w)
  joined_same g i (back _ h _ l e w) = back g h i l e (joined_same h i w)
  joined_same g i (across _ h _ x w) = across g h i (across_same g h x) (joined_same h i w)
  joined_same g i (outside _ h _ x y w) =
      outside g h i (border_same g x) (border_same h y) (joined_same h i w)

  near_same : (g h : ℕ) → IsNear mesh a g h → IsNear mesh b g h
  near_same g h (inl e) = inl e
  near_same g h (inr (inl e)) = inr (inl e)
  near_same g h (inr (inr x)) = inr (inr (across_same g h x))

  leads_same : (g h : ℕ) → Leads mesh a g h → Leads mesh b g h
  leads_same g i (there _ _ e) = there g i e
  leads_same g i (step _ h _ x w) = step g h i (near_same g h x) (leads_same h i w)

  pub rooted_same : (roots : List ℕ) → AreRooted mesh a roots → AreRooted mesh b roots
  rooted_same roots f h l = let (r, k, w) = f h l in (r, k, leads_same h r w)

module _ (mesh : HalfEdges) (a b : List Gap) (j : Joins) (here : AreJoins (size mesh) a j)
    (there' : AreJoins (size mesh) b j) where
  pub faces_same : (faces : List ℕ) → AreFaces mesh a faces → AreFaces mesh b faces
  faces_same faces f = record {
    size_is = f.size_is;
    one = λ g h l k. (
      (λ e. joined_same mesh a b j here there' g h ((f.one g h l k).0 e)),
      (λ w. (f.one g h l k).1 (joined_same mesh b a j there' here g h w)),
    );
    outer = λ h l. (
      (λ e. let (t, w, x) = (f.outer h l).0 e in
          (t, joined_same mesh a b j here there' h t w, border_same mesh a b j here there' t x)),
      (λ y. let (t, w, x) = y in
          (f.outer h l).1 (
            t,
            joined_same mesh b a j there' here h t w,
            border_same mesh b a j there' here t x,
          )),
    );
    numbered = f.numbered;
  }

  ranks_same : (roots ranks : List ℕ) → AreRanks mesh a roots ranks → AreRanks mesh b roots ranks
  ranks_same roots ranks r = record {
    sized = r.sized;
    small = r.small;
    root = r.root;
    less = λ h k l e. (let (g, n, w) = r.less h k l e in
        (g, near_same mesh a b j here there' h g n, w));
    near = λ h g l n. r.near h g l (near_same mesh b a j there' here h g n);
  }

  link_same : (ranks : List ℕ) (h : ℕ) (l : Link) → IsLink mesh a ranks h l
      → IsLink mesh b ranks h l
  link_same ranks h link.Root w = w
  link_same ranks h link.Next w = w
  link_same ranks h link.Prev w = w
  link_same ranks h (link.Across g) (x, e, n, p, least) = (
    across_same mesh a b j here there' h g x,
    e,
    n,
    p,
    (λ i l y. least i l (across_same mesh b a j there' here h i y)),
  )

  pub notes_same : (roots : List ℕ) (notes : List HalfNote) → AreNotes mesh a roots notes
      → AreNotes mesh b roots notes
  notes_same roots notes s = record {
    ranks = s.ranks;
    are_ranks = ranks_same roots s.ranks s.are_ranks;
    size_is = s.size_is;
    label = s.label;
    rank = s.rank;
    link_is = λ h l. link_same s.ranks h _ (s.link_is h l);
  }
