use Rattle.std.proofs.Common.{◌≡◌, ◌≢◌, ℕ, ◌<◌, ◌+◌, List, length, get_or, arith, ap, sym, ◌∙◌}
use Rattle.std.proofs.Common.{refl}
use Rattle.half_edges.specs.HalfEdges.{HalfEdges, size, twin_of}
use Rattle.half_edges.specs.Meshes.{IsMesh, with_edge, without_edges}
use Rattle.half_edges.specs.Stars.{IsStar, IsLoose, IsUnlinked, IsLinked, TurnsThrough, turned}
use Rattle.half_edges.proofs.Twins.{twin_same, twin_within}
use Rattle.half_edges.proofs.Extending.{below_pair, pair_before, pair_first, pair_second}
use Rattle.half_edges.proofs.Extending.{pair_length}

pub star_stays : (old new : HalfEdges) (around other : List ℕ) → IsLinked old new around
    → IsStar old other → IsStar new other
star_stays old new around other linked star =
    let og : (h : ℕ) → get_or new.origin h 0
    ≡ get_or old.origin h 0 = λ h. ap (λ (xs : List ℕ). get_or xs h 0) linked.origins in
    let long : size new ≡ size old = linked.links.next_length in
    record {
      filled = star.filled;
      within = λ k l. rw long (star.within k l);
      start = λ k l. og _ ∙ (star.start k l ∙ sym (og _));
      once = star.once;
      whole = λ h l e. star.whole h (rw long at l) (sym (og h) ∙ (e ∙ og _));
    }

pub turned_elsewhere : (old new : HalfEdges) (around : List ℕ) (h : ℕ) → IsStar old around
    → IsLinked old new around
    → get_or old.origin h 0 ≢ get_or old.origin (get_or around 0 0) 0 → turned new h ≡ turned old h
turned_elsewhere old new around h star linked ne =
    linked.links.next_stays (twin_of h)
    (λ k l e. ne (ap (λ j. get_or old.origin j 0) (twin_same _ _ e) ∙ star.start k l))

-- a star of another vertex has its half-edges at that vertex
elsewhere : (m : HalfEdges) (around other : List ℕ) → IsStar m other
    → get_or m.origin (get_or other 0 0) 0 ≢ get_or m.origin (get_or around 0 0) 0
    → (k : ℕ) → k < length other
    → get_or m.origin (get_or other k 0) 0 ≢ get_or m.origin (get_or around 0 0) 0
elsewhere m around other star ne k l e = ne (sym (star.start k l) ∙ e)

pub loose_elsewhere : (old new : HalfEdges) (around other : List ℕ) → IsStar old around
    → IsLinked old new around → IsStar old other
    → get_or old.origin (get_or other 0 0) 0 ≢ get_or old.origin (get_or around 0 0) 0
    → IsLoose old other → IsLoose new other
loose_elsewhere old new around other star linked there ne loose =
    record {
      alone = λ k l. turned_elsewhere old new around _ star linked
          (elsewhere old around other there ne k l) ∙ loose.alone k l;
    }

pub turns_elsewhere : (old new : HalfEdges) (around other : List ℕ) → IsStar old around
    → IsLinked old new around → IsStar old other
    → get_or old.origin (get_or other 0 0) 0 ≢ get_or old.origin (get_or around 0 0) 0
    → TurnsThrough old other → TurnsThrough new other
turns_elsewhere old new around other star linked there ne through =
    record {
      turns = λ k l. turned_elsewhere old new around _ star linked
          (elsewhere old around other there ne k l) ∙ through.turns k l;
    }

pub unlinked_none : (n : ℕ) → IsUnlinked (without_edges n)
unlinked_none n = record { alone = λ h l. absurd (omega arith) }

pub unlinked_more : (m : HalfEdges) (low high : ℕ) → IsMesh m → IsUnlinked m
    → IsUnlinked (with_edge m low high)
unlinked_more m low high mesh alone =
    let n = size m in
    let up : twin_of n ≡ n + 1 = let even = mesh.pairs in omega arith in
    let down : twin_of (n + 1) ≡ n = let even = mesh.pairs in omega arith in
    record {
      alone = λ h l. below_pair (λ k. turned (with_edge m low high) k ≡ k) n
          (λ k b. pair_before m.next n _ _ _ refl (twin_within n k mesh.pairs b) ∙ alone.alone k b)
          (rw up (pair_second m.next n _ _ refl))
          (rw down (pair_first m.next n _ _ refl))
          h (rw (pair_length m.next n _ _ refl) at l);
    }

pub unlinked_loose : (m : HalfEdges) (around : List ℕ) → IsUnlinked m → IsStar m around
    → IsLoose m around
unlinked_loose m around alone star = record { alone = λ k l. alone.alone _ (star.within k l) }
