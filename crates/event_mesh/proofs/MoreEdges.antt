-- One edge more in a mesh of events.
use Rattle.std.proofs.Common.{◌≡◌, ℕ, ◌+◌, ◌*◌, ◌%◌, List, slice_index, arith, ap, sym, ◌∙◌, refl}
use Rattle.std.proofs.Common.{inl, inr, replicate}
use Rattle.std.proofs.lemmas.Bool.{cases_lt}
use Rattle.half_edges.specs.HalfEdges.{HalfEdges, size, origin_of, twin_of}
use Rattle.half_edges.specs.Meshes.{with_edge, without_edges}
use Rattle.half_edges.specs.Stars.{IsUnlinked, turned}
use Rattle.half_edges.proofs.Twins.{twin_within}
use Rattle.half_edges.proofs.Extending.{below_pair, pair_before, pair_first, pair_second}
use Rattle.half_edges.proofs.Extending.{pair_length}
use Rattle.half_edges.proofs.Elsewhere.{unlinked_none}
use Rattle.event_mesh.specs.Built.{IsMeshOf}

pub no_edges : (events : ℕ) (low high : List ℕ) → IsMeshOf events low high 0 (without_edges events)
no_edges events low high = record {
  vertices = refl;
  size = refl;
  origins = refl;
  highs = λ e l. absurd (omega (arith, l));
  lows = λ e l. absurd (omega (arith, l));
  unlinked = unlinked_none events;
  faces = refl;
}

unlinked_one_more : (m : HalfEdges) (low high : ℕ) → size m % 2 ≡ 0 → IsUnlinked m
    → IsUnlinked (with_edge m low high)
unlinked_one_more m low high even alone =
    let n = size m in
    let up : twin_of n ≡ n + 1 = omega (arith, even) in
    let down : twin_of (n + 1) ≡ n = omega (arith, even) in
    record {
      alone = λ h l. below_pair (λ k. turned (with_edge m low high) k ≡ k) n
          (λ k b. pair_before m.next n _ _ _ refl (twin_within n k even b) ∙ alone.alone k b)
          (rw up (pair_second m.next n _ _ refl))
          (rw down (pair_first m.next n _ _ refl))
          h (rw (pair_length m.next n _ _ refl) at l);
    }

pub one_edge_more : (events : ℕ) (low high : List ℕ) (n : ℕ) (m : HalfEdges) (l h : ℕ)
    → l ≡ slice_index low n → h ≡ slice_index high n
    → IsMeshOf events low high n m → IsMeshOf events low high (n + 1) (with_edge m l h)
one_edge_more events low high n m l h el eh is =
    let long = is.size in
    let twice : 2 * (n + 1) ≡ 2 * n + 2 = omega arith in
    let same : size m + 2 ≡ 2 * (n + 1) = omega (arith, long) in
    let even : size m % 2 ≡ 0 = omega (arith, long) in
    record {
      vertices = is.vertices;
      size = pair_length m.next (2 * n) _ _ long ∙ sym twice;
      origins = pair_length m.origin (2 * n) h l is.origins ∙ sym twice;
      highs = λ e b. elim (cases_lt e n) [
        | inl c ↦ pair_before m.origin (2 * n) h l (2 * e) is.origins (omega (arith, c))
            ∙ is.highs e c
        | inr c ↦ (let q : e ≡ n = omega (arith, b, c) in
            ap (λ (i : ℕ). origin_of (with_edge m l h) (2 * i)) q
            ∙ pair_first m.origin (2 * n) h l is.origins ∙ eh
            ∙ ap (λ (i : ℕ). slice_index high i) (sym q))
      ];
      lows = λ e b. elim (cases_lt e n) [
        | inl c ↦ pair_before m.origin (2 * n) h l (2 * e + 1) is.origins (omega (arith, c))
            ∙ is.lows e c
        | inr c ↦ (let q : e ≡ n = omega (arith, b, c) in
            ap (λ (i : ℕ). origin_of (with_edge m l h) (2 * i + 1)) q
            ∙ pair_second m.origin (2 * n) h l is.origins ∙ el
            ∙ ap (λ (i : ℕ). slice_index low i) (sym q))
      ];
      unlinked = unlinked_one_more m l h even is.unlinked;
      faces = ap (λ (i : ℕ). replicate i 0) same;
    }
