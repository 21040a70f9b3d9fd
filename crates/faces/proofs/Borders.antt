-- The half-edges at the border get face 0.
use Rattle.std.proofs.Common.{◌≡◌, ℕ, ◌<◌, Option, Some, None, List, length, get_or, refl, arith}
use Rattle.std.proofs.Common.{ap, sym, ◌∙◌, vec_capacity}
use Rattle.plane.specs.Runs.Gaps.{Gap}
use Rattle.half_edges.specs.HalfEdges.{HalfEdges, size}
use Rattle.half_edges.specs.Meshes.{IsMesh}
use Rattle.faces.specs.declared.searching.Search.{Search}
use Rattle.faces.specs.Joined.{AreKnown, AtBorder, Joined, outside, same}
use Rattle.faces.specs.Searching.{HasSearched, IsKept, IsReached, IsSet, IsWaiting, unset}
use Rattle.faces.proofs.PairRows.{place_of}
use Rattle.faces.proofs.Passing.{has_reached, reached_face, reached_kept, reached_waiting}
use Rattle.faces.proofs.Searches.{border_within, joined_back, room_left}

module _ (mesh : HalfEdges) (cells : List Gap) (is : IsMesh mesh)
    (known : AreKnown (size mesh) cells) (s : Search) (searched : HasSearched mesh cells s)
    (begun : s.passed ≡ 0) (waiting : IsWaiting s 0) (h : ℕ) (b : AtBorder cells h) where
  pub side_within : h < length s.faces.items
  side_within =
      let w = border_within mesh cells is known h b in
      let z = searched.searched.sized in omega (arith, w, z)

  pub side_room : get_or s.faces.items h 0 ≡ unset → length s.queue.items < vec_capacity s.queue
  side_room e =
      let r = room_left mesh cells is known s.faces.items s.queue.items s.passed h searched.searched
      (border_within mesh cells is known h b) e in
      let c = searched.room in omega (arith, r, c)

  joins : (g : ℕ) → g < size mesh → get_or s.faces.items g 0 ≡ 0 → Joined mesh cells h g
  joins g l e =
      let (t, j, k) = searched.searched.outer g l e in
      outside h t g b k (joined_back mesh cells g t j)

  out : ◌≡◌ {A = ℕ} 0 0 → (t : ℕ) × Joined mesh cells h t × AtBorder cells t
  out e = (h, same h h refl, b)

  had : IsSet s.faces.items h → get_or s.faces.items h 0 ≡ 0
  had k =
      let (i, m, e) = place_of h s.queue.items
      (searched.searched.all h (border_within mesh cells is known h b) k) in
      ap (λ (x : ℕ). get_or s.faces.items x 0) (sym e) ∙ waiting i (omega (arith, begun)) m

  module _ (new : Search) (r : IsReached h 0 s new) (p : new.passed ≡ s.passed)
      (c : vec_capacity new.queue ≡ vec_capacity s.queue) where
    pub side_searched : HasSearched mesh cells new
    side_searched =
        has_reached mesh cells is known h 0 (border_within mesh cells is known h b)
        (omega arith) s new searched joins out r p c

    pub side_kept : IsKept s.faces.items new.faces.items
    side_kept = reached_kept mesh cells is known h 0 (border_within mesh cells is known h b)
        (omega arith) s new searched joins out r p c

    pub side_waiting : IsWaiting new 0
    side_waiting =
        reached_waiting mesh cells is known h 0 (border_within mesh cells is known h b)
        (omega arith) s new searched joins out r p c waiting

    pub side_face : get_or new.faces.items h 0 ≡ 0
    side_face = reached_face mesh cells is known h 0 (border_within mesh cells is known h b)
        (omega arith) s new searched joins out r p c had

-- ---- an edge of a cell is one edge, or none
pub some_is : (o : Option ℕ) (d e : ℕ) → o ≡ Some d → o ≡ Some e → d ≡ e
some_is o d e p q = cc

pub none_some : {P : Type 0} (o : Option ℕ) (e : ℕ) → o ≡ None → o ≡ Some e → P
none_some o e p q = absurd (clash o e p q)
  where
    clash : (o : Option ℕ) (e : ℕ) → o ≡ None → o ≡ Some e → ⊥
    clash o e p q = cc
