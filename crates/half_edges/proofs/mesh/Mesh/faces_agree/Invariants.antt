use Rattle.std.proofs.Common.{◌≡◌, ℕ, ◌<◌, get_or}
use Rattle.half_edges.proofs.mesh.Mesh.faces_agree.Given as goal

abbrev pub invariant-loop-h : goal.invariant-loop-h
invariant-loop-h l = (k : ℕ) → k < l.h
    → get_or l.faces (get_or l.self.next k 0) 0 ≡ get_or l.faces k 0
