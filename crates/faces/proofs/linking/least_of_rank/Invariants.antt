use Rattle.std.proofs.Common.{◌≡◌, ◌⊎◌, ℕ, ◌-◌, ◌^◌, ◌<◌, ◌≤◌, get_or}
use Rattle.faces.specs.Ranking.{HasRank}
use Rattle.faces.proofs.linking.least_of_rank.Given as goal

abbrev pub invariant-loop-g : goal.invariant-loop-g
invariant-loop-g l = record {
  least : (i : ℕ) → i < l.g-index → get_or l.ranks (get_or l.row i 0) 0 ≡ l.rank
      → l.least ≤ get_or l.row i 0;
  is : (l.least ≡ 2 ^ 32 - 1) ⊎ HasRank l.ranks l.row l.rank l.least;
}
