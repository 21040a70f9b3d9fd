-- Claims and the drawing that they are of: what is proved of it, its first broken rule, its edges.
use Rattle.std.proofs.Common.{◌≡◌, ℕ, ◌≤◌, Bool, ℤ, List, length, sym, subst}
use Rattle.plane.specs.Rule.Cuts.{HasNoCut}
use Rattle.plane.specs.Rule.Partition.{IsPartition}
use Rattle.plane.specs.Rule.Plans.{Plan}
use Rattle.tubes.specs.FewEdges.{HasFewEdges}
use Rattle.tubes.specs.Settled.{IsSettledAt}
use Rattle.tubes.proofs.EdgeWeights.{few_of_curves}
use Rattle.forks.specs.Grounds.{IsGround, bent, own}
use Rattle.forks.proofs.Grounds as grounds
use Rattle.certificate_checker.specs.Subjects.{Claims}
use Rattle.certificate_checker.specs.Verdicts.{IsBroken, IsBrokenBy, IsVerdict, IsVerdictBy}
use Rattle.certificate_checker.specs.Verdicts.{Proves, ProvesBy}
use Rattle.certificate_checker.specs.declared.verdict.Verdict.{Verdict}
use Rattle.certificate_checker.specs.declared.verdict.Verdict.TheVariants as verdict
use Rattle.certificate_checker.proofs.BentEdges.{bent_few}
use Rattle.certificate_checker.proofs.OneFault.{broken_unproved, one_broken}
use Rattle.certificate_checker.proofs.Proving.{proves_partition, proves_settled, proves_uncut}

module _ (t : ℤ) (d : Plan) (is_bent : Bool) (c : Claims) where
  -- the verdict on the drawing that they are of
  pub verdict_by : (g : Plan) (origin : List ℕ) → IsGround t d is_bent g origin → (v : Verdict)
      → IsVerdict g c v → IsVerdictBy t d is_bent c v
  verdict_by g os i verdict.Proved h =
      record { of = g; origin = os; is_ground = i; proves = h }
  verdict_by g os i (verdict.NotProved rule place) h =
      record { of = g; origin = os; is_ground = i; broken = h }

  -- there is one such drawing
  module _ (g : Plan) (origin : List ℕ) (i : IsGround t d is_bent g origin) where
    pub proves_it : ProvesBy t d is_bent c → Proves g c
    proves_it p =
        subst (λ (h : Plan). Proves h c)
        (grounds.one_ground t d p.of g is_bent p.origin origin p.is_ground i).0 p.proves

    pub breaks_it : (rule place : ℕ) → IsBrokenBy t d is_bent c rule place
        → IsBroken g c rule place
    breaks_it rule place b =
        subst (λ (h : Plan). IsBroken h c rule place)
        (grounds.one_ground t d b.of g is_bent b.origin origin b.is_ground i).0 b.broken

    pub parted : ProvesBy t d is_bent c → IsPartition g
    parted p = proves_partition g c (proves_it p)

    pub uncut : ProvesBy t d is_bent c → HasNoCut g
    uncut p = proves_uncut g c (proves_it p)

    pub settled : ProvesBy t d is_bent c → IsSettledAt g (λ n. c.level)
    settled p = proves_settled g c (proves_it p)

-- ---- what they prove and break is one thing
module _ (t : ℤ) (d : Plan) (is_bent : Bool) (c : Claims) where
  pub unproved_by : (rule place : ℕ) → ProvesBy t d is_bent c → IsBrokenBy t d is_bent c rule place
      → ⊥
  unproved_by rule place p b =
      broken_unproved p.of c rule place p.proves
      (breaks_it t d is_bent c p.of p.origin p.is_ground rule place b)

  pub one_broken_by : (m p n q : ℕ) → IsBrokenBy t d is_bent c m p → IsBrokenBy t d is_bent c n q
      → (m ≡ n) × (p ≡ q)
  one_broken_by m p n q a b =
      one_broken b.of c m p n q (breaks_it t d is_bent c b.of b.origin b.is_ground m p a) b.broken

-- ---- how many edges it has
pub few : (t : ℤ) (d g : Plan) (is_bent : Bool) (origin : List ℕ) → IsGround t d is_bent g origin
    → length d.curves ≤ 16000000 → HasFewEdges g
few t d g b os (own x e o) l = subst HasFewEdges (sym e) (few_of_curves d l)
few t d g b os (bent x k) l = bent_few t d g os k l
