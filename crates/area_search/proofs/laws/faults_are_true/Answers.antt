use Rattle.area_search.proofs.GroundLaws.{Laws, fault_by, there_by}
use Rattle.area_search.proofs.laws.faults_are_true.Goals as goal

pub returns-clause-truth : goal.returns-clause-truth
returns-clause-truth c =
    let laws : Laws = record {
      bad = c.bad_curves_are_not_apart.ensures;
      partition = c.proves_partition.ensures;
      uncut = c.proves_uncut.ensures;
      bent = c.one_bent.ensures.drawing;
      origin = c.one_bent.ensures.origin;
    } in
    fault_by laws

pub returns-clause-there : goal.returns-clause-there
returns-clause-there c = there_by c.bent_curves.ensures.there
