use Rattle.area_search.proofs.GroundLaws.{Laws}
use Rattle.area_search.proofs.RegionLaws.{exact_found, one_of_ground}
use Rattle.area_search.proofs.laws.regions_are_exact.Goals as goal

pub returns-clause-one : goal.returns-clause-one
returns-clause-one c =
    let laws : Laws = record {
      bad = c.bad_curves_are_not_apart.ensures;
      partition = c.proves_partition.ensures;
      uncut = c.proves_uncut.ensures;
      bent = c.one_bent.ensures.drawing;
      origin = c.one_bent.ensures.origin;
    } in
    one_of_ground laws

pub returns-clause-exact : goal.returns-clause-exact
returns-clause-exact c =
    let laws : Laws = record {
      bad = c.bad_curves_are_not_apart.ensures;
      partition = c.proves_partition.ensures;
      uncut = c.proves_uncut.ensures;
      bent = c.one_bent.ensures.drawing;
      origin = c.one_bent.ensures.origin;
    } in
    exact_found laws
