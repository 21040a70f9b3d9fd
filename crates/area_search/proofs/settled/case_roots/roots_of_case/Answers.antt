use Rattle.area_search.proofs.SettledLemmas.CaseCalls.{joined_lists}
use Rattle.area_search.proofs.settled.case_roots.roots_of_case.Goals as goal

pub returns : goal.returns
returns c = λ cells b. record {
  chains = c.in_ok-chains.chains;
  are_chains = c.in_ok-chains.ensures;
  border = c.args.border.now;
  border_is = b;
  roots_are = joined_lists _ _ _ _ _ _ _ c.new-roots.ensures.items c.in_ok-add_tubes.ensures
      c.in_ok-extend_from_slice.ensures.items c.in_ok-add_spots.ensures;
}
