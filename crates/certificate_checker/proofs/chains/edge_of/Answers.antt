use Rattle.certificate_checker.proofs.ChainSides.{half_edge}
use Rattle.certificate_checker.proofs.chains.edge_of.Goals as goal

pub returns : goal.returns
returns c = half_edge c.args.h
