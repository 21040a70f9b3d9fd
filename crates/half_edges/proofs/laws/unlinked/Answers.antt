use Rattle.half_edges.proofs.Elsewhere.{unlinked_none, unlinked_more, unlinked_loose}
use Rattle.half_edges.proofs.laws.unlinked.Goals as goal

pub returns : goal.returns
returns c = record { none = unlinked_none; more = unlinked_more; loose = unlinked_loose }
