use Rattle.itf_lines.proofs.FeedLaws.{opening_is}
use Rattle.itf_lines.proofs.laws.from_the_opening.Goals as goal

pub returns : goal.returns
returns c code text = opening_is code text
