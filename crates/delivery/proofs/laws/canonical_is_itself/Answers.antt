use Rattle.delivery.proofs.Rewritten.{rewritten_again}
use Rattle.delivery.proofs.laws.canonical_is_itself.Goals as goal

pub returns : goal.returns
returns c l name text left n o v =
    rewritten_again c.canonical_text_is_read.ensures.again c.canonical_text_is_read.ensures.one l v
    name text left n o
