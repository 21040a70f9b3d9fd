use Rattle.resolver.proofs.TextLemmas.OneFirstBroken.{one_first_broken}
use Rattle.resolver.proofs.laws.one_first_broken.Goals as goal

pub returns : goal.returns
returns c text ts m f g are s h k = one_first_broken text ts m f g are s h k
