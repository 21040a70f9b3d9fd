use Rattle.std.proofs.Common.{IsTrue}
use Rattle.plane.proofs.Turning.Classes.{link_root}
use Rattle.plane.proofs.rotation.falling_links_lead_to_roots.Goals as goal

pub returns : goal.returns
returns given w m E steps label rank link root h run links l =
    link_root w m E steps run label rank link (λ x. IsTrue (root x)) links h l
