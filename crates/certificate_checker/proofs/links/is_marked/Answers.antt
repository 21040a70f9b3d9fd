use Rattle.certificate_checker.proofs.Linking.{marked_as}
use Rattle.certificate_checker.proofs.links.is_marked.Goals as goal

pub returns : goal.returns
returns c = marked_as c.args.marks.now c.args.h _ c.requires
