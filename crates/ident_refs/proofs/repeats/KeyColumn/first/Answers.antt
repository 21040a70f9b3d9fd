use Rattle.std.proofs.Common.{sym}
use Rattle.ident_refs.proofs.KeyPlaces.{found_so}
use Rattle.ident_refs.proofs.repeats.KeyColumn.first.Goals as goal

pub returns : goal.returns
returns c = sym (found_so c.args.key.now c.args.self.now.keys.now c.first.result c.first.ensures)
