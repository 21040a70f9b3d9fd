use Rattle.std.proofs.Common.{◌∙◌}
use Rattle.itf_reader.proofs.Flags.{table_has}
use Rattle.itf_reader.proofs.machine.frame.Frame.has_table.Goals as goal

pub returns : goal.returns
returns c = c.has.ensures ∙ table_has c.args.number c.args.self.now.tables
