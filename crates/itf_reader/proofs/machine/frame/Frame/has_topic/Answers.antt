use Rattle.std.proofs.Common.{◌∙◌}
use Rattle.itf_reader.proofs.Flags.{topic_has}
use Rattle.itf_reader.proofs.machine.frame.Frame.has_topic.Goals as goal

pub returns : goal.returns
returns c = c.has.ensures ∙ topic_has c.args.number c.args.self.now.topics
