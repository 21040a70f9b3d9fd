use Rattle.std.proofs.Common.{◌∙◌}
use Rattle.itf_reader.proofs.Flags.{flags_push}
use Rattle.itf_reader.proofs.machine.number_set.NumberSet.add.Goals as goal

pub invariant_of-self-2 : goal.invariant_of-self-2
invariant_of-self-2 c =
    rw c.in_ok-push.ensures.items
    (flags_push c.self.inside.list.items c.grow.new.flags.items c.args.number
    c.in_ok-grow.ensures.long (λ n. c.grow.ensures.same n ∙ c.self.invariant n))
