use Rattle.commands.specs.CommandViews.{command_of}
use Rattle.delivery.specs.Deciding.{with_command}
use Rattle.commands.proofs.ReadingSteps.{reads_none, reads_by}
use Rattle.commands.proofs.Results.{if_ok}
use Rattle.delivery.proofs.deciding.decide.Goals as goal

pub returns-in-Some-clause-outcome : goal.returns-in-Some-clause-outcome
returns-in-Some-clause-outcome g c =
    if_ok _ _ c.decide_command.result
    (λ o h. with_command (command_of c.in-Some.command) h.gathered c.in-Some.ensures.command
    h.gathers h.amounts)
    c.decide_command.ensures.outcome

pub returns-in-Some-clause-reads : goal.returns-in-Some-clause-reads
returns-in-Some-clause-reads g c =
    reads_by (λ r. r (command_of c.in-Some.command) c.in-Some.ensures.command)
    c.decide_command.ensures.reads

pub returns-in-None-clause-reads : goal.returns-in-None-clause-reads
returns-in-None-clause-reads g c = reads_none
