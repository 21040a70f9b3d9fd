use Rattle.std.proofs.Common.{ℕ, List, subst, sym, ◌∙◌}
use Rattle.ports.specs.Faults.{ReadRose}
use Rattle.commands.specs.Commands.{Source, Task, task_of, further_files}
use Rattle.commands.specs.CommandViews.{command_of}
use Rattle.commands.specs.Gathering.{Reads, Compiles}
use Rattle.reports.specs.OutcomeViews.{outcome_of}
use Rattle.commands.proofs.ReadingSteps.{reads_by}
use Rattle.commands.proofs.Results.{if_ok}
use Rattle.delivery.specs.Ending.{ModelOutcome}
use Rattle.delivery.specs.Served.{AreReadable}
use Rattle.delivery.proofs.deciding.from_made_model.Goals as goal

pub returns-clause-outcome : goal.returns-clause-outcome
returns-clause-outcome g c =
    let held = g.S.Shelf.held c.args.shelf.now in
    let counted : List ℕ
    → Type 0 = ReadRose (g.S.Shelf.read_faults c.args.shelf.now)
    (g.S.Shelf.read_faults c.from_model_text.new.shelf) in
    let command = command_of c.args.command.now in
    if_ok _ _ c.from_model_text.result
    (λ o h.
    let k = subst (λ (t : Task). ModelOutcome held counted t c.deref.result.now (outcome_of o))
    c.task-task.ensures.task h in
    record {
      gathered = k.gathered;
      gathers = subst
          (λ (s : Source). Reads held counted s k.gathered
          (λ text. Compiles held counted (task_of command) text k.gathered)) (sym c.requires.model)
          (subst (λ (text : List ℕ). Compiles held counted (task_of command) text k.gathered)
          (c.deref.ensures.value ∙ c.in_ok-text.ensures) k.compiles);
      amounts = k.amounts;
    })
    c.from_model_text.ensures.outcome

pub returns-clause-reads : goal.returns-clause-reads
returns-clause-reads g c =
    reads_by (λ r. subst
    (λ (t : Task). AreReadable (g.S.Shelf.readable c.args.shelf.now) (further_files t))
    (sym c.task-task.ensures.task) r.1) c.from_model_text.ensures.reads
