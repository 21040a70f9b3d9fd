use Rattle.std.proofs.Common.{ℕ, List, Option, inr, subst, sym}
use Rattle.ports.specs.Faults.{ReadRose}
use Rattle.ports.specs.Files.{Files}
use Rattle.commands.specs.Commands.{Source, Task, task_of, further_files}
use Rattle.commands.specs.CommandViews.{command_of}
use Rattle.commands.specs.Gathering.{Reads, Compiles}
use Rattle.commands.specs.declared.files.File.TheVariants.{Model}
use Rattle.reports.specs.OutcomeViews.{outcome_of}
use Rattle.commands.proofs.ReadingSteps.{reads_by, reads_then}
use Rattle.commands.proofs.Results.{if_ok}
use Rattle.delivery.specs.Ending.{ModelOutcome}
use Rattle.delivery.specs.Served.{IsReadable, AreReadable}
use Rattle.delivery.proofs.ServedLemmas.{all_readable}
use Rattle.delivery.proofs.Steps.{rose_after, model_on, not_read_ends}
use Rattle.delivery.proofs.deciding.from_model_file.Goals as goal

pub returns-in-Err-clause-outcome : goal.returns-in-Err-clause-outcome
returns-in-Err-clause-outcome g c =
    let held = g.S.Shelf.held c.args.shelf.now in
    let counted : List ℕ
    → Type 0 = ReadRose (g.S.Shelf.read_faults c.args.shelf.now)
    (g.S.Shelf.read_faults c.read_file.new.shelf) in
    let task = task_of (command_of c.args.command.now) in
    if_ok _ _ c.not_read.result
    (λ o h.
    let e = not_read_ends _ held counted Model c.args.name.now c.in-Err.refusal (outcome_of o)
    (λ q text. Compiles held counted task text q) c.in-Err.ensures.cause c.in-Err.ensures.long
    h in
    record {
      gathered = e.0;
      gathers = subst
          (λ (s : Source). Reads held counted s e.0 (λ text. Compiles held counted task text e.0))
          (sym c.requires.model) e.1;
      amounts = e.2 task;
    })
    c.not_read.ensures

pub returns-in-Err-clause-reads : goal.returns-in-Err-clause-reads
returns-in-Err-clause-reads g c =
    reads_by (λ r. subst (IsReadable (g.S.Shelf.readable c.args.shelf.now)) c.requires.model r.0)
    c.read_file.ensures.reads

pub returns-in-Ok-clause-outcome : goal.returns-in-Ok-clause-outcome
returns-in-Ok-clause-outcome g c =
    let held = g.S.Shelf.held c.args.shelf.now in
    let near : List ℕ
    → Type 0 = ReadRose (g.S.Shelf.read_faults c.read_file.new.shelf)
    (g.S.Shelf.read_faults c.from_model_text.new.shelf) in
    let far : List ℕ
    → Type 0 = ReadRose (g.S.Shelf.read_faults c.args.shelf.now)
    (g.S.Shelf.read_faults c.from_model_text.new.shelf) in
    let task = task_of (command_of c.args.command.now) in
    let text = c.in-Ok.text.items in
    if_ok _ _ c.from_model_text.result
    (λ o h.
    let by_task = subst
    (λ (t : Task). ModelOutcome (g.S.Shelf.held c.read_file.new.shelf) near t c.deref.result.now
    (outcome_of o)) c.task-task.ensures.task h in
    let moved : ModelOutcome held near task text (outcome_of o) =
    subst (λ (held : Option Files). ModelOutcome held near task text (outcome_of o))
    c.in-Ok.ensures.reads.held
    (subst (λ (bytes : List ℕ). ModelOutcome (g.S.Shelf.held c.read_file.new.shelf) near task bytes
    (outcome_of o)) c.deref.ensures.value by_task) in
    let e = model_on held near far
    (λ name r. rose_after (g.S.Shelf.read_faults c.args.shelf.now name)
    (g.S.Shelf.read_faults c.read_file.new.shelf name)
    (g.S.Shelf.read_faults c.from_model_text.new.shelf name)
    (c.in-Ok.ensures.reads.reads name) r)
    task text (outcome_of o) moved in
    record {
      gathered = e.gathered;
      gathers = subst
          (λ (s : Source). Reads held far s e.gathered
          (λ bytes. Compiles held far task bytes e.gathered)) (sym c.requires.model)
          (inr (inr (text, c.in-Ok.ensures.whole, e.compiles)));
      amounts = e.amounts;
    })
    c.from_model_text.ensures.outcome

pub returns-in-Ok-clause-reads : goal.returns-in-Ok-clause-reads
returns-in-Ok-clause-reads g c =
    let ready = c.in-Ok.ensures.reads.ready in
    reads_then
    (λ r. subst (IsReadable (g.S.Shelf.readable c.args.shelf.now)) c.requires.model r.0)
    (λ r. subst (λ (t : Task). AreReadable (g.S.Shelf.readable c.read_file.new.shelf)
    (further_files t)) (sym c.task-task.ensures.task)
    (all_readable (g.S.Shelf.readable c.args.shelf.now)
    (g.S.Shelf.readable c.read_file.new.shelf) ready.readable
    (further_files (task_of (command_of c.args.command.now))) r.1))
    c.in-Ok.ensures.reads c.from_model_text.ensures.reads
