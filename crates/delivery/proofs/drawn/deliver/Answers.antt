use Rattle.std.proofs.Common.{ℕ, List, Option, subst}
use Rattle.ports.specs.Faults.{ReadRose}
use Rattle.ports.specs.Files.{Files}
use Rattle.commands.specs.declared.files.File.TheVariants.{Model}
use Rattle.reports.specs.OutcomeViews.{outcome_of}
use Rattle.commands.proofs.ReadingSteps.{reads_by, reads_then}
use Rattle.commands.proofs.Results.{if_ok}
use Rattle.delivery.specs.Drawn.{IsDrawnModel}
use Rattle.delivery.proofs.EarlyEnds.{drawn_files, not_read_early, not_read_passes}
use Rattle.delivery.proofs.EarlyEnds.{unread_model}
use Rattle.delivery.proofs.Steps.{rose_after}
use Rattle.delivery.proofs.drawn.deliver.Goals as goal

pub returns-in-Ok-clause-delivered : goal.returns-in-Ok-clause-delivered
returns-in-Ok-clause-delivered g c =
    let held = g.S.Shelf.held c.args.shelf.now in
    let near : List ℕ
    → Type 0 = ReadRose (g.S.Shelf.read_faults c.read_file.new.shelf)
    (g.S.Shelf.read_faults c.from_model.new.shelf) in
    let far : List ℕ
    → Type 0 = ReadRose (g.S.Shelf.read_faults c.args.shelf.now)
    (g.S.Shelf.read_faults c.from_model.new.shelf) in
    let text = c.in-Ok.text.items in
    let transfer = c.args.transfer.now in
    if_ok _ _ c.from_model.result
    (λ d h.
    let moved = subst (λ (kept : Option Files). IsDrawnModel kept near text transfer d)
    c.in-Ok.ensures.reads.held
    (subst (λ (bytes : List ℕ). IsDrawnModel
    (g.S.Shelf.held c.read_file.new.shelf) near bytes transfer d) c.deref.ensures.value h) in
    drawn_files held near far
    (λ name r. rose_after (g.S.Shelf.read_faults c.args.shelf.now name)
    (g.S.Shelf.read_faults c.read_file.new.shelf name)
    (g.S.Shelf.read_faults c.from_model.new.shelf name) (c.in-Ok.ensures.reads.reads name) r)
    c.args.model.now text transfer d c.in-Ok.ensures.whole moved)
    c.from_model.ensures.delivered

pub returns-in-Ok-clause-reads : goal.returns-in-Ok-clause-reads
returns-in-Ok-clause-reads g c =
    reads_then (λ r. r.model)
    (λ r. c.in-Ok.ensures.reads.ready.readable c.args.transfer.now r.transfer)
    c.in-Ok.ensures.reads c.from_model.ensures.reads

pub returns-in_ok-not_read-in-Err-clause-delivered : goal.returns-in_ok-not_read-in-Err-clause-delivered
returns-in_ok-not_read-in-Err-clause-delivered g c =
    let held = g.S.Shelf.held c.args.shelf.now in
    let counted : List ℕ
    → Type 0 = ReadRose (g.S.Shelf.read_faults c.args.shelf.now)
    (g.S.Shelf.read_faults c.read_file.new.shelf) in
    let o = outcome_of c.in_ok-not_read-in-Err.field-0 in (
      unread_model _ held counted c.args.model.now c.args.transfer.now c.in-Err.refusal o
          c.in-Err.ensures.cause c.in-Err.ensures.long c.in_ok-not_read-in-Err.ensures,
      not_read_early Model c.in-Err.refusal o c.in_ok-not_read-in-Err.ensures,
      λ r. absurd (not_read_passes Model c.in-Err.refusal o c.in_ok-not_read-in-Err.ensures r),
    )

pub returns-in_ok-not_read-in-Err-clause-reads : goal.returns-in_ok-not_read-in-Err-clause-reads
returns-in_ok-not_read-in-Err-clause-reads g c = reads_by (λ r. r.model) c.read_file.ensures.reads
