use Rattle.std.proofs.Common.{ℕ, List, [], refl, sym, subst}
use Rattle.ports.specs.Faults.{ReadRose}
use Rattle.table_layout.specs.Values.{layout_view}
use Rattle.commands.specs.Commands.{further_files}
use Rattle.commands.specs.CommandViews.{task_view, IsSmallTask}
use Rattle.commands.specs.Gathering.{texts}
use Rattle.commands.specs.declared.task.Task.{Task}
use Rattle.reports.specs.OutcomeViews.{outcome_of}
use Rattle.commands.proofs.ReadingSteps.{reads_by}
use Rattle.commands.proofs.Results.{if_ok}
use Rattle.delivery.specs.Ending.{LayoutOutcome}
use Rattle.delivery.specs.Served.{AreReadable}
use Rattle.delivery.proofs.deciding.by_task.Goals as goal

pub returns-in-Lists-clause-outcome : goal.returns-in-Lists-clause-outcome
returns-in-Lists-clause-outcome g c =
    let held = g.S.Shelf.held c.args.shelf.now in
    let counted : List ℕ
    → Type 0 = ReadRose (g.S.Shelf.read_faults c.args.shelf.now)
    (g.S.Shelf.read_faults c.args.shelf.now) in
    let l = layout_view c.args.layout.now in
    if_ok _ _ c.compiled.result
    (λ o e. subst (λ (t : Task). LayoutOutcome held counted (task_view t) l (outcome_of o))
    (sym c.in-Lists.is) (record { gathered = texts l []; reads = refl; amounts = e }))
    c.compiled.ensures

pub decide_checked-requires-clause-small : goal.decide_checked-requires-clause-small
decide_checked-requires-clause-small g c = subst IsSmallTask c.in-Judges.is c.requires.small

pub returns-in-Judges-clause-outcome : goal.returns-in-Judges-clause-outcome
returns-in-Judges-clause-outcome g c =
    let held = g.S.Shelf.held c.args.shelf.now in
    let counted : List ℕ
    → Type 0 = ReadRose (g.S.Shelf.read_faults c.args.shelf.now)
    (g.S.Shelf.read_faults c.decide_checked.new.shelf) in
    let l = layout_view c.args.layout.now in
    if_ok _ _ c.decide_checked.result
    (λ o e. subst (λ (t : Task). LayoutOutcome held counted (task_view t) l (outcome_of o))
    (sym c.in-Judges.is) e)
    c.decide_checked.ensures.outcome

pub returns-in-Judges-clause-reads : goal.returns-in-Judges-clause-reads
returns-in-Judges-clause-reads g c =
    reads_by (λ r.
    (subst (λ (t : Task). AreReadable (g.S.Shelf.readable c.args.shelf.now)
    (further_files (task_view t))) c.in-Judges.is r).0) c.decide_checked.ensures.reads

pub decide_verified-requires-clause-small : goal.decide_verified-requires-clause-small
decide_verified-requires-clause-small g c = subst IsSmallTask c.in-Verifies.is c.requires.small

pub returns-in-Verifies-clause-outcome : goal.returns-in-Verifies-clause-outcome
returns-in-Verifies-clause-outcome g c =
    let held = g.S.Shelf.held c.args.shelf.now in
    let counted : List ℕ
    → Type 0 = ReadRose (g.S.Shelf.read_faults c.args.shelf.now)
    (g.S.Shelf.read_faults c.decide_verified.new.shelf) in
    let l = layout_view c.args.layout.now in
    if_ok _ _ c.decide_verified.result
    (λ o e. subst (λ (t : Task). LayoutOutcome held counted (task_view t) l (outcome_of o))
    (sym c.in-Verifies.is) e)
    c.decide_verified.ensures.outcome

pub returns-in-Verifies-clause-reads : goal.returns-in-Verifies-clause-reads
returns-in-Verifies-clause-reads g c =
    reads_by (λ r. subst
    (λ (t : Task). AreReadable (g.S.Shelf.readable c.args.shelf.now) (further_files (task_view t)))
    c.in-Verifies.is r) c.decide_verified.ensures.reads

pub returns-in-Rewrites-clause-outcome : goal.returns-in-Rewrites-clause-outcome
returns-in-Rewrites-clause-outcome g c =
    let held = g.S.Shelf.held c.args.shelf.now in
    let counted : List ℕ → Type 0 =
    ReadRose (g.S.Shelf.read_faults c.args.shelf.now)
    (g.S.Shelf.read_faults c.decide_rewritten.new.shelf) in
    let l = layout_view c.args.layout.now in
    if_ok _ _ c.decide_rewritten.result
    (λ o e. subst (λ (t : Task). LayoutOutcome held counted (task_view t) l (outcome_of o))
    (sym c.in-Rewrites.is) e)
    c.decide_rewritten.ensures.outcome

pub returns-in-Rewrites-clause-reads : goal.returns-in-Rewrites-clause-reads
returns-in-Rewrites-clause-reads g c =
    reads_by (λ r. (subst (λ (t : Task). AreReadable (g.S.Shelf.readable c.args.shelf.now)
    (further_files (task_view t))) c.in-Rewrites.is r).0)
    c.decide_rewritten.ensures.reads

pub returns-in-TestsPoints-clause-outcome : goal.returns-in-TestsPoints-clause-outcome
returns-in-TestsPoints-clause-outcome g c =
    let held = g.S.Shelf.held c.args.shelf.now in
    let counted : List ℕ → Type 0 =
    ReadRose (g.S.Shelf.read_faults c.args.shelf.now)
    (g.S.Shelf.read_faults c.decide_tested.new.shelf) in
    let l = layout_view c.args.layout.now in
    if_ok _ _ c.decide_tested.result
    (λ o e. subst (λ (t : Task). LayoutOutcome held counted (task_view t) l (outcome_of o))
    (sym c.in-TestsPoints.is) e)
    c.decide_tested.ensures.outcome

pub returns-in-TestsPoints-clause-reads : goal.returns-in-TestsPoints-clause-reads
returns-in-TestsPoints-clause-reads g c =
    reads_by (λ r. subst (λ (t : Task). AreReadable (g.S.Shelf.readable c.args.shelf.now)
    (further_files (task_view t))) c.in-TestsPoints.is r)
    c.decide_tested.ensures.reads
