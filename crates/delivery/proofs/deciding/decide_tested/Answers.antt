use Rattle.std.proofs.Common.{ℕ, List, [], ◌∷◌, ◌++◌, Option, inr, subst}
use Rattle.ports.specs.Faults.{ReadRose}
use Rattle.ports.specs.Files.{Files}
use Rattle.table_layout.specs.Values.{layout_view}
use Rattle.commands.specs.Commands.{from_file, tests_points}
use Rattle.commands.specs.Gathering.{ReadsAll}
use Rattle.commands.specs.declared.files.File.TheVariants.{Links, Transfer}
use Rattle.commands.proofs.ReadingSteps.{reads_by, reads_then}
use Rattle.commands.proofs.Results.{if_ok}
use Rattle.reports.specs.OutcomeViews.{outcome_of}
use Rattle.delivery.specs.Ending.{OutcomeAfter}
use Rattle.delivery.specs.LinkRows.{HasLinked}
use Rattle.delivery.specs.Pieces.{AreFileRows}
use Rattle.delivery.specs.declared.judging.linking.LinksKept.{LinksKept}
use Rattle.delivery.specs.declared.transfers.RowsReading.{RowsReading}
use Rattle.delivery.specs.declared.judging.closing.Wanted.TheVariants.{Everything}
use Rattle.delivery.proofs.Steps.{ends_on, rose_after, rows_unread, unread_ends}
use Rattle.delivery.proofs.deciding.decide_tested.Goals as goal

pub decide_linked-requires-clause-text : goal.decide_linked-requires-clause-text
decide_linked-requires-clause-text g c =
    let held = g.S.Shelf.held c.args.shelf.now in
    let name = c.args.transfer.now in
    let l = layout_view c.args.layout.now in
    let counted : List ℕ → Type 0 =
    ReadRose (g.S.Shelf.read_faults c.args.shelf.now)
    (g.S.Shelf.read_faults c.read_for.new.shelf) in
    let r =
    subst (λ (r : RowsReading LinksKept). AreFileRows HasLinked held name l (counted name) r)
    c.in-Rows.is c.in_ok-kept-2.ensures.rows in
    (r.0, r.2)

pub returns-in-Rows-clause-outcome : goal.returns-in-Rows-clause-outcome
returns-in-Rows-clause-outcome g c =
    let held = g.S.Shelf.held c.args.shelf.now in
    let name = c.args.transfer.now in
    let l = layout_view c.args.layout.now in
    let first : List ℕ → Type 0 =
    ReadRose (g.S.Shelf.read_faults c.args.shelf.now)
    (g.S.Shelf.read_faults c.read_for.new.shelf) in
    let near : List ℕ → Type 0 =
    ReadRose (g.S.Shelf.read_faults c.read_for.new.shelf)
    (g.S.Shelf.read_faults c.decide_linked.new.shelf) in
    let far : List ℕ → Type 0 =
    ReadRose (g.S.Shelf.read_faults c.args.shelf.now)
    (g.S.Shelf.read_faults c.decide_linked.new.shelf) in
    let source = from_file Transfer name in
    let links = from_file Links c.args.links.now in
    let r =
    subst (λ (r : RowsReading LinksKept). AreFileRows HasLinked held name l (first name) r)
    c.in-Rows.is c.in_ok-kept-2.ensures.rows in
    if_ok _ _ c.decide_linked.result
    (λ o h.
    let moved : OutcomeAfter held near (tests_points source links) l (r.0 ∷ []) (links ∷ [])
    (outcome_of o) =
    subst (λ (held : Option Files). OutcomeAfter held near (tests_points source links) l (r.0 ∷ [])
    (links ∷ []) (outcome_of o)) c.in_ok-kept-2.ensures.reads.held h in
    let e = ends_on held near far
    (λ q s. rose_after (g.S.Shelf.read_faults c.args.shelf.now q)
    (g.S.Shelf.read_faults c.read_for.new.shelf q)
    (g.S.Shelf.read_faults c.decide_linked.new.shelf q) (c.in_ok-kept-2.ensures.reads.reads q) s)
    (tests_points source links) l (r.0 ∷ []) (links ∷ []) (outcome_of o) moved in
    record {
      gathered = e.gathered;
      reads = inr (inr (r.0, r.1, e.reads));
      amounts = e.amounts;
    })
    (c.decide_linked.ensures.outcome r.0 source r.2)

pub returns-in-Rows-clause-reads : goal.returns-in-Rows-clause-reads
returns-in-Rows-clause-reads g c =
    reads_then (λ r. r.0)
    (λ r. c.in_ok-kept-2.ensures.reads.ready.readable c.args.links.now r.1.0)
    c.in_ok-kept-2.ensures.reads c.decide_linked.ensures.reads

pub returns-in-Malformed-clause-outcome : goal.returns-in-Malformed-clause-outcome
returns-in-Malformed-clause-outcome g c =
    let held = g.S.Shelf.held c.args.shelf.now in
    let name = c.args.transfer.now in
    let l = layout_view c.args.layout.now in
    let first : List ℕ → Type 0 =
    ReadRose (g.S.Shelf.read_faults c.args.shelf.now)
    (g.S.Shelf.read_faults c.read_for.new.shelf) in
    let near : List ℕ → Type 0 =
    ReadRose (g.S.Shelf.read_faults c.read_for.new.shelf)
    (g.S.Shelf.read_faults c.decide_unlinked.new.shelf) in
    let far : List ℕ → Type 0 =
    ReadRose (g.S.Shelf.read_faults c.args.shelf.now)
    (g.S.Shelf.read_faults c.decide_unlinked.new.shelf) in
    let source = from_file Transfer name in
    let links = from_file Links c.args.links.now in
    let r =
    subst (λ (r : RowsReading LinksKept). AreFileRows HasLinked held name l (first name) r)
    c.in-Malformed.is c.in_ok-kept-2.ensures.rows in
    if_ok _ _ c.decide_unlinked.result
    (λ o h.
    let moved : OutcomeAfter held near (tests_points source links) l (r.0 ∷ []) (links ∷ [])
    (outcome_of o) =
    subst (λ (held : Option Files). OutcomeAfter held near (tests_points source links) l (r.0 ∷ [])
    (links ∷ []) (outcome_of o)) c.in_ok-kept-2.ensures.reads.held h in
    let e = ends_on held near far
    (λ q s. rose_after (g.S.Shelf.read_faults c.args.shelf.now q)
    (g.S.Shelf.read_faults c.read_for.new.shelf q)
    (g.S.Shelf.read_faults c.decide_unlinked.new.shelf q)
    (c.in_ok-kept-2.ensures.reads.reads q) s)
    (tests_points source links) l (r.0 ∷ []) (links ∷ []) (outcome_of o) moved in
    record {
      gathered = e.gathered;
      reads = inr (inr (r.0, r.1, e.reads));
      amounts = e.amounts;
    })
    (c.decide_unlinked.ensures.outcome l r.0 source r.2)

pub returns-in-Malformed-clause-reads : goal.returns-in-Malformed-clause-reads
returns-in-Malformed-clause-reads g c =
    reads_then (λ r. r.0)
    (λ r. c.in_ok-kept-2.ensures.reads.ready.readable c.args.links.now r.1.0)
    c.in_ok-kept-2.ensures.reads c.decide_unlinked.ensures.reads

pub returns-in-Unread-clause-outcome : goal.returns-in-Unread-clause-outcome
returns-in-Unread-clause-outcome g c =
    let held = g.S.Shelf.held c.args.shelf.now in
    let name = c.args.transfer.now in
    let l = layout_view c.args.layout.now in
    let counted : List ℕ → Type 0 =
    ReadRose (g.S.Shelf.read_faults c.args.shelf.now)
    (g.S.Shelf.read_faults c.read_for.new.shelf) in
    let links = from_file Links c.args.links.now in
    let r =
    subst (λ (r : RowsReading LinksKept). AreFileRows HasLinked held name l (counted name) r)
    c.in-Unread.is c.in_ok-kept-2.ensures.rows in
    let u = rows_unread Everything LinksKept HasLinked held name l (counted name)
    c.in-Unread.refusal r in
    if_ok _ _ c.not_read.result
    (λ o h.
    let e = unread_ends Everything held counted (counted name) name l c.in-Unread.refusal
    (outcome_of o)
    (λ q text. ReadsAll held counted l ([] ++ (text ∷ [])) (links ∷ []) q) u (λ n. n) h in
    record {
      gathered = e.0;
      reads = e.1;
      amounts = e.2 (tests_points (from_file Transfer name) links);
    })
    c.not_read.ensures

pub returns-in-Unread-clause-reads : goal.returns-in-Unread-clause-reads
returns-in-Unread-clause-reads g c = reads_by (λ r. r.0) c.in_ok-kept-2.ensures.reads
