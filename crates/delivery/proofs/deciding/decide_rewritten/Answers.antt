use Rattle.std.proofs.Common.{ℕ, List, [], ◌∷◌, ◌++◌, refl, inr, subst}
use Rattle.ports.specs.Faults.{ReadRose}
use Rattle.itf_reader.specs.Refusals.{fault_of}
use Rattle.itf_writer.specs.Feeds.{HoldsRows}
use Rattle.itf_writer.specs.declared.feed.CanonFeed.{CanonFeed}
use Rattle.table_layout.specs.Values.{layout_view}
use Rattle.commands.specs.Commands.{from_file, rewrites}
use Rattle.commands.specs.Gathering.{texts, ReadsAll}
use Rattle.commands.specs.declared.files.File.TheVariants.{Transfer}
use Rattle.commands.proofs.Results.{if_ok}
use Rattle.reports.specs.OutcomeViews.{outcome_of}
use Rattle.delivery.specs.Pieces.{AreFileRows}
use Rattle.delivery.specs.Rewriting.{misread}
use Rattle.delivery.specs.declared.transfers.RowsReading.{RowsReading}
use Rattle.delivery.specs.declared.judging.closing.Wanted.TheVariants.{Everything}
use Rattle.delivery.proofs.Steps.{rows_unread, unread_ends}
use Rattle.delivery.proofs.deciding.decide_rewritten.Goals as goal

pub rewritten-requires-clause-text : goal.rewritten-requires-clause-text
rewritten-requires-clause-text g c =
    let held = g.S.Shelf.held c.args.shelf.now in
    let name = c.args.transfer.now in
    let l = layout_view c.args.layout.now in
    let counted : List ℕ → Type 0 =
    ReadRose (g.S.Shelf.read_faults c.args.shelf.now)
    (g.S.Shelf.read_faults c.read_for.new.shelf) in
    let r = subst
    (λ (r : RowsReading CanonFeed). AreFileRows HoldsRows held name l (counted name) r)
    c.in-Rows.is c.in_ok-kept-2.ensures.rows in
    (r.0, r.2)

pub returns-in-Rows-clause-outcome : goal.returns-in-Rows-clause-outcome
returns-in-Rows-clause-outcome g c =
    let held = g.S.Shelf.held c.args.shelf.now in
    let name = c.args.transfer.now in
    let l = layout_view c.args.layout.now in
    let counted : List ℕ → Type 0 =
    ReadRose (g.S.Shelf.read_faults c.args.shelf.now)
    (g.S.Shelf.read_faults c.read_for.new.shelf) in
    let r = subst
    (λ (r : RowsReading CanonFeed). AreFileRows HoldsRows held name l (counted name) r)
    c.in-Rows.is c.in_ok-kept-2.ensures.rows in
    if_ok _ _ c.rewritten.result
    (λ o h. record {
      gathered = texts l (r.0 ∷ []);
      reads = inr (inr (r.0, r.1, refl));
      amounts = h;
    })
    (c.rewritten.ensures r.0 r.2)

pub returns-in-Malformed-clause-outcome : goal.returns-in-Malformed-clause-outcome
returns-in-Malformed-clause-outcome g c =
    let held = g.S.Shelf.held c.args.shelf.now in
    let name = c.args.transfer.now in
    let l = layout_view c.args.layout.now in
    let counted : List ℕ → Type 0 =
    ReadRose (g.S.Shelf.read_faults c.args.shelf.now)
    (g.S.Shelf.read_faults c.read_for.new.shelf) in
    let r = subst
    (λ (r : RowsReading CanonFeed). AreFileRows HoldsRows held name l (counted name) r)
    c.in-Malformed.is c.in_ok-kept-2.ensures.rows in
    if_ok _ _ c.malformed.result
    (λ o e. record {
      gathered = texts l (r.0 ∷ []);
      reads = inr (inr (r.0, r.1, refl));
      amounts = misread c.in-Malformed.line (fault_of c.in-Malformed.code) r.2 e;
    })
    c.malformed.ensures

pub returns-in-Unread-clause-outcome : goal.returns-in-Unread-clause-outcome
returns-in-Unread-clause-outcome g c =
    let held = g.S.Shelf.held c.args.shelf.now in
    let name = c.args.transfer.now in
    let l = layout_view c.args.layout.now in
    let counted : List ℕ → Type 0 =
    ReadRose (g.S.Shelf.read_faults c.args.shelf.now)
    (g.S.Shelf.read_faults c.read_for.new.shelf) in
    let r = subst
    (λ (r : RowsReading CanonFeed). AreFileRows HoldsRows held name l (counted name) r)
    c.in-Unread.is c.in_ok-kept-2.ensures.rows in
    let u = rows_unread Everything CanonFeed HoldsRows held name l (counted name)
    c.in-Unread.refusal r in
    if_ok _ _ c.not_read.result
    (λ o h.
    let e = unread_ends Everything held counted (counted name) name l c.in-Unread.refusal
    (outcome_of o)
    (λ q text. ReadsAll held counted l ([] ++ (text ∷ [])) [] q) u (λ n. n) h in
    record {
      gathered = e.0;
      reads = e.1;
      amounts = e.2 (rewrites (from_file Transfer name) c.args.file.now);
    })
    c.not_read.ensures
