use Rattle.std.proofs.Common.{ℕ, List, [], ◌∷◌, ◌++◌, Option, subst}
use Rattle.ports.specs.Faults.{ReadRose}
use Rattle.ports.specs.Files.{Files}
use Rattle.table_layout.specs.Values.{layout_view}
use Rattle.commands.specs.Commands.{from_file, verifies}
use Rattle.commands.specs.CommandViews.{transfer_of}
use Rattle.commands.specs.Gathering.{ReadsAll}
use Rattle.commands.specs.declared.files.File.TheVariants.{Certificate}
use Rattle.reports.specs.OutcomeViews.{outcome_of}
use Rattle.commands.proofs.ReadingSteps.{reads_by, reads_then}
use Rattle.commands.proofs.Results.{if_ok}
use Rattle.delivery.specs.Ending.{OutcomeAfter}
use Rattle.delivery.specs.Pieces.{IsSourceJudgedFor}
use Rattle.delivery.specs.declared.judging.closing.Wanted.TheVariants.{AreasAlone}
use Rattle.delivery.specs.declared.transfers.TransferReading.{TransferReading}
use Rattle.delivery.proofs.Sources.{text_of, unread_ends}
use Rattle.delivery.proofs.Steps.{rose_after, ends_on}
use Rattle.delivery.proofs.deciding.decide_verified.Goals as goal

pub decide_filed-requires : goal.decide_filed-requires
decide_filed-requires g c =
    let held = g.S.Shelf.held c.args.shelf.now in
    let counted : List ℕ
    → Type 0 = ReadRose (g.S.Shelf.read_faults c.args.shelf.now)
    (g.S.Shelf.read_faults c.judge_source.new.shelf) in
    let l = layout_view c.args.layout.now in
    let t = text_of AreasAlone held counted l c.args.source c.in-Judged.judged
    (subst (λ (r : TransferReading). IsSourceJudgedFor AreasAlone held counted l
    (transfer_of c.args.source) r) c.in-Judged.is c.in_ok-judged.ensures.judged) in
    record { text = (t.0, t.1) }

pub returns-in-Judged-clause-outcome : goal.returns-in-Judged-clause-outcome
returns-in-Judged-clause-outcome g c =
    let held = g.S.Shelf.held c.args.shelf.now in
    let first : List ℕ
    → Type 0 = ReadRose (g.S.Shelf.read_faults c.args.shelf.now)
    (g.S.Shelf.read_faults c.judge_source.new.shelf) in
    let near : List ℕ
    → Type 0 = ReadRose (g.S.Shelf.read_faults c.judge_source.new.shelf)
    (g.S.Shelf.read_faults c.decide_filed.new.shelf) in
    let far : List ℕ
    → Type 0 = ReadRose (g.S.Shelf.read_faults c.args.shelf.now)
    (g.S.Shelf.read_faults c.decide_filed.new.shelf) in
    let l = layout_view c.args.layout.now in
    let source = transfer_of c.args.source in
    let filed = from_file Certificate c.args.certificates.now in
    let t = text_of AreasAlone held first l c.args.source c.in-Judged.judged
    (subst (λ (r : TransferReading). IsSourceJudgedFor AreasAlone held first l source r)
    c.in-Judged.is c.in_ok-judged.ensures.judged) in
    if_ok _ _ c.decide_filed.result
    (λ o h.
    let moved : OutcomeAfter held near (verifies source filed) l (t.0 ∷ []) (filed ∷ [])
    (outcome_of o) =
    subst (λ (held : Option Files). OutcomeAfter held near (verifies source filed) l (t.0 ∷ [])
    (filed ∷ []) (outcome_of o)) c.in_ok-judged.ensures.reads.held h in
    let e = ends_on held near far
    (λ q r. rose_after (g.S.Shelf.read_faults c.args.shelf.now q)
    (g.S.Shelf.read_faults c.judge_source.new.shelf q)
    (g.S.Shelf.read_faults c.decide_filed.new.shelf q) (c.in_ok-judged.ensures.reads.reads q) r)
    (verifies source filed) l (t.0 ∷ []) (filed ∷ []) (outcome_of o) moved in
    record {
      gathered = e.gathered;
      reads = t.2 far e.gathered
          (λ text. ReadsAll held far l ([] ++ (text ∷ [])) (filed ∷ []) e.gathered) e.reads;
      amounts = e.amounts;
    })
    (c.decide_filed.ensures.outcome t.0 source t.1)

pub returns-in-Judged-clause-reads : goal.returns-in-Judged-clause-reads
returns-in-Judged-clause-reads g c =
    reads_then (λ r. r.0)
    (λ r. c.in_ok-judged.ensures.reads.ready.readable c.args.certificates.now r.1.0)
    c.in_ok-judged.ensures.reads c.decide_filed.ensures.reads

pub returns-in-Unread-clause-outcome : goal.returns-in-Unread-clause-outcome
returns-in-Unread-clause-outcome g c =
    let held = g.S.Shelf.held c.args.shelf.now in
    let counted : List ℕ
    → Type 0 = ReadRose (g.S.Shelf.read_faults c.args.shelf.now)
    (g.S.Shelf.read_faults c.judge_source.new.shelf) in
    let l = layout_view c.args.layout.now in
    let filed = from_file Certificate c.args.certificates.now in
    let u = subst
    (λ (r : TransferReading).
    IsSourceJudgedFor AreasAlone held counted l (transfer_of c.args.source) r)
    c.in-Unread.is c.in_ok-judged.ensures.judged in
    if_ok _ _ c.not_read.result
    (λ o h.
    let e = unread_ends AreasAlone held counted l c.args.source c.in-Unread.refusal (outcome_of o)
    (λ q text. ReadsAll held counted l ([] ++ (text ∷ [])) (filed ∷ []) q) u h in
    record {
      gathered = e.0;
      reads = e.1;
      amounts = e.2 (verifies (transfer_of c.args.source) filed);
    })
    c.not_read.ensures

pub returns-in-Unread-clause-reads : goal.returns-in-Unread-clause-reads
returns-in-Unread-clause-reads g c = reads_by (λ r. r.0) c.in_ok-judged.ensures.reads
