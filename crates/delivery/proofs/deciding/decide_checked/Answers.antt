use Rattle.std.proofs.Common.{ℕ, List, [], ◌∷◌, ◌++◌, refl, subst}
use Rattle.ports.specs.Faults.{ReadRose}
use Rattle.table_layout.specs.Values.{layout_view}
use Rattle.commands.specs.Commands.{judges}
use Rattle.commands.specs.CommandViews.{transfer_of, target_of}
use Rattle.commands.specs.Gathering.{texts, ReadsAll}
use Rattle.reports.specs.OutcomeViews.{outcome_of}
use Rattle.commands.proofs.Results.{if_ok}
use Rattle.delivery.specs.Pieces.{IsSourceJudgedFor}
use Rattle.delivery.specs.declared.judging.closing.Wanted.TheVariants.{Everything}
use Rattle.delivery.specs.declared.transfers.TransferReading.{TransferReading}
use Rattle.delivery.proofs.Sources.{text_of, unread_ends}
use Rattle.delivery.proofs.deciding.decide_checked.Goals as goal

pub checked-requires-clause-text : goal.checked-requires-clause-text
checked-requires-clause-text g c =
    let held = g.S.Shelf.held c.args.shelf.now in
    let counted : List ℕ
    → Type 0 = ReadRose (g.S.Shelf.read_faults c.args.shelf.now)
    (g.S.Shelf.read_faults c.judge_source.new.shelf) in
    let l = layout_view c.args.layout.now in
    let t = text_of Everything held counted l c.args.source c.in-Judged.judged
    (subst (λ (r : TransferReading). IsSourceJudgedFor Everything held counted l
    (transfer_of c.args.source) r) c.in-Judged.is c.in_ok-judged.ensures.judged) in
    (t.0, t.1)

pub returns-in-Judged-clause-outcome : goal.returns-in-Judged-clause-outcome
returns-in-Judged-clause-outcome g c =
    let held = g.S.Shelf.held c.args.shelf.now in
    let counted : List ℕ
    → Type 0 = ReadRose (g.S.Shelf.read_faults c.args.shelf.now)
    (g.S.Shelf.read_faults c.judge_source.new.shelf) in
    let l = layout_view c.args.layout.now in
    let t = text_of Everything held counted l c.args.source c.in-Judged.judged
    (subst (λ (r : TransferReading). IsSourceJudgedFor Everything held counted l
    (transfer_of c.args.source) r) c.in-Judged.is c.in_ok-judged.ensures.judged) in
    if_ok _ _ c.checked.result
    (λ o h. record {
      gathered = texts l (t.0 ∷ []);
      reads = t.2 counted (texts l (t.0 ∷ []))
          (λ text. ReadsAll held counted l ([] ++ (text ∷ [])) [] (texts l (t.0 ∷ []))) refl;
      amounts = h;
    })
    (c.checked.ensures t.0 t.1)

pub returns-in-Unread-clause-outcome : goal.returns-in-Unread-clause-outcome
returns-in-Unread-clause-outcome g c =
    let held = g.S.Shelf.held c.args.shelf.now in
    let counted : List ℕ
    → Type 0 = ReadRose (g.S.Shelf.read_faults c.args.shelf.now)
    (g.S.Shelf.read_faults c.judge_source.new.shelf) in
    let l = layout_view c.args.layout.now in
    let u = subst
    (λ (r : TransferReading).
    IsSourceJudgedFor Everything held counted l (transfer_of c.args.source) r)
    c.in-Unread.is c.in_ok-judged.ensures.judged in
    if_ok _ _ c.not_read.result
    (λ o h.
    let e = unread_ends Everything held counted l c.args.source c.in-Unread.refusal (outcome_of o)
    (λ q text. ReadsAll held counted l ([] ++ (text ∷ [])) [] q) u h in
    record {
      gathered = e.0;
      reads = e.1;
      amounts = e.2 (judges (transfer_of c.args.source) (target_of c.args.target.now));
    })
    c.not_read.ensures
