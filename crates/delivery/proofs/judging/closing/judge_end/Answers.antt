use Rattle.std.proofs.Common.{Result, subst}
use Rattle.itf_reader.specs.declared.refusal.ReadRefusal.{ReadRefusal}
use Rattle.table_layout.specs.Values.{layout_view}
use Rattle.delivery.specs.KeptViews.{HasTaken}
use Rattle.delivery.specs.Pieces.{IsKept}
use Rattle.delivery.specs.declared.judging.rows.TransferKept.{TransferKept}
use Rattle.delivery.proofs.judging.closing.judge_end.Goals as goal

pub judge_rows-requires-clause-text : goal.judge_rows-requires-clause-text
judge_rows-requires-clause-text c =
    let l = layout_view c.args.layout.now in
    let r = c.requires.text in
    (r.0, subst (λ (k : Result TransferKept ReadRefusal). IsKept HasTaken l r.0 k) c.in-Ok.is r.1)

pub returns-in-Ok : goal.returns-in-Ok
returns-in-Ok c text h =
    let l = layout_view c.args.layout.now in
    c.judge_rows.ensures text
    (subst (λ (k : Result TransferKept ReadRefusal). IsKept HasTaken l text k) c.in-Ok.is h)

pub returns-in-Err : goal.returns-in-Err
returns-in-Err c text h =
    let l = layout_view c.args.layout.now in
    c.malformed.ensures l text
    (subst (λ (k : Result TransferKept ReadRefusal). IsKept HasTaken l text k) c.in-Err.is h)
