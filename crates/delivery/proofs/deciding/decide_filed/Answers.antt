use Rattle.std.proofs.Common.{ℕ, List, [], ◌∷◌, ◌++◌, refl, inr}
use Rattle.ports.specs.Faults.{ReadRose}
use Rattle.table_layout.specs.Values.{layout_view}
use Rattle.commands.specs.Commands.{from_file, verifies}
use Rattle.commands.specs.Gathering.{texts, ReadsAll}
use Rattle.commands.specs.declared.files.File.TheVariants.{Certificate}
use Rattle.reports.specs.OutcomeViews.{outcome_of}
use Rattle.commands.proofs.Results.{if_ok}
use Rattle.delivery.proofs.Steps.{not_read_ends}
use Rattle.delivery.proofs.deciding.decide_filed.Goals as goal

pub returns-in-Ok-clause-outcome : goal.returns-in-Ok-clause-outcome
returns-in-Ok-clause-outcome g c text source j =
    let w = c.in-Ok.ensures.whole in
    if_ok _ _ c.verified_by.result
    (λ o h. record {
      gathered = texts (layout_view c.args.layout.now) (text ∷ w.0 ∷ []);
      reads = inr (inr (w.0, w.1, refl));
      amounts = h;
    })
    (c.verified_by.ensures text w.0 j w.2)

pub returns-in-Err-clause-outcome : goal.returns-in-Err-clause-outcome
returns-in-Err-clause-outcome g c text source j =
    let held = g.S.Shelf.held c.args.shelf.now in
    let counted : List ℕ
    → Type 0 = ReadRose (g.S.Shelf.read_faults c.args.shelf.now)
    (g.S.Shelf.read_faults c.read_certificates.new.shelf) in
    let l = layout_view c.args.layout.now in
    if_ok _ _ c.not_read.result
    (λ o h.
    let e = not_read_ends _ held counted Certificate c.args.name.now c.in-Err.refusal (outcome_of o)
    (λ q filed. ReadsAll held counted l ((text ∷ []) ++ (filed ∷ [])) [] q)
    c.in-Err.ensures.cause c.in-Err.ensures.long h in
    record {
      gathered = e.0;
      reads = e.1;
      amounts = e.2 (verifies source (from_file Certificate c.args.name.now));
    })
    c.not_read.ensures
