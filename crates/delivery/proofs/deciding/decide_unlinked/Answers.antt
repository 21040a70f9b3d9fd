use Rattle.std.proofs.Common.{ℕ, List, [], ◌∷◌, ◌++◌, refl, inr}
use Rattle.ports.specs.Faults.{ReadRose}
use Rattle.itf_reader.specs.Refusals.{fault_of}
use Rattle.commands.specs.Commands.{from_file, tests_points}
use Rattle.commands.specs.Gathering.{texts, ReadsAll}
use Rattle.commands.specs.declared.files.File.TheVariants.{Links}
use Rattle.reports.specs.OutcomeViews.{outcome_of}
use Rattle.commands.proofs.Results.{if_ok}
use Rattle.delivery.specs.Judging.{at_fault}
use Rattle.delivery.proofs.Steps.{not_read_ends}
use Rattle.delivery.proofs.deciding.decide_unlinked.Goals as goal

pub returns-in-Ok-clause-outcome : goal.returns-in-Ok-clause-outcome
returns-in-Ok-clause-outcome g c l text source k =
    if_ok _ _ c.malformed.result
    (λ o e. record {
      gathered = texts l (text ∷ c.in-Ok._links.items ∷ []);
      reads = inr (inr (c.in-Ok._links.items, c.in-Ok.ensures.whole, refl));
      amounts = at_fault c.args.line (fault_of c.args.code) k e;
    })
    c.malformed.ensures

pub returns-in-Err-clause-outcome : goal.returns-in-Err-clause-outcome
returns-in-Err-clause-outcome g c l text source k =
    let held = g.S.Shelf.held c.args.shelf.now in
    let counted : List ℕ → Type 0 =
    ReadRose (g.S.Shelf.read_faults c.args.shelf.now)
    (g.S.Shelf.read_faults c.read_file.new.shelf) in
    if_ok _ _ c.not_read.result
    (λ o h.
    let e = not_read_ends _ held counted Links c.args.name.now c.in-Err.refusal (outcome_of o)
    (λ q links. ReadsAll held counted l ((text ∷ []) ++ (links ∷ [])) [] q)
    c.in-Err.ensures.cause c.in-Err.ensures.long h in
    record {
      gathered = e.0;
      reads = e.1;
      amounts = e.2 (tests_points source (from_file Links c.args.name.now));
    })
    c.not_read.ensures
