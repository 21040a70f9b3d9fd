-- A check that ends before any area is searched.
use Rattle.std.proofs.Common.{◌≡◌, ◌≢◌, ℕ, List, ◌∷◌, Option, refl, ap, subst}
use Rattle.std.specs.Prelude.{codes}
use Rattle.commands.specs.Commands.{FileNames, on_files}
use Rattle.commands.specs.declared.command.Verb.TheVariants.{Check}
use Rattle.delivery.specs.Deciding.{CallOutcome, with_command}
use Rattle.delivery.specs.Drawn.{IsEarly, IsOfFiles, names}
use Rattle.delivery.proofs.Steps.{decides_on}
use Rattle.ports.specs.Files.{Files}
use Rattle.reports.specs.Lines.{Line}
use Rattle.reports.specs.Outcomes.{Outcome, report_of}
use Rattle.reports.specs.declared.status.Status.{Status}
use Rattle.reports.specs.declared.status.Status.TheVariants as status
use Rattle.itffaults.specs.Faults.{AreNames, HasCause, LeavesRejection, Reports, early, rejected}
use Rattle.itffaults.specs.Faults.{rejection}
use Rattle.itffaults.proofs.Rejections.{IsCheckOf, rejects}

-- a status is that of a transfer that is rejected, or it is not
by_rejected : (A : Type 0) (s : Status) → (s ≡ status.Rejected → A) → (s ≢ status.Rejected → A) → A
by_rejected A status.Rejected f n = f refl
by_rejected A status.Accepted f n = n (λ e. cc)
by_rejected A status.Undecided f n = n (λ e. cc)
by_rejected A status.ModelRefused f n = n (λ e. cc)
by_rejected A status.Usage f n = n (λ e. cc)
by_rejected A status.ReadFault f n = n (λ e. cc)
by_rejected A status.WriteFault f n = n (λ e. cc)
by_rejected A status.OverLimit f n = n (λ e. cc)
by_rejected A status.Memory f n = n (λ e. cc)
by_rejected A status.NotProved f n = n (λ e. cc)

module _ (held : Option Files) (near far : List ℕ → Type 0) (wrote : Type 0)
    (words : List (List ℕ)) (c : FileNames) (o : Outcome) (answer : Status) (new : Option Files)
    (before after : Option (List ℕ))
    (counted : (name : List ℕ) → near name → far name) (n : AreNames words c)
    (h : IsCheckOf held near c.model c.transfer o) where
  decided : CallOutcome held far (codes "check" ∷ words) o
  decided =
      let e = h c.third in
      decides_on held near far counted (codes "check" ∷ words) o
      (with_command (on_files Check (names c.model c.transfer c.third)) e.gathered
      (record {
        spelled = ap (λ (ws : List (List ℕ)). codes "check" ∷ ws) n.spelled;
        model = n.model;
        transfer = n.transfer;
        third = n.third;
      }) e.gathers e.amounts)

  pub ended : IsEarly o → (o.status ≡ status.Rejected → IsOfFiles held c.model c.transfer o)
      → (o.status ≢ status.Rejected → new ≡ held)
      → (o.status ≢ status.Rejected → Reports (report_of o) o.status answer before after)
      → ((ls : List Line) → o ≡ rejection ls
      → LeavesRejection ls held c.third wrote answer new before after)
      → HasCause held far wrote words answer new before after
  ended i of_files same reports leaves =
      by_rejected (HasCause held far wrote words answer new before after) o.status
      (λ s.
      let r = rejects held near c.model c.transfer o h s in
      rejected c n (record {
        lines = r.0;
        decided = subst (CallOutcome held far (codes "check" ∷ words)) r.1 decided;
        of_files = subst (IsOfFiles held c.model c.transfer) r.1 (of_files s);
        leaves = leaves r.0 r.1;
      }))
      (λ s. early (record {
        outcome = o;
        decided = decided;
        early = i;
        unrejected = s;
        same = same s;
        reports = reports s;
      }))
