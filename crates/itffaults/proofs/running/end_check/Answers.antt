use Rattle.std.proofs.Common.{ap, inr, refl, rules}
use Rattle.reports.specs.Outcomes.{Outcome}
use Rattle.itffaults.proofs.running.end_check.Goals as goal

pub returns-in_default : goal.returns-in_default
returns-in_default g c = record {
  same = λ n. refl;
  reports = λ n m. c.report_ended.ensures.reports m;
  told = λ n ls e. absurd (c.in_default.not-Rejected (ap (λ (o : Outcome). o.status) e));
  reads = search rules;
  writes = search rules;
  faults = c.report_ended.ensures.faults;
  cause = λ e. inr (c.report_ended.ensures.cause e);
  memory = λ e. (refl, c.report_ended.ensures.memory e);
}
