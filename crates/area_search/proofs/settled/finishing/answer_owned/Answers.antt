use Rattle.std.proofs.Common.{sym, subst}
use Rattle.area_search.specs.Answers.{IsLeastLevel, proved}
use Rattle.area_search.specs.Settled.Cases.{plan_of}
use Rattle.area_search.proofs.settled.finishing.answer_owned.Goals as goal

pub returns : goal.returns
returns c =
    let e = c.in_ok-certify_run.ensures in
    record {
      answer = proved c.in_ok-certify_run.field-0 e.proves
          (subst (IsLeastLevel (plan_of c.args.run)) (sym e.level) c.requires.least) e.names
          e.chosen;
      regions = c.in_ok-regions.ensures;
    }
