use Rattle.std.proofs.Common.{refl, rules}
use Rattle.plane.specs.Rule.Plans.{plan}
use Rattle.fault_lists.specs.FaceLists.{IsBroken, IsEmptyFace}
use Rattle.area_faults.proofs.LeastTold.{least_sides}
use Rattle.area_faults.proofs.ToldRings.{have_rings}
use Rattle.area_faults.proofs.telling.told_on.Goals as goal

pub returns-clause-rings : goal.returns-clause-rings
returns-clause-rings c = λ go.
    have_rings (plan c.args.ground.now) c.args.faces.now (IsEmptyFace c.args.faces.now)
    c.in_ok-found.found.empty.items c.in_ok-found.ensures.empty c.in_ok-empty.empty.items
    (search rules) go

pub returns-clause-open_rings : goal.returns-clause-open_rings
returns-clause-open_rings c = λ go.
    have_rings (plan c.args.ground.now) c.args.faces.now (IsBroken c.args.faces.now)
    c.in_ok-found.found.«open».items c.in_ok-found.ensures.broken c.in_ok-open.«open».items
    (search rules) go

pub returns-clause-faults : goal.returns-clause-faults
returns-clause-faults c = λ d origin out meetings on left faces. record {
  told = record {
    meetings = meetings;
    on = on;
    out = out;
    out_is = left;
    r = faces.0;
    rest = faces.1;
    over = c.numbers_tell_faults.ensures
        (plan c.args.ground.now) faces.0 out faces.1 c.args.faces.now c.in_ok-found.found faces.2
        c.in_ok-found.ensures;
    empty = c.numbers_tell_rings.ensures
        (plan c.args.ground.now) faces.0 out faces.1 c.args.faces.now
        c.in_ok-found.found.empty.items c.in_ok-empty.empty.items faces.2 (search rules);
    broken = c.numbers_tell_rings.ensures
        (plan c.args.ground.now) faces.0 out faces.1 c.args.faces.now
        c.in_ok-found.found.«open».items c.in_ok-open.«open».items faces.2 (search rules);
  };
  least = least_sides (plan c.args.ground.now) faces.0 out faces.1 c.args.faces.now faces.2
      (IsEmptyFace c.args.faces.now) c.in_ok-found.found.empty.items c.in_ok-found.ensures.empty;
  open_least = least_sides (plan c.args.ground.now) faces.0 out faces.1 c.args.faces.now faces.2
      (IsBroken c.args.faces.now) c.in_ok-found.found.«open».items c.in_ok-found.ensures.broken;
  out = refl;
}
