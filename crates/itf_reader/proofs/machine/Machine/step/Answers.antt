use Rattle.itf_reader.specs.Names.{form_in}
use Rattle.itf_reader.proofs.machine.Machine.step.Goals as goal

pub returns-in-InTable-clause-at : goal.returns-in-InTable-clause-at
returns-in-InTable-clause-at c = rw c.in-InTable.is (c.in_table.ensures (form_in c.args.names.now))

pub returns-in-InPolyline-clause-at : goal.returns-in-InPolyline-clause-at
returns-in-InPolyline-clause-at c =
    rw c.in-InPolyline.is (c.in_polyline.ensures (form_in c.args.names.now))

pub returns-in-AfterArcPoint-clause-at : goal.returns-in-AfterArcPoint-clause-at
returns-in-AfterArcPoint-clause-at c =
    rw c.in-AfterArcPoint.is (c.after_arc_point.ensures (form_in c.args.names.now))

pub returns-in-BeforeScnt-clause-at : goal.returns-in-BeforeScnt-clause-at
returns-in-BeforeScnt-clause-at c =
    rw c.in-BeforeScnt.is (c.before_scnt.ensures (form_in c.args.names.now))

pub returns-in-InHead-clause-at : goal.returns-in-InHead-clause-at
returns-in-InHead-clause-at c = rw c.in-InHead.is (c.in_head.ensures (form_in c.args.names.now))

pub returns-in-BeforeMtid-clause-at : goal.returns-in-BeforeMtid-clause-at
returns-in-BeforeMtid-clause-at c =
    rw c.in-BeforeMtid.is (c.before_mtid.ensures (form_in c.args.names.now))

pub returns-in-BeforeEnde-clause-at : goal.returns-in-BeforeEnde-clause-at
returns-in-BeforeEnde-clause-at c =
    rw c.in-BeforeEnde.is (c.before_ende.ensures (form_in c.args.names.now))

pub returns-in-InObject-clause-at : goal.returns-in-InObject-clause-at
returns-in-InObject-clause-at c =
    rw c.in-InObject.is (c.in_object.ensures.at (form_in c.args.names.now))
