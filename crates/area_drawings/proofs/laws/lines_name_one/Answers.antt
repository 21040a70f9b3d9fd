use Rattle.itf_reader.specs.Layouts.{form_of}
use Rattle.area_drawings.proofs.LineNames.{curves_rise, objects_rise}
use Rattle.area_drawings.proofs.laws.lines_name_one.Goals as goal

pub returns-clause-curves : goal.returns-clause-curves
returns-clause-curves c l text rows a d i j r w lt =
    curves_rise l rows a d i j (c.lines_rise.ensures (form_of l) l.codes.continued text rows r) w lt

pub returns-clause-objects : goal.returns-clause-objects
returns-clause-objects c l text rows a d i j r w lt =
    objects_rise l rows a d i j (c.lines_rise.ensures (form_of l) l.codes.continued text rows r) w
    lt
