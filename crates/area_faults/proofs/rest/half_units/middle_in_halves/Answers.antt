use Rattle.area_faults.proofs.rest.half_units.middle_in_halves.Goals as goal

pub returns : goal.returns
returns c = λ i. record { x = c.middle_between.ensures.x i; y = c.middle_between.ensures.y i }
