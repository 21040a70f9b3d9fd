use Rattle.std.specs.Prelude.{codes, decimal}
use Rattle.std.proofs.lemmas.Result.{on_ok_weaker}
use Rattle.itffaults.proofs.FaultTextLemmas.Parts.{three_parts}
use Rattle.itffaults.proofs.fault_text.areas.add_head.Goals as goal

pub returns : goal.returns
returns c =
    on_ok_weaker c.add-2.result
    (three_parts c.args.text.now c.add.new.self c.add_number.new.text c.add-2.new.self
    (codes "ITFFAULTS 1\nAREAS ") (decimal c.args.areas)
    (codes "\n") c.in_ok-add.ensures c.in_ok-add_number.ensures)
    c.add-2.ensures
