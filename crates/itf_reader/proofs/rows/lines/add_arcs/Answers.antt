use Rattle.itf_reader.proofs.Arcs.{too_few}
use Rattle.itf_reader.proofs.Zipped.{all_done}
use Rattle.itf_reader.proofs.rows.lines.add_arcs.Goals as goal

pub returns : goal.returns
returns c = all_done _ _ _ (too_few c.args.column c.loop-rest.rest.now c.in_default.len_below)
    c.loop-rest.invariant
