use Rattle.std.proofs.Common.{List, ap}
use Rattle.itf_reader.specs.Findings.{in_order}
use Rattle.itf_reader.specs.Forms.{Row}
use Rattle.itf_reader.specs.Layouts.{form_of}
use Rattle.itf_reader.proofs.ByTable.{rows_by_table}
use Rattle.ident_refs.specs.KeyFindings.{tables_keys}
use Rattle.ident_refs.proofs.laws.fed_transfer.Goals as goal

pub returns : goal.returns
returns c l lines transfer h =
    ap (λ (rows : List (List Row)). in_order (tables_keys l.codes rows l.tables rows))
    (rows_by_table (form_of l) lines transfer h)
