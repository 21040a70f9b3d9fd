use Rattle.itf_reader.proofs.ByTable.{rows_by_table}
use Rattle.itf_reader.specs.Layouts.{form_of}
use Rattle.domain_rules.proofs.FedValues.{none_fed, row_fed, all_fed}
use Rattle.domain_rules.proofs.laws.fed_values.Goals as goal

pub returns-clause-none : goal.returns-clause-none
returns-clause-none c = none_fed

pub returns-clause-more : goal.returns-clause-more
returns-clause-more c = row_fed

pub returns-clause-whole : goal.returns-clause-whole
returns-clause-whole c l lines transfer h =
    all_fed l lines transfer (rows_by_table (form_of l) lines transfer h)
