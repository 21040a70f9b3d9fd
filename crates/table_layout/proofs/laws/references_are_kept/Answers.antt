use Rattle.table_layout.proofs.References.{reference_found}
use Rattle.table_layout.proofs.laws.references_are_kept.Goals as goal

pub returns : goal.returns
returns c written m n t x a r o none stands e k h =
    reference_found written m n t x a r o none stands e k h
