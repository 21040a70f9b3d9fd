use Rattle.std.proofs.Common.{◌≡◌, ◌++◌, drop, length}
use Rattle.itf_reader.specs.Findings.{findings_of}
use Rattle.delivery.specs.KeptRows.{all_found}
use Rattle.delivery.specs.KeptViews.{found_in}
use Rattle.delivery.proofs.judging.closing.gather.Given as goal

abbrev pub invariant-loop-place : goal.invariant-loop-place
invariant-loop-place l = record {
  count : length l.tables ≡ length l.fn.tables;
  rest : drop l.place (found_in l.tables) ≡ drop l.place (found_in l.fn.tables);
  found :
      findings_of l.all.items ++ all_found (drop l.place (found_in l.fn.tables))
      ≡ all_found (found_in l.fn.tables);
}
