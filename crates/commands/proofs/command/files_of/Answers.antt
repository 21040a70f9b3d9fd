use Rattle.commands.proofs.CommandLemmas.{four_words, files_spelled}
use Rattle.commands.proofs.command.files_of.Goals as goal

pub returns-then-is_file_name-3-clause-some : goal.returns-then-is_file_name-3-clause-some
returns-then-is_file_name-3-clause-some c = record {
  spelled = files_spelled _ _ _ _ _ _ _ _ _ _
      (four_words _ _ _ _ _ c.in-len4.len_at_least c.in-len4.len_below c.command-item.is
      c.model-item.is c.transfer-item.is c.third-item.is)
      c.text-4.ensures c.in_ok-verb.ensures.some c.text.ensures c.text-2.ensures c.text-3.ensures;
  model = search (c.is_file_name.ensures, c.if-is_file_name.true);
  transfer = search (c.is_file_name-then-is_file_name.ensures, c.if-is_file_name-2.true);
  third = search (c.is_file_name-then-is_file_name-2.ensures, c.if-is_file_name-3.true);
}
