use Rattle.itffaults.proofs.Words.{three_spelled, three_words}
use Rattle.itffaults.proofs.naming.file_names.Goals as goal

pub returns-then-is_file_name-3-clause-some : goal.returns-then-is_file_name-3-clause-some
returns-then-is_file_name-3-clause-some c = record {
  spelled = three_spelled _ _ _ _ _ _ _
      (three_words _ _ _ _ c.in-len3.len_at_least c.in-len3.len_below c.model-item.is
      c.transfer-item.is c.third-item.is)
      c.text.ensures c.text-2.ensures c.text-3.ensures;
  model = search (c.is_file_name.ensures, c.if-is_file_name.true);
  transfer = search (c.is_file_name-then-is_file_name.ensures, c.if-is_file_name-2.true);
  third = search (c.is_file_name-then-is_file_name-2.ensures, c.if-is_file_name-3.true);
}
