use Rattle.std.proofs.Common.{sym}
use Rattle.commands.proofs.CommandLemmas.{same_word, two_words, compile_spelled}
use Rattle.commands.proofs.command.compile_of.Goals as goal

pub returns-then-is_file_name-clause-some : goal.returns-then-is_file_name-clause-some
returns-then-is_file_name-clause-some c = record {
  spelled = compile_spelled _ _ _ _ _
      (two_words _ _ _ c.in-len2.len_at_least c.in-len2.len_below c.command-item.is c.model-item.is)
      c.text.ensures (same_word _ _ (sym c.if-eq.ensures)) c.text-model.ensures;
  is_name = search (c.is_file_name.ensures, c.if-is_file_name.true);
}
