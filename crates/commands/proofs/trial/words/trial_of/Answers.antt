use Rattle.std.proofs.Common.{sym, ◌∙◌}
use Rattle.commands.proofs.TrialWords.{three_words, trial_spelled, no_other_word}
use Rattle.commands.proofs.trial.words.trial_of.Goals as goal

pub returns-in-Some-clause-some : goal.returns-in-Some-clause-some
returns-in-Some-clause-some c = record {
  word = c.text-2.result.now;
  spelled = trial_spelled _ _ _ _ _ _ _
      (three_words _ _ _ _ c.in-len3.len_at_least c.in-len3.len_below c.command-item.is
      c.size-item.is c.certificate-item.is)
      c.text.ensures (no_other_word _ _ c.if-ne.ensures) c.text-2.ensures
      c.text-certificate.ensures;
  is_size = c.in-Some.ensures.some;
  is_name = sym c.is_file_name.ensures ∙ c.if-not-is_file_name.false;
}
