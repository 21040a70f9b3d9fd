use Rattle.ili_grammar.proofs.Stuck.{stuck_tid}
use Rattle.ili_grammar.specs.Machine.{tid_value}
use Rattle.ili_grammar.proofs.Follow.{by_token}
use Rattle.std.proofs.Common.{[], refl}
use Rattle.ili_grammar.specs.Steps.{all, rest}
use Rattle.ili_grammar.specs.Tokens.{tok, explanation, word, I16, I32, ANY}
use Rattle.ili_grammar.specs.Models.{free, i16, i32, any}
use Rattle.ili_grammar.proofs.source.Source.identification_form.Goals.{then-is-via-then-is}
use Rattle.ili_grammar.proofs.source.Source.identification_form.Goals.{then-is-via-else-is+then-is_keyword}
use Rattle.ili_grammar.proofs.source.Source.identification_form.Goals.{then-is-via-else-is+else-is_keyword+then-is_keyword-2}
use Rattle.ili_grammar.proofs.source.Source.identification_form.Goals.{then-is-via-else-is+else-is_keyword+else-is_keyword-2+then-is_keyword-3}
use Rattle.ili_grammar.proofs.source.Source.identification_form.Goals as goal

pub returns-then-is-clause-reads : goal.returns-then-is-clause-reads
returns-then-is-clause-reads c = elim c.then-is.branch [
  | then-is-via-then-is w ↦ let h = w.if-is.ensures.here in (tok explanation h.0, h.1, free h.0)
  | then-is-via-else-is+then-is_keyword w ↦ let h = w.if-is_keyword.ensures.here in
      (tok (word I16) h.0, h.1, i16 h.0)
  | then-is-via-else-is+else-is_keyword+then-is_keyword-2 w ↦ let h =
      w.if-is_keyword-2.ensures.here in (tok (word I32) h.0, h.1, i32 h.0)
  | then-is-via-else-is+else-is_keyword+else-is_keyword-2+then-is_keyword-3 w ↦ let h =
      w.if-is_keyword-3.ensures.here in (tok (word ANY) h.0, h.1, any h.0)
]

pub returns-then-is-clause-runs : goal.returns-then-is-clause-runs
returns-then-is-clause-runs c = elim c.then-is.branch [
  | then-is-via-then-is w ↦ by_token tid_value explanation [] _ _ (λ i. refl) w.if-is.ensures.here
  | then-is-via-else-is+then-is_keyword w ↦ by_token tid_value (word I16) [] _ _
      (λ i. refl) w.if-is_keyword.ensures.here
  | then-is-via-else-is+else-is_keyword+then-is_keyword-2 w ↦ by_token tid_value (word I32) [] _ _
      (λ i. refl) w.if-is_keyword-2.ensures.here
  | then-is-via-else-is+else-is_keyword+else-is_keyword-2+then-is_keyword-3 w ↦ by_token tid_value
      (word ANY) [] _ _ (λ i. refl) w.if-is_keyword-3.ensures.here
]

pub returns-clause-stops : goal.returns-clause-stops
returns-clause-stops c =
    stuck_tid (all c.args.self.now) (rest c.args.self.now c.args.at) _ c.if-is.ensures.here
    c.if-is_keyword.ensures.here c.if-is_keyword-2.ensures.here c.if-is_keyword-3.ensures.here
    c.fault.ensures
