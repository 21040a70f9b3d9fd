use Rattle.ili_grammar.proofs.source.Source.end_name.Goals.{then-is+else-eq, else-is}
use Rattle.ili_grammar.specs.Values.{ident_of}
use Rattle.ili_grammar.proofs.Stuck.{goes_ended, not_a_name, other_bytes, other_name}
use Rattle.ili_grammar.proofs.Stuck.{stuck_end_name}
use Rattle.std.proofs.Common.{◌+◌, sym, ap, ◌∙◌}
use Rattle.ili_grammar.specs.Steps.{rest, all}
use Rattle.ili_grammar.specs.Tokens.{Info, name}
use Rattle.ili_grammar.proofs.Leads.{info_here, equal_bytes}
use Rattle.ili_grammar.proofs.source.Source.end_name.Goals as goal

pub returns-then-eq-clause-reads : goal.returns-then-eq-clause-reads
returns-then-eq-clause-reads c =
    let r = c.if-is.ensures.here in
    let e = info_here c.args.self.now.text.now c.args.self.now.tokens.now c.args.at name r.0
    (rest c.args.self.now (c.args.at + 1)) c.if-is.ensures.within r.1 in (
      r.0,
      r.1,
      sym (ap (λ (i : Info). i.text) e) ∙ sym c.bytes.ensures
          ∙ equal_bytes c.bytes.result.now c.bytes-then-is.result.now c.if-eq.ensures
          ∙ c.bytes-then-is.ensures,
    )

pub returns-then-eq-clause-runs : goal.returns-then-eq-clause-runs
returns-then-eq-clause-runs c = let r = c.if-is.ensures.here in
    let e = info_here c.args.self.now.text.now c.args.self.now.tokens.now c.args.at name r.0
    (rest c.args.self.now (c.args.at + 1)) c.if-is.ensures.within r.1 in
    goes_ended (ident_of c.args.name.now) _ _ (
      r.0,
      r.1,
      sym (ap (λ (i : Info). i.text) e)
          ∙ sym c.bytes.ensures
          ∙ equal_bytes c.bytes.result.now c.bytes-then-is.result.now c.if-eq.ensures
          ∙ c.bytes-then-is.ensures,
    )

pub returns-clause-stops : goal.returns-clause-stops
returns-clause-stops c =
    stuck_end_name (all c.args.self.now) (rest c.args.self.now c.args.at)
    (ident_of c.args.name.now).text _ (elim c.if-is.branch [
      | then-is+else-eq w ↦
          let r = w.if-is.ensures.here in
          let e = info_here c.args.self.now.text.now c.args.self.now.tokens.now c.args.at name r.0
          (rest c.args.self.now (c.args.at + 1)) w.if-is.ensures.within r.1 in
          other_name _ _ (ident_of c.args.name.now).text r.0 r.1
          (other_bytes _ _ _ _ w.if-eq.ensures (w.bytes.ensures
          ∙ ap (λ (i : Info). i.text) e) w.bytes-then-is.ensures)
      | else-is w ↦ not_a_name _ _ w.if-is.ensures.here
    ]) c.fault.ensures
