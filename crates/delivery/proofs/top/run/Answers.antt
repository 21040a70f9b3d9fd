use Rattle.std.proofs.Common.{ℕ, List, length, sym, ◌∙◌, subst}
use Rattle.ports.specs.Output.{Adds, AddsPrefix}
use Rattle.ports.specs.Rooms.{HasRoom}
use Rattle.reports.specs.OutcomeViews.{outcome_of}
use Rattle.delivery.specs.Calls.{stores}
use Rattle.delivery.proofs.Calls.{called}
use Rattle.delivery.proofs.top.run.Goals as goal

pub returns : goal.returns
returns g c =
    let before = g.K.Sink.written c.args.out.now in
    let after = g.K.Sink.written c.publish.new.out in
    let shelf = c.decide.new.shelf in
    let out = c.args.out.now in
    let text = c.deref.ensures.value ∙ c.in-Ok-report.ensures in
    called
    (record {
      cause = c.outcomes_are_right.ensures.cause;
      agree = c.outcomes_are_right.ensures.agree;
      straights = c.straights_are_decided.ensures.calls;
      valid = c.valid_is_accepted.ensures;
    })
    c.args.words.now _
    (stores (g.S.Shelf.held shelf) (g.S.Shelf.readable shelf) (g.S.Shelf.space shelf)
    (g.S.Shelf.read_faults shelf) (g.S.Shelf.write_faults shelf) (g.K.Sink.written out)
    (g.K.Sink.space out) (g.K.Sink.faults out)) _
    (outcome_of c.in-Ok.outcome) c.publish.result c.in-Ok.ensures.outcome c.in-Ok.ensures.reads
    (record {
      answered = c.publish.ensures.status;
      text = λ n. subst (λ (bytes : List ℕ). Adds before bytes after) text
          (c.publish.ensures.text n);
      prefix = subst (λ (bytes : List ℕ). AddsPrefix before bytes after) text
          c.publish.ensures.prefix;
      begun = c.publish.ensures.begun;
      filed = c.publish.ensures.filed;
      whole = c.publish.ensures.whole;
      reads = c.publish.ensures.reads;
      writes = c.publish.ensures.writes;
      faults = c.publish.ensures.faults;
      cause = c.publish.ensures.cause;
      stay = λ filing report. c.publish.ensures.stay filing
          (subst (λ (bytes : List ℕ). HasRoom (length bytes) (g.K.Sink.space out))
          (sym text) report);
    })
