use Rattle.std.proofs.Common.{◌≡◌, [], ap, sym, ◌∙◌, subst, List, ℕ}
use Rattle.certificate.specs.Spelling.{views}
use Rattle.certificate.specs.Reading.{Gives}
use Rattle.certificate.specs.Feeding.{stage_on}
use Rattle.certificate.specs.Feeds.{Feed, gives}
use Rattle.certificate.proofs.Pieces.{ended_gives}
use Rattle.certificate.proofs.TextLaws.{is_found, list_is}
use Rattle.certificate.proofs.FirstBadLine.{is_first_bad}
use Rattle.certificate.proofs.feed.CertFeed.finish.Goals as goal

pub returns-clause-exact : goal.returns-clause-exact
returns-clause-exact c =
    let x = c.self.inside in
    let v : c.args.self ≡ record {
      stage = x.stage;
      line = x.line;
      begun = x.begun.items;
    } = sym c.self.view_is in
    let e : stage_on x.stage (record { rest = c.deref.result.now; line = x.line })
    ≡ gives c.args.self [] =
    ap (λ (bytes : List ℕ). stage_on x.stage (record { rest = bytes; line = x.line }))
    c.deref.ensures.value
    ∙ ended_gives x.stage x.line x.begun.items ∙ sym (ap (λ (f : Feed). gives f []) v) in
    subst (λ r. Gives (λ list. views list.items) c.read_end.result r) e c.read_end.ensures.value

pub returns-clause-found : goal.returns-clause-found
returns-clause-found c = λ bytes e.
    is_found (λ list. views list.items) bytes c.read_end.result
    (subst (λ r. Gives (λ list. views list.items) c.read_end.result r) (sym e)
    (returns-clause-exact c))

pub returns-clause-first_bad : goal.returns-clause-first_bad
returns-clause-first_bad c = λ bytes e.
    is_first_bad (λ list. views list.items) bytes c.read_end.result
    (subst (λ r. Gives (λ list. views list.items) c.read_end.result r) (sym e)
    (returns-clause-exact c))

pub returns-clause-only : goal.returns-clause-only
returns-clause-only c = λ bytes e list fits spells.
    subst (λ r. Gives (λ list. views list.items) c.read_end.result r) (sym e
    ∙ list_is bytes list fits spells) (returns-clause-exact c)
