use Rattle.std.proofs.Common.{ℕ, List, Option, refl, subst, sym, ◌∙◌}
use Rattle.commands.specs.CommandViews.{names_of}
use Rattle.delivery.specs.Drawn.{IsCleanDelivery, IsDelivered}
use Rattle.delivery.specs.declared.drawn.Delivered.{Delivered}
use Rattle.delivery.proofs.Steps.{rose_after, rose_before}
use Rattle.ports.specs.Faults.{ReadRose, Rose}
use Rattle.ports.specs.Files.{Files}
use Rattle.reports.specs.OutcomeViews.{outcome_of}
use Rattle.itffaults.specs.Faults.{LeavesRejection, TellsAll, names_by, told, usage}
use Rattle.itffaults.proofs.Calls.{leaves_on, tells_on}
use Rattle.itffaults.proofs.Ended.{ended}
use Rattle.itffaults.proofs.Rejections.{rejects}
use Rattle.itffaults.proofs.running.run.Goals as goal

pub returns-in_default-clause-cause : goal.returns-in_default-clause-cause
returns-in_default-clause-cause g c =
    λ n. usage c.in_default.ensures.none refl c.put_report.ensures.reports

pub returns-in-Ok-Clean-clause-cause : goal.returns-in-Ok-Clean-clause-cause
returns-in-Ok-Clean-clause-cause g c = λ n.
    let held = g.S.Shelf.held c.args.shelf.now in
    let counted : List ℕ
    → Type 0 = ReadRose (g.S.Shelf.read_faults c.args.shelf.now)
    (g.S.Shelf.read_faults c.deliver.new.shelf) in
    let m = c.in-Some.names.model.now in
    let t = c.in-Some.names.transfer.now in
    let same = c.in-Ok-Clean.ensures.reads.held in
    let d = subst (λ (x : Delivered). IsDelivered held counted m t x) c.in-Ok-Clean.field-0-is
    c.in-Ok-Clean.ensures.delivered in
    let failed = g.S.Shelf.write_faults in
    let near : Type 0 = Rose (failed c.deliver.new.shelf) (failed c.tell_clean.new.shelf) in
    let far : Type 0 = Rose (failed c.args.shelf.now) (failed c.tell_clean.new.shelf) in
    told (names_of c.in-Some.names) c.in-Some.ensures.some
    (tells_on near far (rose_after (failed c.args.shelf.now) (failed c.deliver.new.shelf)
    (failed c.tell_clean.new.shelf) c.in-Ok-Clean.ensures.reads.writes) held c.tell_clean.result
    (g.S.Shelf.held c.tell_clean.new.shelf) (g.K.Sink.written c.args.out.now)
    (g.K.Sink.written c.tell_clean.new.out) (names_by m t c.in-Some.names.third.now)
    (subst (λ (h : Option Files). TellsAll h near
    (names_by m t c.in-Some.names.third.now) c.tell_clean.result
    (g.S.Shelf.held c.tell_clean.new.shelf) (g.K.Sink.written c.args.out.now)
    (g.K.Sink.written c.tell_clean.new.out)) same
    (c.tell_clean.ensures.told n m t
    (subst (λ (h : Option Files). IsCleanDelivery h m t c.in-Ok-Clean.clean) (sym same) d))))

pub end_check-requires-clause-rejected : goal.end_check-requires-clause-rejected
end_check-requires-clause-rejected g c =
    let held = g.S.Shelf.held c.args.shelf.now in
    let counted : List ℕ
    → Type 0 = ReadRose (g.S.Shelf.read_faults c.args.shelf.now)
    (g.S.Shelf.read_faults c.deliver.new.shelf) in
    let m = c.in-Some.names.model.now in
    let t = c.in-Some.names.transfer.now in
    let d = subst (λ (x : Delivered). IsDelivered held counted m t x) c.in-Ok-Ended.field-0-is
    c.in-Ok-Ended.ensures.delivered in
    rejects held counted m t (outcome_of c.in-Ok-Ended.outcome) d.0

pub returns-in-Ok-Ended-clause-cause : goal.returns-in-Ok-Ended-clause-cause
returns-in-Ok-Ended-clause-cause g c = λ n.
    let held = g.S.Shelf.held c.args.shelf.now in
    let new = g.S.Shelf.held c.end_check.new.shelf in
    let before = g.K.Sink.written c.args.out.now in
    let after = g.K.Sink.written c.end_check.new.out in
    let fell = g.S.Shelf.read_faults in
    let near : List ℕ → Type 0 = ReadRose (fell c.args.shelf.now) (fell c.deliver.new.shelf) in
    let far : List ℕ → Type 0 = ReadRose (fell c.args.shelf.now) (fell c.end_check.new.shelf) in
    let m = c.in-Some.names.model.now in
    let t = c.in-Some.names.transfer.now in
    let same = c.in-Ok-Ended.ensures.reads.held in
    let d = subst (λ (x : Delivered). IsDelivered held near m t x) c.in-Ok-Ended.field-0-is
    c.in-Ok-Ended.ensures.delivered in
    let failed = g.S.Shelf.write_faults in
    let risen : Type 0 = Rose (failed c.deliver.new.shelf) (failed c.end_check.new.shelf) in
    let wrote : Type 0 = Rose (failed c.args.shelf.now) (failed c.end_check.new.shelf) in
    ended held near far wrote c.args.words.now (names_of c.in-Some.names)
    (outcome_of c.in-Ok-Ended.outcome) c.end_check.result new before after
    (λ name k. rose_before (fell c.args.shelf.now name) (fell c.deliver.new.shelf name)
    (fell c.end_check.new.shelf name) (c.end_check.ensures.reads name) k)
    c.in-Some.ensures.some d.0 d.1 d.2
    (λ r. c.end_check.ensures.same r ∙ same)
    (λ r. c.end_check.ensures.reports r n)
    (λ ls e. leaves_on risen wrote (rose_after (failed c.args.shelf.now)
    (failed c.deliver.new.shelf) (failed c.end_check.new.shelf)
    c.in-Ok-Ended.ensures.reads.writes) held
    c.end_check.result new before after ls c.in-Some.names.third.now
    (subst (λ (h : Option Files). LeavesRejection ls h c.in-Some.names.third.now risen
    c.end_check.result new before after) same (c.end_check.ensures.told n ls e)))
