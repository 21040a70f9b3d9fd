use Rattle.std.proofs.Common.{◌≡◌, ◌<◌, ◌++◌, length, ℕ, Vec, Global, refl, ap, sym, ◌∙◌}
use Rattle.certificate.specs.Feeds.{Feed, gives}
use Rattle.certificate.proofs.Pieces.{lines_give}
use Rattle.certificate.proofs.Resuming.{some_bytes, no_bytes}
use Rattle.certificate.proofs.feed.CertFeed.take_lines.Goals as goal

pub returns-then-is_empty-clause-gives : goal.returns-then-is_empty-clause-gives
returns-then-is_empty-clause-gives c =
    λ rest. rw (no_bytes c.args.bytes.now c.is_empty.result c.is_empty.ensures c.if-is_empty.true)
    refl

pub returns-clause-gives : goal.returns-clause-gives
returns-clause-gives c = λ rest.
    let x = c.self.inside in
    let v : c.args.self.now ≡ record {
      stage = x.stage;
      line = x.line;
      begun = x.begun.items;
    } = sym c.self.view_is in
    let s : c.replace-stage.result ≡ x.stage = cc in
    let w : c.deref.result.now ≡ x.begun.items ++ c.args.bytes.now = c.deref.ensures.value
    ∙ c.in_ok-extend_from_slice.ensures.items
    ∙ ap (λ (b : Vec ℕ Global). b.items ++ c.args.bytes.now) c.replace-begun.ensures.value in
    let some : 0 < length c.args.bytes.now = some_bytes c.args.bytes.now c.is_empty.result
    c.is_empty.ensures c.if-is_empty.false in
    ap (λ (f : Feed). gives f (c.args.bytes.now ++ rest)) v
    ∙ lines_give x.stage c.replace-stage.result c.in_ok-stage.stage x.line c.in_ok-stage.line
    x.begun.items c.args.bytes.now c.deref.result.now c.clear.new.self.items rest s w
    c.clear.ensures.items c.in_ok-stage.ensures.on some c.requires.ends
