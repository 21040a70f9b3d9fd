use Rattle.std.proofs.Common.{◌≡◌, ◌++◌, List, ℕ, drop, ap, sym, ◌∙◌}
use Rattle.certificate.specs.Feeds.{Feed, gives}
use Rattle.certificate.proofs.Pieces.{cut_piece, begun_gives, rest_of}
use Rattle.certificate.proofs.feed.CertFeed.take.Goals as goal

pub returns-clause-gives : goal.returns-clause-gives
returns-clause-gives c = λ rest.
    let n = c.lines_len-length.result in
    let p = c.args.piece.now in
    let x = c.self.inside in
    let v : c.take_lines.new.self ≡ record {
      stage = x.stage;
      line = x.line;
      begun = x.begun.items;
    } = sym c.self.view_is in
    let items : c.extend_from_slice.new.self.items
    ≡ x.begun.items ++ drop n p = c.in_ok-extend_from_slice.ensures.items
    ∙ ap (λ (y : List ℕ). x.begun.items ++ y) (rest_of n p) in
    ap (gives c.args.self.now) (cut_piece n p rest)
    ∙ c.in_ok-take_lines.ensures.gives (drop n p ++ rest)
    ∙ ap (λ (f : Feed). gives f (drop n p ++ rest)) v
    ∙ rw items (begun_gives x.stage x.line x.begun.items (drop n p) rest)
