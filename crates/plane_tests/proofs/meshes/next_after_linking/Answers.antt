use Rattle.std.proofs.Common.{◌≡◌, ℕ, ◌+◌, get_or, length, add-one, ap, ◌∙◌}
use Rattle.std.proofs.lemmas.List.{get_or_read}
use Rattle.half_edges.specs.HalfEdges.{twin_of}
use Rattle.half_edges.specs.Stars.{before}
use Rattle.plane_tests.proofs.meshes.next_after_linking.Goals as goal

behind : (n k j : ℕ) → k ≡ j + 1 → before n k ≡ j
behind n k j e = ap (before n) (e ∙ add-one j)

pub returns-clause-before : goal.returns-clause-before
returns-clause-before c = λ j e.
    let around = c.args.around.now in
    let item = get_or_read around c.args.k c.index-around-k.result c.requires.place
    c.index-around-k.is 0 in
    let back = c.twin-back.ensures ∙ ap twin_of item in
    let linked = c.link.ensures.links.next_is c.args.k c.requires.place in
    let place = behind (length around) c.args.k j e in
    c.next.ensures
    ∙ (ap (λ h. get_or c.link.new.self.next h 0) back
    ∙ (linked ∙ ap (λ n. get_or around n 0) place))
