use Rattle.std.proofs.Common.{rules, ◌≡◌, ◌∙◌, slice_index, slice_set, get_or-set_same}
use Rattle.std.proofs.Common.{get_or-set_other}
use Rattle.std.proofs.lemmas.Grind.{get_or_default_zero}
use Rattle.std.proofs.lemmas.List.{length-set}
use Rattle.area_search.proofs.SettledLemmas.FaceNumberLists.{kept_numbers, next_numbers}
use Rattle.area_search.proofs.settled.face_numbers.add_face.Goals as goal
use Rattle.area_search.proofs.settled.face_numbers.add_face.Goals.{else-face-ne0-via-then-face-ne0+else-index-eq0}
use Rattle.area_search.proofs.settled.face_numbers.add_face.Goals.{else-face-ne0-via-else-face-ne0}

pub returns-then-index-eq0-clause-numbers : goal.returns-then-index-eq0-clause-numbers
returns-then-index-eq0-clause-numbers c = λ met are.
    let names = c.args.numbers.now.of_face.items in
    let count = c.args.numbers.now.count in
    let face = c.args.face in
    let z : slice_index names face ≡ 0 = search rules in
    next_numbers met names count face are z c.if-face-ne0.true (slice_set names face count)
    (length-set names face count) (get_or-set_same names face count 0 c.requires.known)
    (λ g n. get_or-set_other names face g count 0 n)

pub returns-else-face-ne0-clause-numbers : goal.returns-else-face-ne0-clause-numbers
returns-else-face-ne0-clause-numbers c = λ met are.
    let names = c.args.numbers.now.of_face.items in
    let face = c.args.face in
    kept_numbers met names c.args.numbers.now.count face are
    (elim c.else-face-ne0.branch [
      | else-face-ne0-via-then-face-ne0+else-index-eq0 w ↦ λ z. absurd
          (w.if-index-eq0.false (w.index.ensures
          ∙ get_or_default_zero names face w.index.result.now c.requires.known ∙ z))
      | else-face-ne0-via-else-face-ne0 w ↦ λ z. w.if-face-ne0.false
    ])
