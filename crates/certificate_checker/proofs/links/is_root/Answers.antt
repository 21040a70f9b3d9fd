use Rattle.std.proofs.Common.{rules, IsTrue, false, ◌≡◌, inl, inr}
use Rattle.certificate_checker.proofs.Linking.{last_mark}
use Rattle.certificate_checker.proofs.ListParts.{granted, refused, unfit}
use Rattle.certificate_checker.proofs.links.is_root.Goals as goal

pub returns-then-not-has_rank_zero : goal.returns-then-not-has_rank_zero
returns-then-not-has_rank_zero c =
    let h : c.has_rank_zero.result ≡ false = search rules in
    refused (λ r. unfit c.has_rank_zero.result c.has_rank_zero.ensures h r.rank)

pub returns-then-faces_tube : goal.returns-then-faces_tube
returns-then-faces_tube c =
    let z : IsTrue c.has_rank_zero.result = search rules in
    let h : IsTrue c.faces_tube.result = search rules in
    granted (record { rank = c.has_rank_zero.ensures.0 z; marks = inl (c.faces_tube.ensures.0 h) })

pub returns-then-is_marked : goal.returns-then-is_marked
returns-then-is_marked c =
    let z : IsTrue c.has_rank_zero.result = search rules in
    let h : IsTrue c.is_marked.result = search rules in
    granted (record {
      rank = c.has_rank_zero.ensures.0 z;
      marks = inr (inl (c.is_marked.ensures.0 h));
    })

pub returns-then-is_at_own_tube : goal.returns-then-is_at_own_tube
returns-then-is_at_own_tube c =
    let z : IsTrue c.has_rank_zero.result = search rules in
    let h : IsTrue c.is_at_own_tube.result = search rules in
    granted (record {
      rank = c.has_rank_zero.ensures.0 z;
      marks = inr (inr (inl (c.is_at_own_tube.ensures.0 h)));
    })

pub returns-then-not-has_outer_label : goal.returns-then-not-has_outer_label
returns-then-not-has_outer_label c =
    let f : c.faces_tube.result ≡ false = search rules in
    let m : c.is_marked.result ≡ false = search rules in
    let a : c.is_at_own_tube.result ≡ false = search rules in
    let o : c.has_outer_label.result ≡ false = search rules in
    refused (λ r. last_mark (unfit c.faces_tube.result c.faces_tube.ensures f)
    (unfit c.is_marked.result c.is_marked.ensures m)
    (unfit c.is_at_own_tube.result c.is_at_own_tube.ensures a) r.marks
    (λ q. unfit c.has_outer_label.result c.has_outer_label.ensures o q.0))

pub returns : goal.returns
returns c =
    let z : IsTrue c.has_rank_zero.result = search rules in
    let f : c.faces_tube.result ≡ false = search rules in
    let m : c.is_marked.result ≡ false = search rules in
    let a : c.is_at_own_tube.result ≡ false = search rules in
    let o : IsTrue c.has_outer_label.result = search rules in (
      (λ t. record {
        rank = c.has_rank_zero.ensures.0 z;
        marks = inr (inr (inr (c.has_outer_label.ensures.0 o, c.is_marked-2.ensures.0 t)));
      }),
      (λ r. last_mark (unfit c.faces_tube.result c.faces_tube.ensures f)
          (unfit c.is_marked.result c.is_marked.ensures m)
          (unfit c.is_at_own_tube.result c.is_at_own_tube.ensures a) r.marks
          (λ q. c.is_marked-2.ensures.1 q.1)),
    )
