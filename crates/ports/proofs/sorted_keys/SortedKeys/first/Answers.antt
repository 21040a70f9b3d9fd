use Rattle.std.proofs.Common.{rules, map, sym, ◌∙◌}
use Rattle.std.proofs.lemmas.Fn.{always_returns_same}
use Rattle.std.proofs.Props.{props}
use mathlib.Core.Logic.{∥∥₁_elim}
use Rattle.ports.specs.SortedKeys.{is_below}
use Rattle.ports.proofs.FirstPlaces.{point, found_there, other_there, none_there}
use Rattle.ports.proofs.sorted_keys.SortedKeys.first.Goals as goal

pub returns-in_err-place : goal.returns-in_err-place
returns-in_err-place g c = ∥∥₁_elim c.requires (hlevel props) (λ r.
    let keys = map g.K.Keyed.key c.args.keys.now in
    let s = c.args.self.now in
    let compares = always_returns_same _ _ _ (λ a r f' k. (search rules, search rules)) in
    let part = point keys s.ranked.items c.deref.result.now s.skip c.rank-rank.result c.args.key.now
    c.partition_point-at.result r.ascending c.deref.ensures.value c.rank-rank.ensures
    (c.partition_point-at.ensures.partitioned
    (is_below keys c.rank-rank.result c.args.key.now) compares) in
    c.from_residual.ensures
    ∙ none_there keys s.ranked.items c.deref-2.result.now s.skip c.args.key.now
    c.partition_point-at.result r.ascending r.listed c.deref-2.ensures.value part
    c.in_err-place.ensures.lookup.3)

pub returns-then-eq : goal.returns-then-eq
returns-then-eq g c = ∥∥₁_elim c.requires (hlevel props) (λ r.
    let keys = map g.K.Keyed.key c.args.keys.now in
    let s = c.args.self.now in
    let compares = always_returns_same _ _ _ (λ a r f' k. (search rules, search rules)) in
    let part = point keys s.ranked.items c.deref.result.now s.skip c.rank-rank.result c.args.key.now
    c.partition_point-at.result r.ascending c.deref.ensures.value c.rank-rank.ensures
    (c.partition_point-at.ensures.partitioned
    (is_below keys c.rank-rank.result c.args.key.now) compares) in
    found_there keys s.ranked.items c.deref-2.result.now s.skip c.args.key.now c.key_at.result.now
    c.partition_point-at.result c.in_ok-place.field-0.now r.ascending r.listed
    c.deref-2.ensures.value part
    c.in_ok-place.ensures.lookup.3.0 c.in_ok-place.ensures.lookup.1 c.key_at.ensures
    (sym c.if-eq.ensures))

pub returns-else-eq : goal.returns-else-eq
returns-else-eq g c = ∥∥₁_elim c.requires (hlevel props) (λ r.
    let keys = map g.K.Keyed.key c.args.keys.now in
    let s = c.args.self.now in
    let compares = always_returns_same _ _ _ (λ a r f' k. (search rules, search rules)) in
    let part = point keys s.ranked.items c.deref.result.now s.skip c.rank-rank.result c.args.key.now
    c.partition_point-at.result r.ascending c.deref.ensures.value c.rank-rank.ensures
    (c.partition_point-at.ensures.partitioned
    (is_below keys c.rank-rank.result c.args.key.now) compares) in
    other_there keys s.ranked.items c.deref-2.result.now s.skip c.args.key.now c.key_at.result.now
    c.partition_point-at.result c.in_ok-place.field-0.now r.ascending r.listed
    c.deref-2.ensures.value part
    c.in_ok-place.ensures.lookup.3.0 c.in_ok-place.ensures.lookup.1 c.key_at.ensures
    (sym c.if-eq.ensures))
