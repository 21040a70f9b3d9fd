use Rattle.std.proofs.Common.{rules, map}
use Rattle.std.proofs.lemmas.Fn.{always_returns_same}
use Rattle.std.proofs.lemmas.Grind.{merely}
use Rattle.ports.specs.SortedKeys.{is_before}
use Rattle.ports.proofs.FirstPlaces.{is_before_ranks, IsListed-sorted}
use Rattle.ports.proofs.sorted_keys.SortedKeys.new.Goals as goal

pub returns : goal.returns
returns g c =
    let keys = map g.K.Keyed.key c.args.keys.now in
    let compares = always_returns_same _ _ _ (λ a r f' k. search rules) in
    merely (record {
      listed = IsListed-sorted keys c.shared_by_all-skip.result c.in_ok-ranked.ranked.items
          c.sort_unstable_by.new.self.items c.sort_unstable_by.ensures.permutation
          c.in_ok-ranked.ensures;
      ascending = c.sort_unstable_by.ensures.sorted (is_before keys)
          (is_before_ranks keys) compares;
    })
