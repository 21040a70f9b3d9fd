use Rattle.std.proofs.Common.{rules}
use Rattle.std.proofs.lemmas.List.Sorted.{answers_always}
use Rattle.itf_reader.specs.Findings.{is_before, finding_of}
use Rattle.itf_reader.proofs.Sorting.{by_value, is_before_ranks, sort_in_order}
use Rattle.itf_reader.proofs.order.sort_findings.Goals as goal

pub returns : goal.returns
returns c =
    let compares = answers_always _ _ _ (λ f a r f' k. search rules) in
    sort_in_order c.args.findings.now.items c.sort_by.new.self.items
    (c.in_ok-sort_by.ensures.sorted (by_value is_before finding_of) is_before_ranks compares)
    (c.sort_by.ensures.stable (by_value is_before finding_of) is_before_ranks compares)
