-- One topic further in a model.
use Rattle.std.proofs.Common.{◌≡◌, ◌<◌, ◌≤◌, ◌+◌, ℕ, List, ◌∷◌, ◌++◌, length, get_or, drop, ◌∙◌}
use Rattle.std.proofs.Common.{sym, ap, arith, length-append}
use Rattle.std.proofs.lemmas.List.{length-map, at_drop_more}
use Rattle.resolver.specs.declared.models.Topic as topic
use Rattle.resolver.specs.Values.{tables_of, topics_of}
use Rattle.table_layout.specs.declared.layouts.Table as table
use Rattle.table_layout.specs.Layouts.{Table}
use Rattle.table_layout.specs.Few.{numbers_in}
use Rattle.table_layout.specs.Tables.{tables_in, topic_tables, tables_from}
use Rattle.table_layout.specs.Values.{table_view, tables_view}
use Rattle.table_layout.proofs.Counts.{length-topic}
use Rattle.table_layout.proofs.Steps.{grows}

numbers_in_step : (ts : List topic.Topic) (i : ℕ) (x : topic.Topic) → i < length ts
    → x ≡ get_or ts i x
    → numbers_in (topics_of (drop i ts))
    ≡ 1 + tables_in (tables_of x.tables.items) + numbers_in (topics_of (drop (i + 1) ts))
numbers_in_step ts i x l e =
    at_drop_more (λ (s : List topic.Topic). numbers_in (topics_of s)) ts i x l
    ∙ ap (λ (y : topic.Topic). numbers_in (topics_of (y ∷ drop (i + 1) ts))) (sym e)

tables_from_step : (n first : ℕ) (ts : List topic.Topic) (i : ℕ) (x : topic.Topic) → i < length ts
    → x ≡ get_or ts i x
    → tables_from n first (topics_of (drop i ts))
    ≡ topic_tables n first (tables_of x.tables.items)
    ++ tables_from (n + 1) (first + length (topic_tables n first (tables_of x.tables.items)))
    (topics_of (drop (i + 1) ts))
tables_from_step n first ts i x l e =
    at_drop_more (λ (s : List topic.Topic). tables_from n first (topics_of s)) ts i x l
    ∙ ap (λ (y : topic.Topic). tables_from n first (topics_of (y ∷ drop (i + 1) ts))) (sym e)

length_grown : (old new : List table.Table) (more : List Table)
    → tables_view new ≡ tables_view old ++ more → length new ≡ length old + length more
length_grown old new more e =
    omega (
      arith,
      length-map new table_view,
      length-map old table_view,
      ap (length {A = Table}) e,
      length-append (tables_view old) more,
    )

pub topics_step : (ts : List topic.Topic) (i : ℕ) (x : topic.Topic) (old new : List table.Table)
    (whole : List Table)
    → i < length ts → x ≡ get_or ts i x
    → tables_view new ≡ tables_view old ++ topic_tables i (length old) (tables_of x.tables.items)
    → i + length old + numbers_in (topics_of (drop i ts)) ≤ 4194304
    → tables_view old ++ tables_from i (length old) (topics_of (drop i ts)) ≡ whole
    → (i + 1 + length new + numbers_in (topics_of (drop (i + 1) ts)) ≤ 4194304)
    × (tables_view new ++ tables_from (i + 1) (length new) (topics_of (drop (i + 1) ts))
    ≡ whole)
topics_step ts i x old new whole l e add few h =
    let one : List Table = topic_tables i (length old) (tables_of x.tables.items) in
    let long = length_grown old new one add in
    let count = length-topic i (length old) (tables_of x.tables.items) in (
      omega (arith, numbers_in_step ts i x l e),
      ap (λ k. tables_view new ++ tables_from (i + 1) k (topics_of (drop (i + 1) ts))) long
          ∙ grows (tables_view old) one
          (tables_from (i + 1) (length old + length one) (topics_of (drop (i + 1) ts)))
          (tables_from i (length old) (topics_of (drop i ts))) (tables_view new) whole
          (tables_from_step i (length old) ts i x l e) h add,
    )
