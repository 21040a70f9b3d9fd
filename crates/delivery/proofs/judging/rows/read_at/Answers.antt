use Rattle.std.proofs.Common.{rules}
use Rattle.ili_grammar.specs.Values.{codes_of}
use Rattle.itf_reader.specs.Views.{row_of}
use Rattle.delivery.specs.KeptRows.{Found, with_found}
use Rattle.delivery.specs.KeptViews.{AreReadAs, found_of}
use Rattle.delivery.proofs.KeptSteps.{changed_set, changed_beyond, some_at, some_beyond, on_ok}
use Rattle.delivery.proofs.judging.rows.read_at.Goals as goal

pub returns-then-tables-place-clause-found : goal.returns-then-tables-place-clause-found
returns-then-tables-place-clause-found c =
    changed_beyond found_of (with_found (codes_of c.args.codes.now) (row_of c.args.row.now))
    c.args.tables.now c.args.place (search rules)

pub returns-then-tables-place-clause-read : goal.returns-then-tables-place-clause-read
returns-then-tables-place-clause-read c =
    some_beyond found_of (λ (f : Found). AreReadAs (codes_of c.args.codes.now) f.table
    (row_of c.args.row.now) c.args.values.now) c.args.tables.now c.args.place (search rules)

pub returns-clause-found : goal.returns-clause-found
returns-clause-found c =
    on_ok c.add_row.result
    (λ k. changed_set found_of (with_found (codes_of c.args.codes.now) (row_of c.args.row.now))
    c.args.tables.now c.args.place c.index-tables-place.result c.add_row.new.self (search rules) k)
    c.add_row.ensures.found

pub returns-clause-read : goal.returns-clause-read
returns-clause-read c =
    on_ok c.add_row.result
    (λ k. some_at found_of (λ (f : Found). AreReadAs (codes_of c.args.codes.now) f.table
    (row_of c.args.row.now) c.add_row.new.values) c.args.tables.now c.args.place
    c.index-tables-place.result (search rules) k)
    c.add_row.ensures.read
