use Rattle.std.proofs.Common.{◌∙◌}
use Rattle.ident_refs.proofs.KeyPlaces.{found_none, found_late, found_early, own_key, got_line}
use Rattle.ident_refs.proofs.repeats.KeyColumn.first_before.Goals as goal

pub returns-in_err-first : goal.returns-in_err-first
returns-in_err-first c =
    c.from_residual-in_err-first.ensures
    ∙ found_none c.in_ok-key.key.now _ c.args.place c.args.self.now.lines.now
    c.args.self.now.keys.now
    (own_key c.args.self.now.keys.now c.args.place c.in_ok-get.field-0.now _ c.in_ok-key.key.now
    c.in_ok-get.ensures.lookup.3.0 c.in_ok-get.ensures.lookup.1 c.in_ok-key.ensures)
    c.in_err-first.ensures

pub returns-in_ok-get-2 : goal.returns-in_ok-get-2
returns-in_ok-get-2 c =
    got_line c.args.self.now.lines.now c.in_ok-first.first c.in_ok-get-2.field-0.now _
    c.in_ok-get-2.ensures.lookup.3.0 c.in_ok-get-2.ensures.lookup.1
    ∙ found_early c.in_ok-key.key.now _ c.args.place c.in_ok-first.first c.args.self.now.lines.now
    c.args.self.now.keys.now
    (own_key c.args.self.now.keys.now c.args.place c.in_ok-get.field-0.now _ c.in_ok-key.key.now
    c.in_ok-get.ensures.lookup.3.0 c.in_ok-get.ensures.lookup.1 c.in_ok-key.ensures)
    c.in_ok-first.ensures c.if-first-place.true c.requires

pub returns-else-first-place : goal.returns-else-first-place
returns-else-first-place c =
    found_late c.in_ok-key.key.now _ c.args.place c.in_ok-first.first c.args.self.now.lines.now
    c.args.self.now.keys.now
    (own_key c.args.self.now.keys.now c.args.place c.in_ok-get.field-0.now _ c.in_ok-key.key.now
    c.in_ok-get.ensures.lookup.3.0 c.in_ok-get.ensures.lookup.1 c.in_ok-key.ensures)
    c.in_ok-first.ensures c.if-first-place.false
