use Rattle.std.proofs.Common.{rules}
use Rattle.std.specs.Option.{option_map, option_to_list}
use Rattle.resolver.specs.Values.{limits_of}
use Rattle.field_values.specs.Places.{place_view}
use Rattle.field_values.proofs.OnAxes.{fields_ok, rest_bad, named}
use Rattle.field_values.proofs.vertices.read_fields.Goals as goal

pub returns-in_err-height-clause-read : goal.returns-in_err-height-clause-read
returns-in_err-height-clause-read c =
    let l = c.args.form.now in
    let h = rest_bad (limits_of l.window.x) (limits_of l.window.y)
    (option_to_list (option_map limits_of l.height)) c.args.x.now c.args.y.now
    c.args.heights.now (place_view c.in_ok-at.at) c.in_err-height.field-0.0
    c.in_ok-at.ensures c.in_err-height.ensures in
    search rules

pub returns-clause-read : goal.returns-clause-read
returns-clause-read c =
    let l = c.args.form.now in
    fields_ok (limits_of l.window.x) (limits_of l.window.y)
    (option_to_list (option_map limits_of l.height)) c.args.x.now c.args.y.now
    c.args.heights.now (place_view c.in_ok-at.at)
    (option_to_list c.in_ok-height.height) c.in_ok-at.ensures c.in_ok-height.ensures

pub returns-clause-place : goal.returns-clause-place
returns-clause-place c =
    let l = c.args.form.now in
    named (limits_of l.window.x) (limits_of l.window.y) c.args.x.now c.args.y.now
    (place_view c.in_ok-at.at) c.in_ok-at.ensures
