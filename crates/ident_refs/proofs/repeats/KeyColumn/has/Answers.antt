use Rattle.std.proofs.Common.{◌∙◌, ap}
use Rattle.std.specs.Option.{is_some}
use Rattle.ports.specs.SortedKeys.{is_key}
use Rattle.ident_refs.proofs.KeyPlaces.{any_place}
use Rattle.ident_refs.proofs.repeats.KeyColumn.has.Goals as goal

pub returns : goal.returns
returns c = c.is_some.ensures ∙ ap is_some c.first.ensures
    ∙ any_place (is_key c.args.key.now) 0 c.args.self.now.keys.now
