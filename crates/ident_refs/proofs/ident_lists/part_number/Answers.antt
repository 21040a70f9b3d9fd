use Rattle.ident_refs.proofs.PartNumbers.{stay_more}
use Rattle.ident_refs.proofs.ident_lists.part_number.Goals as goal

pub returns-clause-grown : goal.returns-clause-grown
returns-clause-grown c =
    stay_more c.args.parts.now.items c.push.new.self.items _ c.in_ok-push.ensures.items
