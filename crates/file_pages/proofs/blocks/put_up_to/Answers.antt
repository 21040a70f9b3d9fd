use Rattle.file_pages.proofs.Steps.{wrote_as, wrote_then}
use Rattle.file_pages.proofs.blocks.put_up_to.Goals as goal

pub returns-clause-wrote : goal.returns-clause-wrote
returns-clause-wrote g c =
    wrote_then (wrote_as c.split.ensures.first c.put.ensures) c.put_times.ensures
