use Rattle.std.proofs.Common.{◌++◌, ◌∙◌, List, ℕ, ap}
use Rattle.file_pages.specs.Held.{joined}
use Rattle.file_pages.proofs.Steps.{appends_text, wrote_as, wrote_then}
use Rattle.file_pages.proofs.held.HeldText.put.Goals as goal

pub returns : goal.returns
returns g c =
    appends_text c.finish.result c.new-page.ensures.failed c.new-page.ensures.waits
    (wrote_as (ap (λ (bs : List (List ℕ)). joined bs ++ c.self.inside.last) c.deref.ensures.value
    ∙ c.self.view_is) (wrote_then c.put_blocks.ensures c.put_block.ensures))
    c.finish.ensures
