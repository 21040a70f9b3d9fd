-- A file of certificates that was taken piece by piece.
use Rattle.std.proofs.Common.{◌≡◌, ℕ, List, [], ◌++◌, sym, ap, ◌∙◌, append-nil}
use Rattle.certificate.specs.Feeds.{gives}
use Rattle.certificate.specs.Reading.{list_of}
use Rattle.delivery.specs.FiledLists.{HasTaken}
use Rattle.delivery.specs.declared.filed.FileFeed.{FileFeed}

-- what is given at its end is the list of the whole text
pub whole_list : (start last : FileFeed) (text : List ℕ)
    → ((bytes : List ℕ) → gives start.feed bytes ≡ list_of bytes) → HasTaken start text last
    → list_of text ≡ gives last.feed []
whole_list start last text h k =
    ap list_of (sym (append-nil text)) ∙ sym (h (text ++ [])) ∙ k []
