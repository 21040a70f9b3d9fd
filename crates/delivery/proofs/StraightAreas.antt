-- Where all lines of areas are straights, no call leaves anything undecided.
use Rattle.std.proofs.Common.{◌≡◌, ℕ, List, [], ◌∷◌, Option, Some, subst}
use Rattle.std.specs.Prelude.{◌≢◌}
use Rattle.ports.specs.Files.{Files}
use Rattle.itf_reader.proofs.Readings.{one_transfer}
use Rattle.itf_reader.specs.Layouts.{form_of}
use Rattle.table_layout.specs.Layouts.{Layout}
use Rattle.delivery.specs.Causes.{HasStraightAreas, LeavesUndecided}
use Rattle.delivery.specs.Answers.{HasCause, HoldsOfTexts}
use Rattle.delivery.specs.AreaAnswers.{HaveStraightLines}
use Rattle.commands.specs.Commands.{Task, judges, tests_points}
use Rattle.delivery.specs.Judging.{lines_of}
use Rattle.reports.specs.declared.status.Status.{Status}
use Rattle.reports.specs.declared.status.Status.TheVariants.{Undecided}
use Rattle.delivery.proofs.Agreement.{both_pass}
use Rattle.delivery.proofs.AreaLemmas.{straights_decided}

none_in : (t : Task) (l : Layout) (ts : List (List ℕ)) → HasStraightAreas t l ts
    → LeavesUndecided t l ts → ⊥
none_in (judges s target) l (text ∷ []) k h =
    straights_decided l h.0
    (subst (HaveStraightLines l)
    (one_transfer (form_of l) (lines_of l text).lines k.0 h.0 k.1.1 h.1.1) k.2) h.4.0
none_in (tests_points s r) l (text ∷ links ∷ []) k h =
    straights_decided l h.0
    (subst (HaveStraightLines l)
    (one_transfer (form_of l) (lines_of l text).lines k.0 h.0 k.1.1 h.1.1) k.2) h.4.1.0
none_in t l ts k h = h

pub none_left : (files : Files) (far near : List ℕ → Type 0) (words : List (List ℕ))
    → HoldsOfTexts (Some files) far words HasStraightAreas
    → HoldsOfTexts (Some files) near words LeavesUndecided → ⊥
none_left files far near words p q =
    let b = both_pass HasStraightAreas files far near words p LeavesUndecided q in
    none_in b.0 b.1 b.2 b.3 b.4

-- an answer that has its cause is not that something is undecided
pub decided : (held : Option Files) (counted : List ℕ → Type 0) (words : List (List ℕ)) (s : Status)
    → HasCause held counted words s
    → ((files : Files) → HoldsOfTexts (Some files) counted words HasStraightAreas
    → HasCause (Some files) counted words Undecided → ⊥)
    → (files : Files) → held ≡ Some files → HoldsOfTexts (Some files) counted words HasStraightAreas
    → s ≢ Undecided
decided held counted words s m law files t p e =
    law files p (subst (λ (x : Option Files). HasCause x counted words Undecided) t
    (subst (HasCause held counted words) e m))
