-- Answers to areas in the code, without where their certificates lie in memory.
use Rattle.std.specs.Prelude.{ℕ, List, [], ◌∷◌, Option, Some, None}
use Rattle.certificate.specs.Spelling.{Plain, view}
use Rattle.certificate.specs.declared.notes.Certificate.{Certificate}

abbrev pub certificates_in : Option Certificate → List Plain
certificates_in None = []
certificates_in (Some c) = view c ∷ []

-- a certificate under these names
abbrev pub named : List ℕ → List ℕ → List ℕ → Plain → Plain
named topic table attribute c = record c { topic = topic; table = table; attribute = attribute }
