-- Files that are read and written without a fault.
use Rattle.std.proofs.Common.{◌≡◌, ℕ, ◌-◌, ◌^◌, ◌<◌, List, [], ◌∷◌, Option, Some, None, Bool, true}
use Rattle.std.proofs.Common.{cond, length, sym, subst, ap, arith}
use Rattle.std.specs.Prelude.{IsSome}
use Rattle.std.specs.FinMap as map
use Rattle.ports.proofs.Steps.{same_space as room_kept}
use Rattle.ports.specs.Calls.{are_over, once_over}
use Rattle.ports.specs.Faults.{Rose}
use Rattle.ports.specs.MemoryFiles.{files, room, calls, listed, space, IsReadable as MemoryReadable}
use Rattle.ports.specs.MemoryOutput.{Output, sure_room}
use Rattle.ports.specs.declared.memory_shelf.MemoryShelf.{MemoryShelf}
use Rattle.ports.specs.Rooms.{HasRoom, FellBy}
use Rattle.commands.specs.Commands.{Source, from_file, made, model_of, task_of, further_files}
use Rattle.reports.specs.Outcomes.{Filing, Outcome, report_of}
use Rattle.delivery.specs.Served.{IsReadable, AreReadable, AreReadableFor, HasFilingSpace, IsServed}
use Rattle.delivery.specs.Served.{IsServedFor}

-- a count that stays where it was, below its end, did not rise
pub not_rose : (old now : ℕ) → old < 2 ^ 64 - 1 → now ≡ old → Rose old now → ⊥
not_rose old now l e h = omega (arith, l, e, h)

-- what could be read still can be
module _ (readable now : List ℕ → Type 0) (kept : (name : List ℕ) → readable name → now name) where
  one_readable : (s : Source) → IsReadable readable s → IsReadable now s
  one_readable (from_file f name) h = kept name h
  one_readable (made text) h = tt

  pub all_readable : (ss : List Source) → AreReadable readable ss → AreReadable now ss
  all_readable [] h = tt
  all_readable (s ∷ ss) h = (one_readable s h.0, all_readable ss h.1)

-- there is no less space than before
pub same_space : (space now : List ℕ → Option ℕ)
    → ((name : List ℕ) → FellBy 0 (space name) (now name)) → (f : Option Filing)
    → HasFilingSpace space f → HasFilingSpace now f
same_space space now e None h = tt
same_space space now e (Some f) h =
    room_kept (length f.text) (space f.name) (now f.name) (e f.name) h

-- ---- files and an output in memory
sure_space : (calls : ℕ) (numbers : List ℕ) (room : Option ℕ) → are_over calls numbers ≡ true
    → once_over calls numbers room ≡ room
sure_space calls numbers room e = ap (λ (b : Bool). cond b room None) e

-- the file is held
abbrev Holds : MemoryShelf → List ℕ → Type 0
Holds shelf name = IsSome (map.get (files shelf) name)

module _ (shelf : MemoryShelf) (out : Output) (words : List (List ℕ)) where
  -- what is held can be read
  held_readable : are_over (calls shelf) (listed shelf) ≡ true → AreReadableFor words (Holds shelf)
      → AreReadableFor words (MemoryReadable shelf)
  held_readable over h c i =
      let there : (name : List ℕ) → Holds shelf name
      → MemoryReadable shelf name = λ name k. record { over = over; there = k } in (
        one_readable (Holds shelf) (MemoryReadable shelf) there (model_of c) (h c i).0,
        all_readable (Holds shelf) (MemoryReadable shelf) there (further_files (task_of c))
            (h c i).1,
      )

  space_there : are_over (calls shelf) (listed shelf) ≡ true → (f : Option Filing)
      → HasFilingSpace (room shelf) f → HasFilingSpace (space shelf) f
  space_there over None h = tt
  space_there over (Some f) h =
      subst (HasRoom (length f.text))
      (sym (sure_space (calls shelf) (listed shelf) (room shelf f.name) over)) h

  room_there : are_over out.calls out.listed ≡ true → (n : ℕ) → HasRoom n (Some out.room)
      → HasRoom n (sure_room out)
  room_there over n h =
      subst (HasRoom n) (sym (sure_space out.calls out.listed (Some out.room) over)) h

pub in_memory_for : (shelf : MemoryShelf) (out : Output) (words : List (List ℕ)) (o : Outcome)
    → are_over (calls shelf) (listed shelf) ≡ true → are_over out.calls out.listed ≡ true
    → IsServedFor words (Holds shelf) (room shelf) (Some out.room) o
    → IsServedFor words (MemoryReadable shelf) (space shelf) (sure_room out) o
in_memory_for shelf out words o over put h = record {
  files = held_readable shelf out words over h.files;
  filing = space_there shelf out words over o.filing h.filing;
  report = room_there shelf out words put (length (report_of o)) h.report;
}

pub in_memory : (shelf : MemoryShelf) (out : Output) (words : List (List ℕ))
    → are_over (calls shelf) (listed shelf) ≡ true → are_over out.calls out.listed ≡ true
    → IsServed (Some (files shelf)) words (Holds shelf) (room shelf) (Some out.room)
    → IsServed (Some (files shelf)) words (MemoryReadable shelf) (space shelf) (sure_room out)
in_memory shelf out words over put h = record {
  files = held_readable shelf out words over h.files;
  filing = λ o d. space_there shelf out words over o.filing (h.filing o d);
  report = λ o d. room_there shelf out words put (length (report_of o)) (h.report o d);
}
