-- Calls that read files and write none.
use Rattle.std.specs.Prelude.{◌≡◌, ℕ, ◌≤◌, List, Option}
use Rattle.ports.specs.Faults.{NoReadFell, CountsStay}
use Rattle.ports.specs.Files.{Files}
use Rattle.ports.specs.Rooms.{StaysReady}

-- What a shelf tells before a call and after it, where the call only reads. `surely`: the files
-- that it reads can be read.
pub record OnlyReads (surely : Type 0) (held_old : Option Files) (reads_old : List ℕ → ℕ)
    (writes_old : ℕ) (readable_old : List ℕ → Type 0) (space_old : List ℕ → Option ℕ)
    (held_new : Option Files) (reads_new : List ℕ → ℕ) (writes_new : ℕ)
    (readable_new : List ℕ → Type 0) (space_new : List ℕ → Option ℕ) : Type 0 where
  -- every file is as before
  pub held : held_new ≡ held_old
  -- no count of faults fell
  pub reads : NoReadFell reads_old reads_new
  pub writes : writes_old ≤ writes_new
  -- what could be read still can be, and there is no less space
  pub ready : StaysReady readable_old space_old readable_new space_new
  -- and no count moved where the files can be read
  pub stay : surely → CountsStay reads_old writes_old reads_new writes_new
