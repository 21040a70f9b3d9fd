-- What the reading of a file gives.
use Rattle.std.specs.Prelude.{◌≡◌, ℕ, ◌<◌, ◌≤◌, List, length, take, Option, Some, None, ⊤}
use Rattle.std.specs.FinMap as map
use Rattle.ports.specs.Files.{Files, bytes_of}

-- these are the bytes of the file, where files are held
abbrev pub IsWhole : Option Files → List ℕ → ℕ → List ℕ → Type 0
IsWhole None name limit bytes = length bytes ≤ limit
IsWhole (Some files) name limit bytes = (map.get files name ≡ Some bytes) × (length bytes ≤ limit)

-- the file is longer than the limit, where files are held
abbrev pub IsLonger : Option Files → List ℕ → ℕ → Type 0
IsLonger None name limit = ⊤
IsLonger (Some files) name limit =
    (bytes : List ℕ) × (map.get files name ≡ Some bytes) × (limit < length bytes)

-- these bytes are the front of the file
abbrev pub IsFrontOf : Option (List ℕ) → List ℕ → Type 0
IsFrontOf file bytes = bytes ≡ take (length bytes) (bytes_of file)

abbrev pub IsFront : Option Files → List ℕ → List ℕ → Type 0
IsFront None name bytes = ⊤
IsFront (Some files) name bytes = IsFrontOf (map.get files name) bytes

-- these bytes are the whole file, where files are held
abbrev pub IsEnd : Option Files → List ℕ → List ℕ → Type 0
IsEnd None name bytes = ⊤
IsEnd (Some files) name bytes = map.get files name ≡ Some bytes
