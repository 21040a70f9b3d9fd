-- Pieces that follow each other make the front of a file.
use Rattle.std.proofs.Common.{◌≡◌, ℕ, ◌+◌, ◌<◌, ◌≤◌, List, [], ◌++◌, length, take, drop, Option}
use Rattle.std.proofs.Common.{Some, None, Ok, arith, refl, ap, ◌∙◌, subst}
use Rattle.std.proofs.lemmas.Grind.{common_steps}
use Rattle.std.proofs.lemmas.List.{length-append, length-take, length-take-le}
use Rattle.std.proofs.Math.Seq.{take-add}
use Rattle.std.specs.FinMap as map
use Rattle.ports.specs.Files.{Files, Reads, ReadsKnown}
use Rattle.commands.specs.Reading.{IsWhole, IsLonger, IsFront, IsFrontOf, IsEnd}

more_of : (file bytes got : List ℕ) (n : ℕ) → bytes ≡ take (length bytes) file
    → take n got ≡ take n (drop (length bytes) file) → n ≤ length (drop (length bytes) file)
    → bytes ++ take n got ≡ take (length (bytes ++ take n got)) file
more_of file bytes got n e f h =
    let l : length (bytes ++ take n got) ≡ length bytes + n = length-append bytes (take n got)
    ∙ ap (λ (i : ℕ). length bytes + i) (ap length f
    ∙ length-take-le n (drop (length bytes) file) h) in
    rw l (rw (take-add (length bytes) n file)
    (cc (
      ap (λ (s : List ℕ). s ++ take n got) e,
      ap (λ (s : List ℕ). take (length bytes) file ++ s) f,
    )))

more_one : (E : Type 0) (file : Option (List ℕ)) (bytes got : List ℕ) (n : ℕ) → IsFrontOf file bytes
    → Reads {E = E} file (length bytes) (Ok n) got → IsFrontOf file (bytes ++ take n got)
more_one E None bytes got n h k = absurd k
more_one E (Some file) bytes got n h k = more_of file bytes got n h k.bytes k.fits

more_at : (E : Type 0) (held : Option Files) (name bytes got : List ℕ) (n : ℕ)
    → IsFront held name bytes → ReadsKnown {E = E} held name (length bytes) (Ok n) got
    → IsFront held name (bytes ++ take n got)
more_at E None name bytes got n h k = tt
more_at E (Some files) name bytes got n h k = more_one E (map.get files name) bytes got n h k

pub more : (E : Type 0) (held : Option Files) (name bytes got : List ℕ) (n from : ℕ)
    → from ≡ length bytes → IsFront held name bytes → ReadsKnown {E = E} held name from (Ok n) got
    → IsFront held name (bytes ++ take n got)
more E held name bytes got n from e h k =
    more_at E held name bytes got n h
    (subst (λ (i : ℕ). ReadsKnown {E = E} held name i (Ok n) got) e k)

whole_one : (E : Type 0) (file : Option (List ℕ)) (bytes got : List ℕ) → IsFrontOf file bytes
    → Reads {E = E} file (length bytes) (Ok 0) got → file ≡ Some bytes
whole_one E None bytes got h k = absurd k
whole_one E (Some file) bytes got h k =
    let e : length file ≤ length bytes = k.ended refl in
    ap (λ (s : List ℕ). Some s) (grind (arith, common_steps))

pub ended : (E : Type 0) (held : Option Files) (name bytes got : List ℕ) → IsFront held name bytes
    → ReadsKnown {E = E} held name (length bytes) (Ok 0) got → IsEnd held name bytes
ended E None name bytes got h k = tt
ended E (Some files) name bytes got h k = whole_one E (map.get files name) bytes got h k

pub whole : (held : Option Files) (name bytes : List ℕ) (limit : ℕ) → length bytes ≤ limit
    → IsEnd held name bytes → IsWhole held name limit bytes
whole None name bytes limit l h = l
whole (Some files) name bytes limit l h = (h, l)

pub start : (held : Option Files) (name : List ℕ) → IsFront held name []
start None name = tt
start (Some files) name = refl

longer_one : (file : Option (List ℕ)) (bytes : List ℕ) (limit : ℕ) → limit < length bytes
    → IsFrontOf file bytes → (all : List ℕ) × (file ≡ Some all) × (limit < length all)
longer_one None bytes limit l h = absurd (no_more bytes limit l h)
  where
    no_more : (bytes : List ℕ) (limit : ℕ) → limit < length bytes → bytes ≡ take (length bytes) []
        → ⊥
    no_more bytes limit l h = grind (arith, common_steps)
longer_one (Some file) bytes limit l h =
    (file, refl, omega (arith, ap length h, length-take (length bytes) file))

pub longer : (held : Option Files) (name bytes : List ℕ) (limit : ℕ) → limit < length bytes
    → IsFront held name bytes → IsLonger held name limit
longer None name bytes limit l h = tt
longer (Some files) name bytes limit l h = longer_one (map.get files name) bytes limit l h

pub front_length : (front got : List ℕ) (n from : ℕ) → length front ≡ from → n ≤ length got
    → length (front ++ take n got) ≡ from + n
front_length front got n from e le =
    let a = length-append front (take n got) in
    let b = length-take-le n got le in
    omega (arith, a, b, e)
