-- Words that were read axis by axis.
use Rattle.std.proofs.Common.{◌≡◌, List, [], ◌∷◌, ℕ, ℤ, Option, Some, None, Ok, Err, refl}
use Rattle.resolver.specs.Resolved.{Limits}
use Rattle.field_values.specs.declared.value.ValueFault.{ValueFault}
use Rattle.field_values.specs.Fields.{first_fault, number_fault, numbers_fault, count_fault}
use Rattle.field_values.specs.Fields.{axes_fault}
use Rattle.field_values.specs.Places.{Place, place_at, place_fault}
use Rattle.field_values.specs.Readings.{Numbers, reading, axes_reading, units, numbers_on}

pub read_ok : {A : Type 0} (o : Option ValueFault) (a v : A) → Ok v ≡ reading o a
    → (o ≡ None) × (v ≡ a)
read_ok None a v h = (refl, cc)
read_ok (Some f) a v h = cc

pub read_err : {A : Type 0} (o : Option ValueFault) (a : A) (f : ValueFault) → Err f ≡ reading o a
    → o ≡ Some f
read_err None a f h = cc
read_err (Some g) a f h = cc

first_assoc : (a b c : Option ValueFault)
    → first_fault (first_fault a b) c ≡ first_fault a (first_fault b c)
first_assoc None b c = refl
first_assoc (Some f) b c = refl

numbers_three : (lx ly lz : Limits) (x y z : List ℕ)
    → numbers_fault (lx ∷ ly ∷ lz ∷ []) (x ∷ y ∷ z ∷ [])
    ≡ first_fault (place_fault lx ly x y) (number_fault lz z)
numbers_three lx ly lz x y z = by (number_fault lx x) (number_fault ly y) (number_fault lz z)
  where
    by : (a b c : Option ValueFault)
        → first_fault a (first_fault b (first_fault c None)) ≡ first_fault (first_fault a b) c
    by (Some f) b c = refl
    by None (Some f) c = refl
    by None None (Some f) = refl
    by None None None = refl

-- two fields and those after them
axes_two : (lx ly : Limits) (ls : List Limits) (x y : List ℕ) (ws : List (List ℕ))
    → axes_fault (lx ∷ ly ∷ ls) (x ∷ y ∷ ws)
    ≡ first_fault (place_fault lx ly x y) (axes_fault ls ws)
axes_two lx ly ls x y ws =
    by (number_fault lx x) (number_fault ly y) (numbers_fault ls ws) (count_fault ls ws)
  where
    by : (a b c d : Option ValueFault)
        → first_fault (first_fault a (first_fault b c)) d
        ≡ first_fault (first_fault a b) (first_fault c d)
    by (Some f) b c d = refl
    by None (Some f) c d = refl
    by None None (Some f) d = refl
    by None None None d = refl

pub fields_ok : (lx ly : Limits) (ls : List Limits) (x y : List ℕ) (ws : List (List ℕ)) (p : Place)
    (h : List ℤ)
    → Ok p ≡ reading (place_fault lx ly x y) (place_at lx ly x y)
    → Ok h ≡ reading (axes_fault ls ws) (numbers_on ls ws)
    → Ok (p.x ∷ p.y ∷ h) ≡ reading (axes_fault (lx ∷ ly ∷ ls) (x ∷ y ∷ ws))
    (numbers_on (lx ∷ ly ∷ ls) (x ∷ y ∷ ws))
fields_ok lx ly ls x y ws p h e f =
    let a = read_ok _ _ p e in
    let b = read_ok _ _ h f in
    rw (axes_two lx ly ls x y ws, a.0, b.0, a.1, b.1) refl

pub place_bad : (lx ly : Limits) (ls : List Limits) (x y : List ℕ) (ws : List (List ℕ))
    (fault : ValueFault)
    → Err fault ≡ reading (place_fault lx ly x y) (place_at lx ly x y)
    → Err fault ≡ reading (axes_fault (lx ∷ ly ∷ ls) (x ∷ y ∷ ws))
    (numbers_on (lx ∷ ly ∷ ls) (x ∷ y ∷ ws))
place_bad lx ly ls x y ws fault e = rw (axes_two lx ly ls x y ws, read_err _ _ fault e) refl

pub rest_bad : (lx ly : Limits) (ls : List Limits) (x y : List ℕ) (ws : List (List ℕ)) (p : Place)
    (fault : ValueFault)
    → Ok p ≡ reading (place_fault lx ly x y) (place_at lx ly x y)
    → Err fault ≡ reading (axes_fault ls ws) (numbers_on ls ws)
    → Err fault ≡ reading (axes_fault (lx ∷ ly ∷ ls) (x ∷ y ∷ ws))
    (numbers_on (lx ∷ ly ∷ ls) (x ∷ y ∷ ws))
rest_bad lx ly ls x y ws p fault e f =
    rw (axes_two lx ly ls x y ws, (read_ok _ _ p e).0, read_err _ _ fault f) refl

pub space_ok : (lx ly lz : Limits) (x y z : List ℕ) (p : Place) (h : ℤ)
    → Ok p ≡ reading (place_fault lx ly x y) (place_at lx ly x y)
    → Ok h ≡ reading (number_fault lz z) (units lz z)
    → Ok (Numbers (p.x ∷ p.y ∷ h ∷ [])) ≡ axes_reading (lx ∷ ly ∷ lz ∷ []) (x ∷ y ∷ z ∷ [])
space_ok lx ly lz x y z p h e f =
    let a = read_ok _ _ p e in
    let b = read_ok _ _ h f in
    rw (numbers_three lx ly lz x y z, a.0, b.0, a.1, b.1) refl

pub space_bad : (lx ly lz : Limits) (x y z : List ℕ) (fault : ValueFault)
    → Err fault ≡ reading (place_fault lx ly x y) (place_at lx ly x y)
    → Err fault ≡ axes_reading (lx ∷ ly ∷ lz ∷ []) (x ∷ y ∷ z ∷ [])
space_bad lx ly lz x y z fault e = rw (numbers_three lx ly lz x y z, read_err _ _ fault e) refl

pub z_bad : (lx ly lz : Limits) (x y z : List ℕ) (p : Place) (fault : ValueFault)
    → Ok p ≡ reading (place_fault lx ly x y) (place_at lx ly x y)
    → Err fault ≡ reading (number_fault lz z) (units lz z)
    → Err fault ≡ axes_reading (lx ∷ ly ∷ lz ∷ []) (x ∷ y ∷ z ∷ [])
z_bad lx ly lz x y z p fault e f =
    rw (numbers_three lx ly lz x y z, (read_ok _ _ p e).0, read_err _ _ fault f) refl

pub place_ok : (lx ly : Limits) (x y : List ℕ) (p q : ℤ)
    → Ok p ≡ reading (number_fault lx x) (units lx x)
    → Ok q ≡ reading (number_fault ly y) (units ly y)
    → Ok (record { x = p; y = q }) ≡ reading (place_fault lx ly x y) (place_at lx ly x y)
place_ok lx ly x y p q e f =
    let a = read_ok _ _ p e in
    let b = read_ok _ _ q f in
    rw (a.0, b.0, a.1, b.1) refl

pub named : (lx ly : Limits) (x y : List ℕ) (p : Place)
    → Ok p ≡ reading (place_fault lx ly x y) (place_at lx ly x y) → p ≡ place_at lx ly x y
named lx ly x y p e = (read_ok _ _ p e).1
