-- A file that is started and then appended to holds what was appended.
use Rattle.std.proofs.Common.{◌≡◌, ℕ, List, [], ◌++◌, Option, Some, None, Bool, true, false, cond}
use Rattle.std.proofs.Common.{nat_eq, refl, sym, ap, ◌∙◌, length, take, inl, inr, Result, Ok, Err}
use Rattle.std.specs.Prelude.{OnOk, OnErr}
use Rattle.std.specs.Cmp.Lexicographic.{pointwise, nat_list_cmp_total}
use Rattle.std.specs.FinMap as map
use Rattle.ports.specs.Files.{Files, Puts, Emptied, Gained, bytes_of}
use Rattle.delivery.specs.Effects.{HoldsFront}
use Rattle.ports.specs.Output.{Adds, AddsPrefix}
use Rattle.std.proofs.Math.Seq.{take-length}
use Rattle.ports.proofs.Maps.{got_inserted, got_same}

insert_twice : (files : Files) (name first last : List ℕ)
    → map.insert (map.insert files name first) name last ≡ map.insert files name last
insert_twice files name first last =
    map.same_map nat_list_cmp_total (map.slice_cmp-IsAntisymmetric map.nat_cmp-IsAntisymmetric) _ _
    (λ q.
    got_inserted (map.insert files name first) name last q
    ∙ (ap (λ (o : Option (List ℕ)). cond (pointwise nat_eq q name) (Some last) o)
    (got_inserted files name first q)
    ∙ (same (pointwise nat_eq q name) (map.get files q) ∙ sym (got_inserted files name last q))))
  where
    same : (b : Bool) (o : Option (List ℕ))
        → cond b (Some last) (cond b (Some first) o) ≡ cond b (Some last) o
    same true o = refl
    same false o = refl

pub started : (old mid new : Option Files) (name bytes : List ℕ) → Puts old name (λ file. []) mid
    → Puts mid name (λ file. bytes_of file ++ bytes) new → Puts old name (λ file. bytes) new
started None mid new name bytes h k = tt
started (Some files) None new name bytes h k = absurd (cc)
started (Some files) (Some held) new name bytes h k =
    let e : held ≡ map.insert files name [] = cc in
    k ∙ ap (λ (m : Files). Some (map.insert m name (bytes_of (map.get m name) ++ bytes))) e
    ∙ ap (λ (o : Option (List ℕ)). Some
    (map.insert (map.insert files name []) name (bytes_of o ++ bytes))) (got_same files name [])
    ∙ ap (λ (m : Files). Some m) (insert_twice files name [] bytes)

-- a file that was emptied, or that holds a front of a text or all of it, holds a front of the text
pub emptied_front : (old new : Option Files) (name text : List ℕ) → Emptied old name new
    → HoldsFront old name text new
emptied_front None new name text h = tt
emptied_front (Some files) new name text h =
    elim h as (λ z. HoldsFront (Some files) name text new) [
      | inl e ↦ inl e
      | inr e ↦ inr (0, e)
    ]

pub filed_front : (old new : Option Files) (name text : List ℕ) → Puts old name (λ file. text) new
    → HoldsFront old name text new
filed_front None new name text h = tt
filed_front (Some files) new name text h =
    inr (
      length text,
      h
          ∙ ap (λ (s : List ℕ). Some (map.insert files name s)) (sym (take-length text)),
    )

pub gained_front : (old mid new : Option Files) (name text : List ℕ)
    → Puts old name (λ file. []) mid → Gained mid name text new → HoldsFront old name text new
gained_front None mid new name text h k = tt
gained_front (Some files) None new name text h k = absurd (cc)
gained_front (Some files) (Some held) new name text h k =
    let e : held ≡ map.insert files name [] = cc in
    elim k as (λ z. HoldsFront (Some files) name text new) [
      | inl n ↦ inr (0, n ∙ ap (λ (m : Files). Some m) e)
      | inr n ↦ inr (
        n.0,
        n.1
            ∙ ap (λ (m : Files). Some
            (map.insert m name (bytes_of (map.get m name) ++ take n.0 text))) e
            ∙ ap (λ (o : Option (List ℕ)). Some
            (map.insert (map.insert files name []) name (bytes_of o ++ take n.0 text)))
            (got_same files name [])
            ∙ ap (λ (m : Files). Some m) (insert_twice files name [] (take n.0 text)),
      )
    ]

-- the same of a call that appends the text to the file that was started
pub filed_after : {A E : Type 0} (r : Result A E) (old mid new : Option Files) (name text : List ℕ)
    → Puts old name (λ file. []) mid → OnOk r (Puts mid name (λ file. bytes_of file ++ text) new)
    → OnOk r (Puts old name (λ file. text) new)
filed_after (Ok x) old mid new name text h k = started old mid new name text h k
filed_after (Err e) old mid new name text h k = k

pub begun_after : {A E : Type 0} (r : Result A E) (old mid new : Option Files) (name text : List ℕ)
    → Puts old name (λ file. []) mid → OnOk r (Puts mid name (λ file. bytes_of file ++ text) new)
    → OnErr r (Gained mid name text new) → HoldsFront old name text new
begun_after (Ok x) old mid new name text h k g =
    filed_front old new name text (started old mid new name text h k)
begun_after (Err e) old mid new name text h k g = gained_front old mid new name text h g

-- all of some bytes is a prefix of them
pub all_is_prefix : (old : Option (List ℕ)) (bytes : List ℕ) (new : Option (List ℕ))
    → Adds old bytes new → AddsPrefix old bytes new
all_is_prefix None bytes new h = tt
all_is_prefix (Some old) bytes new h =
    (length bytes, h ∙ ap (λ (s : List ℕ). Some (old ++ s)) (sym (take-length bytes)))
