-- Calls that only read, one after another.
use Rattle.std.proofs.Common.{ℕ, List, Option, refl, ◌∙◌, arith}
use Rattle.ports.proofs.Steps.{stay_none, stay_then, ready_none, ready_then}
use Rattle.ports.specs.Files.{Files}
use Rattle.ports.specs.Reading.{OnlyReads}

-- nothing was read
pub reads_none : {surely : Type 0} {held : Option Files} {reads : List ℕ → ℕ} {writes : ℕ}
    {readable : List ℕ → Type 0} {space : List ℕ → Option ℕ}
    → OnlyReads surely held reads writes readable space held reads writes readable space
reads_none {surely} {held} {reads} {writes} {readable} {space} = record {
  held = refl;
  reads = λ q. omega arith;
  writes = omega arith;
  ready = ready_none readable space;
  stay = λ h. stay_none reads writes;
}

-- what can be read for the whole can be read for the part
pub reads_by : {whole part : Type 0} {held held_now : Option Files} {reads reads_now : List ℕ → ℕ}
    {writes writes_now : ℕ} {readable readable_now : List ℕ → Type 0}
    {space space_now : List ℕ → Option ℕ}
    → (whole → part)
    → OnlyReads part held reads writes readable space held_now reads_now writes_now readable_now
    space_now
    → OnlyReads whole held reads writes readable space held_now reads_now writes_now readable_now
    space_now
reads_by f h = record {
  held = h.held;
  reads = h.reads;
  writes = h.writes;
  ready = h.ready;
  stay = λ w. h.stay (f w);
}

-- one call after another: what can be read for the whole can be read for each of the two
pub reads_then : {whole first second : Type 0} {held held_mid held_now : Option Files}
    {reads reads_mid reads_now : List ℕ → ℕ} {writes writes_mid writes_now : ℕ}
    {readable readable_mid readable_now : List ℕ → Type 0}
    {space space_mid space_now : List ℕ → Option ℕ}
    → (whole → first) → (whole → second)
    → OnlyReads first held reads writes readable space held_mid reads_mid writes_mid readable_mid
    space_mid
    → OnlyReads second held_mid reads_mid writes_mid readable_mid space_mid held_now reads_now
    writes_now readable_now space_now
    → OnlyReads whole held reads writes readable space held_now reads_now writes_now readable_now
    space_now
reads_then {whole} {first} {second} {held} {held_mid} {held_now} {reads} {reads_mid} {reads_now}
    {writes} {writes_mid} {writes_now} {readable} {readable_mid} {readable_now} {space} {space_mid}
    {space_now} f s h k = record {
      held = k.held ∙ h.held;
      reads = λ q. (let a = h.reads q in let b = k.reads q in omega (arith, a, b));
      writes = (let a = h.writes in let b = k.writes in omega (arith, a, b));
      ready = ready_then readable space readable_mid space_mid readable_now space_now h.ready k.ready;
      stay = λ w. stay_then reads writes reads_mid writes_mid reads_now writes_now (h.stay (f w))
          (k.stay (s w));
    }
