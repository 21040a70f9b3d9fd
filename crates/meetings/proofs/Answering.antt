-- What holds of an answer, from what held of another.
use Rattle.std.proofs.Common.{Option, None, Some, Result, Ok, Err}
use Rattle.std.specs.Prelude.{IfOk, IfSome}

pub ok_mapped : {A E : Type 0} (r : Result A E) (P Q : A → Type 0) → ((a : A) → P a → Q a)
    → IfOk r P → IfOk r Q
ok_mapped (Ok a) P Q f h = f a h
ok_mapped (Err e) P Q f h = tt

pub some_mapped : {A : Type 0} (P Q : A → Type 0) → ((a : A) → P a → Q a) → (o : Option A)
    → IfSome o P → IfSome o Q
some_mapped P Q f None h = tt
some_mapped P Q f (Some a) h = f a h
