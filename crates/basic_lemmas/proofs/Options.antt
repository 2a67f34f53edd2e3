-- Options and results: what a test of one says.
use Rattle.std.proofs.Common.{◌≤◌, Option, Some, None, arith, length, option_to_list, ◌≡◌, ℕ, true, is_none, refl, false, is_some, sym, Result, Ok, Err, OnErr}
use Rattle.std.proofs.lemmas.Bool.{false≢true}

pub option-few : {T : Type 0} (o : Option T) → length (option_to_list o) ≤ 1
option-few None = omega arith
option-few (Some x) = omega arith

pub is-none : (o : Option ℕ) → is_none o ≡ true → o ≡ None
is-none None h = refl
is-none (Some x) h = absurd (false≢true h)

pub not-some : (o : Option ℕ) → is_some o ≡ false → o ≡ None
not-some None h = refl
not-some (Some k) h = absurd (false≢true (sym h))

pub one-each : {X : Type 0} (o : Option X) → length (option_to_list o) ≤ 1
one-each None = omega arith
one-each (Some x) = omega arith

pub on-err : {T E : Type 0} (P : Type 0) (r : Result T E) → P → OnErr r P
on-err P (Ok x) h = tt
on-err P (Err e) h = h

pub err-as : {T E : Type 0} (P Q : Type 0) (r : Result T E) → (P → Q) → OnErr r P → OnErr r Q
err-as P Q (Ok x) f h = tt
err-as P Q (Err e) f h = f h
