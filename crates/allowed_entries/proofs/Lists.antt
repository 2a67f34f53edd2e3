-- Where a list tells of an entry.
use Rattle.std.proofs.Common.{◌≡◌, ◌∙◌, ◌<◌, ℕ, zero, suc, ◌+◌, ◌==◌, Bool, true, List, [], ◌∷◌, ◌++◌, Option, Some, None, sym, ap, arith, inl, inr, nat_lt, nat_le}
use Rattle.std.specs.List.{flat_map, list_any, range_with_len}
use Rattle.std.proofs.lemmas.Bool.{and_from, cases_Bool, eqb-true, false≢true}
use Rattle.std.proofs.lemmas.Bool.Decides.{nat_tests}
use Rattle.judge_rules.proofs.StreamLemmas.{any_in_range}
use Rattle.trace_model.specs.declared.entry.Entry.{Entry}
use Rattle.allowed_entries.specs.declared.entry.AllowedEntry.{AllowedEntry}
use Rattle.allowed_entries.specs.Entries.{by_streams}
use Rattle.allowed_entries.specs.Known.{known_of, shown, shown_where}
use Rattle.allowed_entries.specs.Told.{TellsOf}

pub in-front : (e : Entry) (xs ys : List AllowedEntry) → TellsOf e xs → TellsOf e (xs ++ ys)
in-front e [] ys h = absurd h
in-front e (x ∷ xs) ys h = elim h [ inl is ↦ inl is | inr more ↦ inr (in-front e xs ys more) ]

pub behind : (e : Entry) (xs ys : List AllowedEntry) → TellsOf e ys → TellsOf e (xs ++ ys)
behind e [] ys h = h
behind e (x ∷ xs) ys h = inr (behind e xs ys h)

some-same : {X : Type 0} (x y : X) → Some x ≡ Some y → y ≡ x
some-same x y h = cc

-- of the entry that is due
pub of-due : (e : Entry) (o : Option Entry) → o ≡ Some e → TellsOf e (shown o)
of-due e None at = absurd (cc)
of-due e (Some d) at = inl (ap known_of (some-same d e at))

pub of-due-where : (test : Entry → Bool) (e : Entry) (o : Option Entry) → test e ≡ true → o ≡ Some e → TellsOf e (shown_where test o)
of-due-where test e None passes at = absurd (cc)
of-due-where test e (Some d) passes at =
    let same : d ≡ e = sym (some-same d e at) in
    let there : test d ≡ true = ap test same ∙ passes in
    rw there (inl (ap known_of (sym same)))

-- of one of the numbers
pub of-one : (e : Entry) (f : ℕ → List AllowedEntry) (xs : List ℕ) (x : ℕ) → list_any (λ y. y == x) xs ≡ true → TellsOf e (f x) → TellsOf e (flat_map f xs)
of-one e f [] x there h = absurd (false≢true there)
of-one e f (y ∷ xs) x there h =
    elim (cases_Bool (y == x)) [
      | inl here ↦ (let same : y ≡ x = eqb-true y x here in in-front e (f y) (flat_map f xs) (rw same h))
      | inr other ↦ behind e (f y) (flat_map f xs) (of-one e f xs x (rw other at there) h)
    ]

-- of one of the streams
pub of-stream : (e : Entry) (f : ℕ → List AllowedEntry) (s : ℕ) → s < 4 → TellsOf e (f s) → TellsOf e (by_streams f)
of-stream e f zero low h = in-front e (f 0) _ h
of-stream e f (suc zero) low h = behind e (f 0) _ (in-front e (f 1) _ h)
of-stream e f (suc (suc zero)) low h = behind e (f 0) _ (behind e (f 1) _ (in-front e (f 2) (f 3) h))
of-stream e f (suc (suc (suc zero))) low h = behind e (f 0) _ (behind e (f 1) _ (behind e (f 2) (f 3) h))
of-stream e f (suc (suc (suc (suc s)))) low h = absurd (omega arith)

-- ---- numbers that are there

pub in-first : (f n : ℕ) → nat_lt f n ≡ true → list_any (λ x. x == f) (range_with_len 0 n) ≡ true
in-first f n low =
    let first : nat_le 0 f ≡ true = grind (arith, nat_tests) in
    let last : nat_lt f (0 + n) ≡ true = grind (arith, nat_tests) in
    any_in_range f 0 n ∙ and_from (nat_le 0 f) (nat_lt f (0 + n)) first last
