-- Texts that are gathered one after the other.
use Rattle.std.proofs.Common.{◌≡◌, ℕ, ◌+◌, List, [], ◌++◌, Result, Ok, Err, OnErr, OnOk, refl, sym, ap, ◌∙◌, arith, length, take, append_assoc, length-append}
use Rattle.std.proofs.lemmas.List.{take-append-le}
use Rattle.std.proofs.Math.Seq.{take-append-add}
use Rattle.io_edge.specs.States.{Breaks, SinkState, Writes}
use Rattle.std.proofs.KnownBytes.{Appends-trans}
use Rattle.io_edge.specs.Pieces.{Gathers}

-- what is put is gathered
pub longer : (a b : SinkState) (g h t u x : List ℕ) → Gathers a b g t → h ≡ g ++ x → t ++ x ≡ u → Gathers a b h u
longer a b g h t u x first e f = record {
  sent = first.sent;
  written = first.written;
  whole = ap (λ (l : List ℕ). first.sent ++ l) e ∙ (sym (append_assoc first.sent g x) ∙ (ap (λ (l : List ℕ). l ++ x) first.whole ∙ f));
}

-- some of what is gathered is written
pub after : (a b c : SinkState) (g h t : List ℕ) → Gathers a b g t → Gathers b c h g → Gathers a c h t
after a b c g h t first second = record {
  sent = first.sent ++ second.sent;
  written = Appends-trans a.written b.written c.written first.sent second.sent first.written second.written;
  whole = append_assoc first.sent second.sent h ∙ (ap (λ (l : List ℕ). first.sent ++ l) second.whole ∙ first.whole);
}

-- a put behind what was put before
pub put : (a b c : SinkState) (g h t u x : List ℕ) → Gathers a b g t → Gathers b c h (g ++ x) → t ++ x ≡ u → Gathers a c h u
put a b c g h t u x first second e = after a b c (g ++ x) h u (longer a b g (g ++ x) t u x first refl e) second

-- a put into nothing
pub opened : (a b : SinkState) (g h t : List ℕ) → h ≡ [] → Gathers a b g (h ++ t) → Gathers a b g t
opened a b g h t e first = record { sent = first.sent; written = first.written; whole = first.whole ∙ ap (λ (l : List ℕ). l ++ t) e }

-- all that is gathered is written
pub flushed : (a b c : SinkState) (g t : List ℕ) → Gathers a b g t → Writes b c g → Writes a c t
flushed a b c g t first rest =
    let all = Appends-trans a.written b.written c.written first.sent g first.written rest in
    rw first.whole at all

-- a front of what is gathered is written
pub broken : (a b c : SinkState) (g t : List ℕ) → Gathers a b g t → Breaks b c g → Breaks a c t
broken a b c g t first fault =
    let front : take (length first.sent + fault.0) t ≡ first.sent ++ take fault.0 g = ap (take (length first.sent + fault.0)) (sym first.whole) ∙ take-append-add first.sent g fault.0 in
    let long : length first.sent + length g ≡ length t = sym (length-append first.sent g) ∙ ap length first.whole in
    let less = fault.1 in
    (length first.sent + fault.0, omega (arith, long, less), rw front (Appends-trans a.written b.written c.written first.sent (take fault.0 g) first.written fault.2))

-- a front of a front
pub shorter : (a b : SinkState) (t u x : List ℕ) → Breaks a b t → t ++ x ≡ u → Breaks a b u
shorter a b t u x fault e =
    let less = fault.1 in
    let long : length t + length x ≡ length u = sym (length-append t x) ∙ ap length e in
    let front : take fault.0 u ≡ take fault.0 t = ap (take fault.0) (sym e) ∙ take-append-le fault.0 t x (omega (arith, less)) in
    (fault.0, omega (arith, long, less), rw front fault.2)

-- a put behind what was put before, which fails, and what would be put next
pub put-broken : (a b c : SinkState) (g t u x rest : List ℕ) → Gathers a b g t → Breaks b c (g ++ x) → (t ++ x) ++ rest ≡ u → Breaks a c u
put-broken a b c g t u x rest first fault e =
    shorter a c (t ++ x) u rest (broken a b c (g ++ x) (t ++ x) (longer a b g (g ++ x) t (t ++ x) x first refl refl) fault) e

pub ok-as : {T E : Type 0} (P Q : Type 0) (r : Result T E) → (P → Q) → OnOk r P → OnOk r Q
ok-as P Q (Ok x) f h = f h
ok-as P Q (Err e) f h = tt
