-- Where a report is empty, no event breaks a rule.
use Rattle.std.proofs.Common.{◌≡◌, ℕ, Bool, true, false, ◌||◌, not, List, [], ◌∷◌, ◌++◌, Some, refl, sym, ap, ◌∙◌, map, slice_get, zero, suc, if◌then◌else◌}
use Rattle.std.specs.List.{list_all}
use Rattle.std.proofs.lemmas.Bool.{and_parts, false≢true, not-true, or_parts}
use Rattle.hal_model.specs.declared.event.HalEvent.{HalEvent}
use Rattle.hal_model.specs.declared.event.HalEvent.TheVariants.{OpenOk}
use Rattle.hal_model.specs.declared.rule.Breach.{Breach}
use Rattle.hal_model.specs.declared.rule.Rule.{Rule}
use Rattle.hal_model.specs.Callbacks.{ends_again, heard, names_idle}
use Rattle.hal_model.specs.declared.rule.Fault.{Fault}
use Rattle.hal_model.specs.Rules.{breaches_in, breaks, faults, known, ordered, plain_rules, report_by}
use Rattle.hal_model.specs.Words.{is_open_ok, session}
use Rattle.hal_rows.specs.Laws.{is_told}
use Rattle.hal_rows.proofs.Told.{each_told}
use Rattle.hal_laws.specs.Promised.{KeepsRules}

none-first : {X : Type 0} (xs ys : List X) → xs ++ ys ≡ [] → xs ≡ []
none-first [] ys h = refl
none-first (x ∷ xs) ys h = absurd (cc)

none-second : {X : Type 0} (xs ys : List X) → xs ++ ys ≡ [] → ys ≡ []
none-second [] ys h = h
none-second (x ∷ xs) ys h = absurd (cc)

-- a breach that is told isn't none
told-some : {X : Type 0} (f : Fault → X) (xs : List Fault) → is_told xs ≡ true → map f xs ≡ [] → false ≡ true
told-some f [] told none = told
told-some f (x ∷ xs) told none = absurd (cc)

unbroken : (k : ℕ) (e : HalEvent) (log : List HalEvent) (rule : Rule) (f : Fault → Breach) (b : Bool) → breaks k rule e log ≡ b → (if b then map f (ordered (faults k rule e (known k log))) else []) ≡ [] → b ≡ false
unbroken k e log rule f false at none = refl
unbroken k e log rule f true at none = absurd (false≢true (told-some f (ordered (faults k rule e (known k log))) (each_told k rule e (known k log) at) none))

none-broken : (k : ℕ) (e : HalEvent) (log : List HalEvent) (some : List Rule) → breaches_in k e log some ≡ [] → list_all (λ rule. not (breaks k rule e log)) some ≡ true
none-broken k e log [] none = refl
none-broken k e log (rule ∷ some) none =
    let first = unbroken k e log rule _ (breaks k rule e log) refl (none-first _ _ none) in
    rw first (none-broken k e log some (none-second _ _ none))

-- the last event of such a log breaks no rule
kept-now : (k : ℕ) (e : HalEvent) (log : List HalEvent) → KeepsRules k (e ∷ log) → list_all (λ rule. not (breaks k rule e log)) plain_rules ≡ true
kept-now k e log keeps = none-broken k e log plain_rules (none-second (report_by plain_rules k log) _ keeps)

-- and what stands before it has an empty report too
pub kept-before : (k : ℕ) (e : HalEvent) (log : List HalEvent) → KeepsRules k (e ∷ log) → KeepsRules k log
kept-before k e log keeps = none-first (report_by plain_rules k log) _ keeps

-- ---- what is known of a log with one more event

pub known-next : (P : List HalEvent → Type 0) (k : ℕ) (e : HalEvent) (log : List HalEvent) → P (OpenOk ∷ []) → P (known k log) → (is_open_ok e ≡ false → names_idle k e (known k log) ≡ false → ends_again e (known k log) ≡ false → P (e ∷ known k log)) → P (known k (e ∷ log))
known-next P k e log opened same more = by (is_open_ok e) refl
  where
    opens-only : (e : HalEvent) → is_open_ok e ≡ true → e ≡ OpenOk
    opens-only OpenOk h = refl
    opens-only _ h = absurd (false≢true h)

    hears : (b : Bool) → (names_idle k e (known k log) || ends_again e (known k log)) ≡ b → is_open_ok e ≡ false → P (if b then known k log else e ∷ known k log)
    hears true stray other = same
    hears false now other = let parts = or_parts (names_idle k e (known k log)) (ends_again e (known k log)) now in more other parts.0 parts.1

    by : (b : Bool) → is_open_ok e ≡ b → P (heard k (if b then e ∷ [] else e ∷ session log))
    by true open' = rw (opens-only e open') opened
    by false other = hears (names_idle k e (known k log) || ends_again e (known k log)) refl other

-- ---- one of the rules

listed : (p : Rule → Bool) (some : List Rule) (i : ℕ) (rule : Rule) → list_all p some ≡ true → slice_get some i ≡ Some rule → p rule ≡ true
listed p [] i rule all at = absurd (cc)
listed p (r ∷ some) zero rule all at =
    let same : r ≡ rule = cc in
    ap p (sym same) ∙ (and_parts (p r) (list_all p some) all).0
listed p (r ∷ some) (suc i) rule all at = listed p some i rule (and_parts (p r) (list_all p some) all).1 at

-- the last event of such a log doesn't break the rule at this place
pub kept-at : (k : ℕ) (e : HalEvent) (log : List HalEvent) (i : ℕ) (rule : Rule) → KeepsRules k (e ∷ log) → slice_get plain_rules i ≡ Some rule → breaks k rule e log ≡ false
kept-at k e log i rule keeps at = not-true (breaks k rule e log) (listed (λ r. not (breaks k r e log)) plain_rules i rule (kept-now k e log keeps) at)
