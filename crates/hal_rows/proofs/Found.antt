-- What is said of all requests is read of the rows, where it is said of live ones alone.
use Rattle.std.proofs.Common.{◌≡◌, ℕ, ◌+◌, ◌==◌, Bool, true, false, ◌&&◌, ◌||◌, not, List, [], ◌∷◌, Some, None, refl, ◌∙◌, filter, find, map, inl, inr, arith, sum_by, if◌then◌else◌}
use Rattle.std.specs.List.{fold, list_all, list_any}
use Rattle.std.proofs.lemmas.Bool.{and_parts, cases_Bool, eq-eqb, eqb-true}
use Rattle.basic_lemmas.proofs.Lists.{find-mapped}
use Rattle.hal_model.specs.declared.event.HalEvent.{HalEvent}
use Rattle.hal_model.specs.declared.event.HalEvent.TheVariants.{RequestBegin}
use Rattle.hal_model.specs.Words.{frames, is_begun, is_live}
use Rattle.hal_rows.specs.declared.row.Row.{Row}
use Rattle.hal_rows.specs.Row.{row_for, row_of, rows}
use Rattle.hal_rows.proofs.Rows.{frames-begun}

-- ---- any, filter and sum

pub any-of-rows : (row : ℕ → Row) (live b p : ℕ → Bool) (q : Row → Bool) (ms : List ℕ) → ((m : ℕ) → b m ≡ true → live m ≡ false → p m ≡ false) → ((m : ℕ) → b m ≡ true → live m ≡ true → p m ≡ q (row m)) → list_all b ms ≡ true → list_any p ms ≡ list_any q (map row (filter live ms))
any-of-rows row live b p q [] gone same all = refl
any-of-rows row live b p q (m ∷ ms) gone same all =
    let parts = and_parts (b m) (list_all b ms) all in
    let ih = any-of-rows row live b p q ms gone same parts.1 in
    elim (cases_Bool (live m)) [
      | inl here ↦ rw (here, same m parts.0 here, ih) refl
      | inr other ↦ rw (other, gone m parts.0 other) ih
    ]

pub any-rows : (k : ℕ) (past : List HalEvent) (p : ℕ → Bool) (q : Row → Bool) → ((m : ℕ) → is_begun m past ≡ true → is_live k m past ≡ false → p m ≡ false) → ((m : ℕ) → is_begun m past ≡ true → is_live k m past ≡ true → p m ≡ q (row_of k past m)) → list_any p (frames past) ≡ list_any q (rows k past)
any-rows k past p q gone same = any-of-rows (row_of k past) (λ m. is_live k m past) (λ m. is_begun m past) p q (frames past) gone same (frames-begun past)

pub filter-of-rows : {X : Type 0} (row : ℕ → Row) (live b p : ℕ → Bool) (q : Row → Bool) (f : ℕ → X) (g : Row → X) (ms : List ℕ) → ((m : ℕ) → b m ≡ true → live m ≡ false → p m ≡ false) → ((m : ℕ) → b m ≡ true → live m ≡ true → p m ≡ q (row m)) → ((m : ℕ) → f m ≡ g (row m)) → list_all b ms ≡ true → map f (filter p ms) ≡ map g (filter q (map row (filter live ms)))
filter-of-rows row live b p q f g [] gone same each all = refl
filter-of-rows row live b p q f g (m ∷ ms) gone same each all =
    let parts = and_parts (b m) (list_all b ms) all in
    let ih = filter-of-rows row live b p q f g ms gone same each parts.1 in
    elim (cases_Bool (live m)) [
      | inl here ↦ rw (here, same m parts.0 here) (choose (q (row m)) ih)
      | inr other ↦ rw (other, gone m parts.0 other) ih
    ]
  where
    choose : (c : Bool) → map f (filter p ms) ≡ map g (filter q (map row (filter live ms))) → map f (if c then m ∷ filter p ms else filter p ms) ≡ map g (if c then row m ∷ filter q (map row (filter live ms)) else filter q (map row (filter live ms)))
    choose true ih = rw (each m, ih) refl
    choose false ih = ih

pub filter-rows : {X : Type 0} (k : ℕ) (past : List HalEvent) (p : ℕ → Bool) (q : Row → Bool) (f : ℕ → X) (g : Row → X) → ((m : ℕ) → is_begun m past ≡ true → is_live k m past ≡ false → p m ≡ false) → ((m : ℕ) → is_begun m past ≡ true → is_live k m past ≡ true → p m ≡ q (row_of k past m)) → ((m : ℕ) → f m ≡ g (row_of k past m)) → map f (filter p (frames past)) ≡ map g (filter q (rows k past))
filter-rows k past p q f g gone same each = filter-of-rows (row_of k past) (λ m. is_live k m past) (λ m. is_begun m past) p q f g (frames past) gone same each (frames-begun past)

sum-of-rows : (row : ℕ → Row) (live : ℕ → Bool) (f : ℕ → ℕ) (g : Row → ℕ) (ms : List ℕ) (a : ℕ) → ((m : ℕ) → live m ≡ true → f m ≡ g (row m)) → ((m : ℕ) → live m ≡ false → f m ≡ 0) → fold (λ x m. x + f m) a ms ≡ fold (λ x r. x + g r) a (map row (filter live ms))
sum-of-rows row live f g [] a same gone = refl
sum-of-rows row live f g (m ∷ ms) a same gone =
    elim (cases_Bool (live m)) [
      | inl here ↦ rw (here, same m here) (sum-of-rows row live f g ms (a + g (row m)) same gone)
      | inr other ↦ (let nothing : a + f m ≡ a = rw (gone m other) (grind arith) in rw (other, nothing) (sum-of-rows row live f g ms a same gone))
    ]

pub sum-rows : (k : ℕ) (past : List HalEvent) (f : ℕ → ℕ) (g : Row → ℕ) → ((m : ℕ) → is_live k m past ≡ true → f m ≡ g (row_of k past m)) → ((m : ℕ) → is_live k m past ≡ false → f m ≡ 0) → sum_by f (frames past) ≡ sum_by g (rows k past)
sum-rows k past f g same gone = sum-of-rows (row_of k past) (λ m. is_live k m past) f g (frames past) 0 same gone

-- ---- the row of a number

any-others : (n m : ℕ) (ms : List ℕ) → (m == n) ≡ false → list_any (λ x. x == n) (filter (λ x. not (x == m)) ms) ≡ list_any (λ x. x == n) ms
any-others n m [] other = refl
any-others n m (x ∷ ms) other =
    elim (cases_Bool (x == m)) [
      | inl here ↦ (let no' : (x == n) ≡ false = rw (eqb-true x m here) other in rw (here, no') (any-others n m ms other))
      | inr far ↦ rw (far, any-others n m ms other) refl
    ]

pub frames-have : (n : ℕ) (past : List HalEvent) → list_any (λ m. m == n) (frames past) ≡ is_begun n past
frames-have n [] = refl
frames-have n (RequestBegin m same ts a b ∷ past) =
    elim (cases_Bool (m == n)) [
      | inl here ↦ rw here refl
      | inr other ↦ rw (other, any-others n m (frames past) other, frames-have n past) refl
    ]
frames-have n (e ∷ past) = frames-have n past

find-number : (p : ℕ → Bool) (n : ℕ) (ms : List ℕ) → find (λ m. m == n) (filter p ms) ≡ (if p n && list_any (λ m. m == n) ms then Some n else None)
find-number p n [] = none (p n)
  where
    none : (c : Bool) → None ≡ (if c && false then Some n else None)
    none true = refl
    none false = refl
find-number p n (m ∷ ms) =
    elim (cases_Bool (m == n)) [
      | inl here ↦ (let same = eqb-true m n here in rw same (found (p n) (eq-eqb n n refl) (find-number p n ms)))
      | inr other ↦ rw other (skipped (p m) other (find-number p n ms))
    ]
  where
    found : (c : Bool) → (n == n) ≡ true → find (λ x. x == n) (filter p ms) ≡ (if c && list_any (λ x. x == n) ms then Some n else None) → find (λ x. x == n) (if c then n ∷ filter p ms else filter p ms) ≡ (if c && ((n == n) || list_any (λ x. x == n) ms) then Some n else None)
    found true here ih = rw here refl
    found false here ih = ih

    skipped : (c : Bool) → (m == n) ≡ false → find (λ x. x == n) (filter p ms) ≡ (if p n && list_any (λ x. x == n) ms then Some n else None) → find (λ x. x == n) (if c then m ∷ filter p ms else filter p ms) ≡ (if p n && list_any (λ x. x == n) ms then Some n else None)
    skipped true other ih = rw other ih
    skipped false other ih = ih

pub row-found : (k n : ℕ) (past : List HalEvent) → is_live k n past ≡ true → row_for n (rows k past) ≡ Some (row_of k past n)
row-found k n past live =
    let begun : is_begun n past ≡ true = (and_parts (is_begun n past) _ live).0 in
    find-mapped (λ r. r.frame == n) (row_of k past) (filter (λ m. is_live k m past) (frames past))
    ∙ rw (find-number (λ m. is_live k m past) n (frames past), live, frames-have n past, begun) refl

pub row-none : (k n : ℕ) (past : List HalEvent) → is_live k n past ≡ false → row_for n (rows k past) ≡ None
row-none k n past gone =
    find-mapped (λ r. r.frame == n) (row_of k past) (filter (λ m. is_live k m past) (frames past))
    ∙ rw (find-number (λ m. is_live k m past) n (frames past), gone) refl
