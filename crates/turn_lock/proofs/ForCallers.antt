-- For callers: a turn in which entries were added, and no job, one more job or one job fewer was out. What may be left, and what the seat then has.
-- v is the seat's view before `enter`, w its view between, x its view after `leave`. The value was `value`, and became `left`.
use Rattle.std.proofs.Common.{◌≡◌, List, [], ◌∷◌, ◌++◌, refl, ap, sym, ◌∙◌, subst, ⊎_elim, Contains, IsPermutation, length, arith}
use Rattle.std.specs.List.{remove}
use Rattle.std.proofs.lemmas.Bool.{eq-eqb}
use Rattle.std.proofs.lemmas.List.Elements.{Contains-append_right}
use Rattle.std.proofs.lemmas.List.Sorted.{IsPermutation-sym, IsPermutation-cons, IsPermutation-trans, IsPermutation-remove, IsPermutation-append_left, Contains-permutation, length_permutation}
use mathlib.Core.List.{IsPrefix}
use Rattle.turn_lock.specs.declared.view.View.{View}
use Rattle.turn_lock.specs.Rule.{NoneTwice}
use Rattle.turn_lock.specs.Lending.{SameSeat}
use Rattle.turn_lock.specs.Turns.{Enters, MayLeave, Leaves, Joins, splitting, split_off}
use Rattle.turn_lock.specs.Views.{without}
use Rattle.turn_lock.proofs.JobLists.{none_twice_permutation, none_twice_cons, none_twice_right, in_one_part, contains_more, contains_rest, same_rest}

module _ {S F E J : Type 0} (fixed : S → F) (entries : S → List E) (jobs : S → List J) (start : F) (v w : View F E J) (value left : S)
    (entered : Enters fixed entries jobs start v value w) (same : fixed left ≡ fixed value) (begins : IsPrefix (entries value) (entries left)) where
  has_rest : (job : J) → Contains w.rest job → Contains (jobs value) job
  has_rest job c = Contains-permutation (v.jobs ++ w.rest) (jobs value) job (IsPermutation-sym (jobs value) (v.jobs ++ w.rest) entered.parts) (Contains-append_right v.jobs w.rest job c)

  may_leave_if : ((job : J) → Contains w.rest job → Contains (jobs left) job) → NoneTwice (jobs left) → MayLeave fixed entries jobs start w left
  may_leave_if others once = record {
    same = same ∙ entered.same;
    begins = subst (λ (es : List E). IsPrefix es (entries left)) (sym (ap (λ (u : View F E J). u.seen) entered.is)) begins;
    others = others;
    once = once;
  }

  pub may_leave : jobs left ≡ jobs value → MayLeave fixed entries jobs start w left
  may_leave e = may_leave_if (λ job c. subst (λ (js : List J). Contains js job) (sym e) (has_rest job c)) (subst (λ (js : List J). NoneTwice js) (sym e) entered.once)

  pub may_leave_with : (job : J) → IsPermutation (job ∷ jobs value) (jobs left) → (Contains (jobs value) job → ⊥) → MayLeave fixed entries jobs start w left
  may_leave_with job p new = may_leave_if
      (λ other c. Contains-permutation (job ∷ jobs value) (jobs left) other p (contains_more job (jobs value) other (has_rest other c)))
      (none_twice_permutation (job ∷ jobs value) (jobs left) p (none_twice_cons job (jobs value) new entered.once))

  pub may_leave_without : (job : J) → IsPermutation (jobs value) (job ∷ jobs left) → Contains v.jobs job → MayLeave fixed entries jobs start w left
  may_leave_without job p own =
      let once : NoneTwice (job ∷ jobs left) = none_twice_permutation (jobs value) (job ∷ jobs left) p entered.once in
      let apart : NoneTwice (v.jobs ++ w.rest) = none_twice_permutation (jobs value) (v.jobs ++ w.rest) entered.parts entered.once in
      may_leave_if
      (λ other c. ⊎_elim (λ (e : job ≡ other). absurd (in_one_part v.jobs w.rest other apart (subst (λ (j : J). Contains v.jobs j) e own) c)) (λ (h : Contains (jobs left) other). h)
      (contains_rest job (jobs left) other (Contains-permutation (jobs value) (job ∷ jobs left) other p (has_rest other c))))
      (none_twice_right (job ∷ []) (jobs left) once)

  pub own_jobs : (x : View F E J) → Leaves entries jobs w left x → jobs left ≡ jobs value → IsPermutation x.jobs v.jobs
  own_jobs x leaves e = leaves.own v.jobs (subst (λ (js : List J). IsPermutation js (v.jobs ++ w.rest)) (sym e) entered.parts)

  pub own_jobs_with : (x : View F E J) (job : J) → Leaves entries jobs w left x → IsPermutation (job ∷ jobs value) (jobs left) → IsPermutation x.jobs (job ∷ v.jobs)
  own_jobs_with x job leaves p = leaves.own (job ∷ v.jobs)
      (IsPermutation-trans (jobs left) (job ∷ jobs value) (job ∷ (v.jobs ++ w.rest)) (IsPermutation-sym (job ∷ jobs value) (jobs left) p) (IsPermutation-cons job (jobs value) (v.jobs ++ w.rest) entered.parts))

  pub own_jobs_without : (x : View F E J) (job : J) → Leaves entries jobs w left x → IsPermutation (jobs value) (job ∷ jobs left) → Contains v.jobs job → IsPermutation v.jobs (job ∷ x.jobs)
  own_jobs_without x job leaves p at =
      let mine : List J = remove v.jobs at.0 in
      let q : IsPermutation v.jobs (job ∷ mine) = IsPermutation-remove v.jobs at.0 job at.1 (sym at.2) in
      let all : IsPermutation (jobs value) (job ∷ (mine ++ w.rest)) =
      IsPermutation-trans (jobs value) (v.jobs ++ w.rest) ((job ∷ mine) ++ w.rest) entered.parts (IsPermutation-append_left w.rest v.jobs (job ∷ mine) q) in
      let once : NoneTwice (job ∷ jobs left) = none_twice_permutation (jobs value) (job ∷ jobs left) p entered.once in
      let both : IsPermutation (job ∷ jobs left) (job ∷ (mine ++ w.rest)) =
      IsPermutation-trans (job ∷ jobs left) (jobs value) (job ∷ (mine ++ w.rest)) (IsPermutation-sym (jobs value) (job ∷ jobs left) p) all in
      let own : IsPermutation x.jobs mine = leaves.own mine (same_rest job (jobs left) (mine ++ w.rest) once both) in
      IsPermutation-trans v.jobs (job ∷ mine) (job ∷ x.jobs) q (IsPermutation-cons job mine x.jobs (IsPermutation-sym x.jobs mine own))

-- the seat is the same after two turns
pub same_seat : {F E J : Type 0} (u v w : View F E J) → SameSeat u v → SameSeat v w → SameSeat u w
same_seat u v w a b = (b.0 ∙ a.0, b.1 ∙ a.1, b.2 ∙ a.2)

-- the root has the others again that it had before it split a seat off, which it has joined
pub same_others : {F E J : Type 0} (v cut off r u w : View F E J) → cut ≡ splitting v → off ≡ split_off v → r.others ≡ cut.others → SameSeat off u → Joins r u w → w.others ≡ v.others
same_others {F} {E} {J} v cut off r u w left right kept same joined =
    let number : u.number ≡ v.made = same.0 ∙ ap (λ (x : View F E J). x.number) right in
    let others : r.others ≡ v.made ∷ v.others = kept ∙ ap (λ (x : View F E J). x.others) left in
    let is : w.others ≡ without u.number r.others = ap (λ (x : View F E J). x.others) joined.is in
    is ∙ rw (number, others, eq-eqb v.made v.made refl) refl

no_length : {J : Type 0} (jobs : List J) → length jobs ≡ 0 → jobs ≡ []
no_length [] e = refl
no_length (job ∷ jobs) e = absurd (omega arith)

-- where no job was out, none is
pub idle : {J : Type 0} (before after : List J) → IsPermutation after before → before ≡ [] → after ≡ []
idle before after p e = no_length after (sym (length_permutation after before p) ∙ ap length e)

-- who has taken a job has it
pub has_it : {J : Type 0} (job : J) (before after : List J) → IsPermutation after (job ∷ before) → Contains after job
has_it job before after p = Contains-permutation (job ∷ before) after job (IsPermutation-sym after (job ∷ before) p) (0, omega arith, refl)

-- and once it is given back, no other
pub has_none : {J : Type 0} (job : J) (before between after : List J) → IsPermutation between (job ∷ before) → before ≡ [] → IsPermutation between (job ∷ after) → after ≡ []
has_none job before between after p e q = no_length after (omega (arith, length_permutation between (job ∷ before) p, length_permutation between (job ∷ after) q, ap length e))
