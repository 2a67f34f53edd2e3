-- Each frame that was sent has the settings of the script's item.
use Rattle.std.proofs.Common.{◌≡◌, ℕ, zero, suc, ◌==◌, true, List, [], ◌∷◌, Option, Some, refl, ap, ◌∙◌, inl, inr, slice_get}
use Rattle.std.proofs.lemmas.Bool.{cases_Bool, eqb-true, false≢true}
use Rattle.cam_types.specs.declared.item.Item.{Item}
use Rattle.cam_types.specs.declared.request.WaitingItem.{WaitingItem}
use Rattle.cam_types.specs.declared.script.Script.{Script}
use Rattle.trace_model.specs.declared.entry.Entry.{Entry}
use Rattle.trace_model.specs.declared.entry.Entry.TheVariants.{Send}
use Rattle.trace_model.specs.Calls.{item_at}
use Rattle.trace_model.specs.Frames.{is_sent, settings_in, settings_of}
use Rattle.trace_model.specs.Legal.{IsLegal}
use Rattle.trace_model.specs.Numbers.{next_number}
use Rattle.trace_model.specs.Queue.{submitted}
use Rattle.state_facts.proofs.Accepted.{settings-kept}
use Rattle.state_facts.proofs.Items.{Each, StandsIn, submitted-stand}
use Rattle.logical_call.specs.Courses.{content_of, item_of}
use Rattle.logical_call.specs.Laws.{SettingsAreTheScripts}
use Rattle.logical_call.proofs.Numbers.{First, in-turn, item-stays, send-first}
use Rattle.logical_call.proofs.Steady.{Orderless, never-repeats, orderless}

each-get : {X : Type 0} (P : X → Type 0) (xs : List X) (n : ℕ) (x : X) → Each P xs → slice_get xs n ≡ Some x → P x
each-get P [] n x all at = absurd (cc)
each-get P (y ∷ xs) zero x all at = let same : y ≡ x = cc in rw same at all.0
each-get P (y ∷ xs) (suc n) x all at = each-get P xs n x all.1 at

same-settings : (a b : Option Item) (i : Item) → a ≡ Some i → b ≡ Some i → settings_in a ≡ settings_in b
same-settings a b i h k = rw (h, k) refl

first-settings : (script : Script) (past : List Entry) (n r i : ℕ) (w : WaitingItem) → Orderless script → IsLegal script past → First script past n r i w → settings_in (item_at script past r i) ≡ settings_in (content_of (item_of script n))
first-settings script past n r i w ok legal f =
    let stands = each-get (StandsIn script past) (submitted script past) (next_number past) w (submitted-stand script past legal) f.item in
    let here : item_at script past r i ≡ Some w.item = rw (f.request, f.index) stands in
    let there : item_of script n ≡ Some w = rw (f.number) (item-stays script past (next_number past) w ok legal f.item) in
    same-settings (item_at script past r i) (content_of (item_of script n)) w.item here (ap content_of there)

settings : (script : Script) (past : List Entry) (n : ℕ) → Orderless script → IsLegal script past → is_sent n past ≡ true → settings_of script past n ≡ settings_in (content_of (item_of script n))
settings script [] n ok legal sent = absurd (false≢true sent)
settings script (Send m r i same targets ∷ past) n ok legal sent =
    elim (cases_Bool (m.0 == n)) [
      | inl here ↦ (
          let first = send-first script past m.0 r.0 i same targets (in-turn script past ok legal.1) (never-repeats script past ok.plain legal.1) legal.0 in
          let it = first-settings script past m.0 r.0 i first.0 ok legal.1 first.1 in
          let it' : settings_in (item_at script past r.0 i) ≡ settings_in (content_of (item_of script n)) = rw (eqb-true m.0 n here) at it in
          rw here it'
          )
      | inr other ↦ (
          let sent' : is_sent n past ≡ true = rw other at sent in
          settings-kept script past (Send m r i same targets) n legal sent' other ∙ settings script past n ok legal.1 sent'
          )
    ]
settings script (e ∷ past) n ok legal sent = settings-kept script past e n legal sent refl ∙ settings script past n ok legal.1 sent

pub settings_are : (script : Script) (past : List Entry) → SettingsAreTheScripts script past
settings_are script past ok legal n sent = settings script past n (orderless script ok) legal sent
