-- What is judged of an occupied slot's bytes is what 0x87's conditions ask of the slot (01, Numbers returned).
use Rattle.std.specs.Prelude.{◌≡◌, refl, Bool, true, false, not, List, ℕ, eqb, ltb, get_or, Option, Some, None}
use Rattle.std.proofs.Common.{sym, ap, ne_eqb}
use Rattle.std.specs.Option.{is_none}
use Rattle.std.proofs.lemmas.Option.{none-some, same_Some}
use Rattle.words.specs.Choice.{pick, either}
use Rattle.context.specs.declared.Logs.{Logs}
use Rattle.requests.specs.declared.EngineRequest.TheVariants as engine
use Rattle.requests.specs.declared.Request.TheVariants as request
use Rattle.requests.specs.declared.Request.{Request}
use Rattle.request_table.specs.Records.{is_command, numbers_hold}
use Rattle.burst_table.specs.Bursts.{total_of}
use Rattle.slots.specs.Slots.{Held, slot, command_status, has_command}
use Rattle.slots.specs.declared.Status.{Status}
use Rattle.slots.specs.declared.Status.TheVariants.{Running, Finished}
use Rattle.slot_checks.specs.SlotChecks.{status_wrong, slot_wrong}
use Rattle.device_bytes.specs.Decoding.{request_in, broken, status_held, status_of}
use Rattle.hold_codes.specs.Codes.{no_hold, request_hold, hold_status, hold_of}
use Rattle.slot_judging.specs.Judging.{bad, judged_by, judged_request, judged_of}
use Rattle.slot_judging.specs.declared.Judged.{Judged}

pub broken_wrong : (g : Logs) → slot_wrong g (slot broken) ≡ true
broken_wrong g = go (numbers_hold g (request.Engine (engine.ReadState (record { 0 = 0 }))))
  where
    go : (b : Bool) → either (not b) true ≡ true
    go true = refl
    go false = refl

-- what is known of a slot's status s from what is judged of it
record Says (g : Logs) (o : Option Judged) (s : Status) : Type 0 where
  pub wrong : is_none o ≡ status_wrong g s
  pub command : (j : Judged) → o ≡ Some j → j.command ≡ command_status s
  pub hold : (j : Judged) → o ≡ Some j → j.hold ≡ hold_status s

says_bad : (g : Logs) (s : Status) → true ≡ status_wrong g s → Says g bad s
says_bad g s e = record { wrong = e; command = λ j f. absurd (none-some j f); hold = λ j f. absurd (none-some j f) }

says_broken : (g : Logs) → Says g bad broken
says_broken g = says_bad g broken (sym (broken_wrong g))

-- n: the request's numbers hold; r: its bursts are right
says_right : (g : Logs) (s : Status) (n r : Bool) → either (not n) (not r) ≡ status_wrong g s
    → Says g (pick n (pick r (Some (record { command = command_status s; hold = hold_status s })) bad) bad) s
says_right g s true true e =
    record {
      wrong = e;
      command = λ j f. ap (λ (x : Judged). x.command) (sym (same_Some _ j f));
      hold = λ j f. ap (λ (x : Judged). x.hold) (sym (same_Some _ j f));
    }
says_right g s true false e = says_bad g s e
says_right g s false r e = says_bad g s e

module _ (g : Logs) (m : ℕ) where
  -- a and b: the status is 1, is 2
  says_request : (q : Held) (a b : Bool)
      → Says g
      (pick (numbers_hold g q) (pick a (pick (ltb m (total_of q)) (Some (record { command = is_command q; hold = request_hold q })) bad)
      (pick b (pick (eqb m (total_of q)) (Some (record { command = is_command q; hold = no_hold })) bad) bad)) bad)
      (pick a (Running m q) (pick b (Finished m q) broken))
  says_request q true b = says_right g (Running m q) (numbers_hold g q) (ltb m (total_of q)) refl
  says_request q false true = says_right g (Finished m q) (numbers_hold g q) (eqb m (total_of q)) refl
  says_request q false false = go (numbers_hold g q)
    where
      go : (n : Bool) → Says g (pick n bad bad) broken
      go true = says_broken g
      go false = says_broken g

  says_held : (code : ℕ) (f : Option Request) → Says g (judged_request g code m f) (status_held code m f)
  unfolding judged_by
  says_held code (Some q) = says_request q (eqb code 1) (eqb code 2)
  says_held code None = says_broken g

module _ (g : Logs) (b : List ℕ) (some : ¬ (get_or b 0 0 ≡ 0)) where
  says : Says g (judged_of g b) (status_of b)
  unfolding judged_of status_of
  says = rw (ne_eqb (get_or b 0 0) 0 some) (says_held g (get_or b 2 0) (get_or b 0 0) (request_in b))

  pub judged_wrong : is_none (judged_of g b) ≡ slot_wrong g (slot (status_of b))
  judged_wrong = says.wrong

  pub judged_command : (j : Judged) → judged_of g b ≡ Some j → j.command ≡ has_command (slot (status_of b))
  judged_command = says.command

  pub judged_hold : (j : Judged) → judged_of g b ≡ Some j → j.hold ≡ hold_of (slot (status_of b))
  judged_hold = says.hold
