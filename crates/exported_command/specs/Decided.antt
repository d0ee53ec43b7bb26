-- The submission of a command on the device's bytes, as the code makes it.
use Rattle.std.specs.Prelude.{◌≡◌, Bool, true, false, List, ℕ, ◌≤◌, ◌<◌, ltb, length, Result}
use Rattle.std.proofs.Math.Path.{refl}
use Rattle.std.proofs.Common.{sym, ◌∙◌, ap}
use borrow.Author.Tests.{lt-ltb, le-ltb}
use Rattle.words.specs.Choice.{pick, either}
use Rattle.hcr.specs.Register.{read_of}
use Rattle.hcr.specs.declared.HcrCommand.{HcrCommand}
use Rattle.hcr.specs.declared.ReadError.{ReadError}
use Rattle.slots.specs.declared.Slot.{Slot}
use Rattle.possible.specs.declared.Hca.{Hca}
use Rattle.rules.specs.World.{World, world, bad_lent, bad_state}
use Rattle.rules.specs.Admission.{applied}
use Rattle.rules.specs.Commands.{decide_register, decide_command, submit_command}
use Rattle.rules.specs.Laws.Decided.{Passing}
use Rattle.rules.specs.declared.Decision.{Decision}
use Rattle.rules.specs.declared.Refusal.{Refusal}
use Rattle.deciding.specs.Ready.{OpenFits, passing_fits}
use Rattle.applying.specs.Applies.{Applies, command_applies}
use Rattle.device_bytes.specs.Decoding.{row_of, hca_of}
use Rattle.device_calls.specs.Calls.{world_of, Left, left, submit_left, command_call}
use Rattle.device_calls.specs.Tests.{first_number, world_number, Tested}
use Rattle.device_calls.proofs.Tests.{first_is, tested}
use Rattle.exported_apply.specs.Applied.{Ready}

module _ (dev store room : List ℕ) (t : Tested dev store room) (h : Hca) (is : h ≡ hca_of dev) where
  pub opened_fits : OpenFits h store
  opened_fits = rw is (passing_fits (hca_of dev) (row_of dev) store room t.passing)

  module _ (bytes mail : List ℕ) (row : List Slot) (a : Result HcrCommand ReadError) (d : Result Decision Refusal) (row_is : row ≡ row_of dev)
      (read : a ≡ read_of bytes) (told : (rm : List ℕ) → d ≡ decide_register (world h row store rm) mail a) where
    pub decided : d ≡ decide_register (world_of dev store room) mail (read_of bytes)
    decided =
        told room
        ∙ ap (λ (x : Hca). decide_register (world x row store room) mail a) is
        ∙ ap (λ (x : List Slot). decide_register (world (hca_of dev) x store room) mail a) row_is
        ∙ ap (decide_register (world_of dev store room) mail) read

    -- the register is long enough and the first tests passed, so that its fields decide
    command_is : 28 ≤ length bytes → decide_command (world_of dev store room) bytes mail ≡ d
    unfolding decide_command
    command_is l = rw (t.passing.lent, le-ltb (length bytes) 28 l, t.passing.possible) (sym decided)

    pub can_apply : 28 ≤ length bytes → Ready h dev (length store) (length room) (length mail) d
    can_apply l = record {
      sized = t.sized;
      is = is;
      applies = rw (command_is l) at (command_applies (world_of dev store room) bytes mail);
    }

    pub left_decided : (x : Left) → x ≡ submit_left dev (applied (world_of dev store room) mail d)
        → x ≡ submit_left dev (applied (world_of dev store room) mail (decide_register (world_of dev store room) mail (read_of bytes)))
    left_decided x e = e ∙ ap (λ (y : Result Decision Refusal). submit_left dev (applied (world_of dev store room) mail y)) decided

either_last : (b : Bool) → either b true ≡ true
either_last true = refl
either_last false = refl

-- fewer than 28 bytes
pub left_short : (dev store room bytes mail : List ℕ) → length bytes < 28 → left 0x83 dev store room ≡ command_call dev store room bytes mail
unfolding command_call submit_left submit_command decide_command
left_short dev store room bytes mail l = rw (lt-ltb (length bytes) 28 l, either_last (bad_lent (world_of dev store room)))

module _ (dev store room bytes mail : List ℕ) (long : 28 ≤ length bytes) (n : ℕ) (asked : n ≡ first_number dev (length store) (length room)) where
  pub left_refused : ¬ (n ≡ 0) → left n dev store room ≡ command_call dev store room bytes mail
  unfolding command_call submit_left submit_command decide_command
  left_refused z = rw (asked ∙ first_is dev store room) (go (bad_lent w) refl (bad_state w) refl)
    where
      w : World
      w = world_of dev store room

      go : (a : Bool) → bad_lent w ≡ a → (b : Bool) → bad_state w ≡ b
          → left (world_number w) dev store room ≡ submit_left dev (submit_command w bytes mail)
      go true e b f = rw e
      go false e true f = rw (e, le-ltb (length bytes) 28 long, f)
      go false e false f = absurd (z (asked ∙ first_is dev store room ∙ rw (e, f)))

  pub left_submitted : n ≡ 0 → (x : Left)
      → x ≡ submit_left dev (applied (world_of dev store room) mail (decide_register (world_of dev store room) mail (read_of bytes)))
      → x ≡ command_call dev store room bytes mail
  unfolding command_call submit_command decide_command
  left_submitted z x e =
      let p : Passing (world_of dev store room) = (tested dev store room n asked z).passing in
      rw (p.lent, le-ltb (length bytes) 28 long, p.possible) e
