-- What the stages of a command's decision ask for.
use Rattle.std.specs.Prelude.{◌≡◌, Bool, true, false, not, List, ℕ, Option, Some}
use Rattle.std.proofs.Common.{sym, ◌∙◌, subst}
use Rattle.std.proofs.lemmas.Bool.{not-false}
use Rattle.context.specs.Layout.{is_record}
use Rattle.context.specs.declared.Logs.{Logs}
use Rattle.requests.specs.declared.Command.{Command}
use Rattle.requests.specs.declared.Request.TheVariants as request
use Rattle.commands.specs.Commands.{read_command}
use Rattle.commands.specs.declared.Op.{Op}
use Rattle.commands.specs.declared.CommandAsked.{CommandAsked}
use Rattle.commands.specs.declared.CommandAsked.TheVariants as asked
use Rattle.request_table.specs.Records.{command_record}
use Rattle.records.specs.Calls.{Stored}
use Rattle.possible.specs.declared.Hca.{Hca}
use Rattle.rules.specs.Commands.{bad_system}
use Rattle.rules.proofs.Laws.Found.{Reads, on_record, command_reads}
use Rattle.deciding.specs.Ready.{OpenFits, open_stored}

-- the memory has the record of the command that is found
pub record CommandStored (g : Logs) (store : List ℕ) (f : Option CommandAsked) : Type 0 where
  pub stored : (c : Command) → f ≡ Some (asked.OnRecord c) → Stored g store (request.Command c)

-- a command on a record is served while open only, and its record is one of the store
record OnRecord (g : Logs) (o : Op) (c : Command) : Type 0 where
  pub opened : (b : Bool) → bad_system b o ≡ not b
  pub valid : is_record g (command_record c) ≡ true

on_record_lem : (g : Logs) (o : Op) (c : Command) → Reads g o (Some (asked.OnRecord c)) → OnRecord g o c
on_record_lem g o c (on_record n v) = record { opened = n; valid = v }

pub command_stored : (h : Hca) (store : List ℕ) (o : Op) (p n : ℕ) (f : Option CommandAsked) (b : Bool) → OpenFits h store
    → b ≡ bad_system h.«open» o → b ≡ false → f ≡ read_command h.logs o p n → CommandStored h.logs store f
command_stored h store o p n f b r s t e =
    record {
      stored = λ c i.
          let y : Reads h.logs o (Some (asked.OnRecord c)) = subst (Reads h.logs o) (sym e ∙ i) (command_reads h.logs o p n) in
          let x : OnRecord h.logs o c = on_record_lem h.logs o c y in
          open_stored h store (request.Command c) r (not-false h.«open» (sym (x.opened h.«open») ∙ sym s ∙ t)) x.valid;
    }
