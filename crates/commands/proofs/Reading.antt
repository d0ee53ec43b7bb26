-- Reading a command, in 01's words: which op codes are served, and when a command is found and which it is.
use Rattle.std.specs.Prelude.{◌≡◌, refl, Bool, true, false, List, [], ◌∷◌, ℕ, eqb, ltb, Option, Some, None}
use Rattle.std.proofs.Common.{sym, ◌∙◌}
use Rattle.std.proofs.Math.Path.{ap}
use Rattle.words.specs.Choice.{pick, both, either}
use Rattle.words.proofs.Choice.{by_pick, pick_ap, pick_both, pick_yes}
use Rattle.context.specs.Layout.{count_of}
use Rattle.context.specs.declared.Kind.TheVariants as kind
use Rattle.context.specs.declared.Logs.{Logs}
use Rattle.context.specs.declared.CqNumber.{CqNumber}
use Rattle.context.specs.declared.EqNumber.{EqNumber}
use Rattle.context.specs.declared.MptNumber.{MptNumber}
use Rattle.commands.specs.declared.Table.TheVariants as table
use Rattle.commands.specs.declared.Op.{Op}
use Rattle.commands.specs.declared.Op.TheVariants as op
use Rattle.commands.specs.Commands.{op_table, look_up, read_op, one_of, is_served, op_found_number, op_modifier_of, addressed, read_command}
use Rattle.commands.specs.Commands.{on_mpt, on_eq, on_cq, sw2hw_of, hw2sw_of, resize_of, query_of, modify_of}
use Rattle.commands.specs.Commands.{in_modifier_right, command_right, command_on, command_found_number}
use Rattle.commands.specs.declared.CommandAsked.{CommandAsked}

-- the codes of a table of ops
abbrev codes_of : List (ℕ × Op) → List ℕ
codes_of [] = []
codes_of (row ∷ rows) = row.0 ∷ codes_of rows

one_more : (b served : Bool) (o : Op) (rest : Option Op) → op_found_number rest ≡ pick served 0 2
    → op_found_number (pick b (Some o) rest) ≡ pick (either b served) 0 2
one_more true served o rest e = refl
one_more false served o rest e = e

looked_up : (rows : List (ℕ × Op)) (code : ℕ) → op_found_number (look_up rows code) ≡ pick (one_of (codes_of rows) code) 0 2
looked_up [] code = refl
looked_up (row ∷ rows) code =
    one_more (eqb code row.0) (one_of (codes_of rows) code) row.1 (look_up rows code) (looked_up rows code)

-- the number of a code is 0 if it is one of those that are served, and else 2
pub op_number : (code : ℕ) → op_found_number (read_op code) ≡ pick (is_served code) 0 2
unfolding read_op is_served
op_number code = looked_up op_table code

-- an answer that is what the definition gives has its number
pub op_answer : (r : Option Op) (code : ℕ) → r ≡ read_op code → (r ≡ read_op code) × (op_found_number r ≡ pick (is_served code) 0 2)
op_answer r code e = (e, ap op_found_number e ∙ op_number code)

-- a command is found by the count of its own table, or by the in_modifier 0
addressed_is : (g : Logs) (o : Op) (n : ℕ) → addressed g o n ≡ pick (in_modifier_right g o n) (command_on o n) None
addressed_is g op.InitHca n = refl
addressed_is g op.CloseHca n = refl
addressed_is g op.Nop n = refl
addressed_is g (op.Sw2Hw table.Mpt) n = pick_ap (λ (f : Option MptNumber). sw2hw_of (on_mpt f)) (ltb n (count_of g kind.Mpt)) _ _
addressed_is g (op.Sw2Hw table.Eq) n = pick_ap (λ (f : Option EqNumber). sw2hw_of (on_eq f)) (ltb n (count_of g kind.Eq)) _ _
addressed_is g (op.Sw2Hw table.Cq) n = pick_ap (λ (f : Option CqNumber). sw2hw_of (on_cq f)) (ltb n (count_of g kind.Cq)) _ _
addressed_is g (op.Hw2Sw table.Mpt) n = pick_ap (λ (f : Option MptNumber). hw2sw_of (on_mpt f)) (ltb n (count_of g kind.Mpt)) _ _
addressed_is g (op.Hw2Sw table.Eq) n = pick_ap (λ (f : Option EqNumber). hw2sw_of (on_eq f)) (ltb n (count_of g kind.Eq)) _ _
addressed_is g (op.Hw2Sw table.Cq) n = pick_ap (λ (f : Option CqNumber). hw2sw_of (on_cq f)) (ltb n (count_of g kind.Cq)) _ _
addressed_is g op.ResizeCq n = pick_ap resize_of (ltb n (count_of g kind.Cq)) _ _
addressed_is g op.QueryQp n = pick_ap query_of (ltb n (count_of g kind.Qp)) _ _
addressed_is g (op.ModifyQp e) n = pick_ap (modify_of e) (ltb n (count_of g kind.Qp)) _ _

on_number_lem : (o : Op) (n : ℕ) → command_found_number (command_on o n) ≡ 0
on_number_lem op.InitHca n = refl
on_number_lem op.CloseHca n = refl
on_number_lem op.Nop n = refl
on_number_lem (op.Sw2Hw t) n = refl
on_number_lem (op.Hw2Sw t) n = refl
on_number_lem op.ResizeCq n = refl
on_number_lem op.QueryQp n = refl
on_number_lem (op.ModifyQp e) n = refl

module _ (g : Logs) (o : Op) (modifier n : ℕ) where
  -- the whole of reading: the op on that number if both modifiers are right, and else nothing (01, Commands)
  pub command_read : read_command g o modifier n ≡ pick (command_right g o modifier n) (command_on o n) None
  unfolding read_command command_right
  command_read =
      ap (λ (c : Option CommandAsked). pick (eqb modifier (op_modifier_of o)) c None) (addressed_is g o n)
      ∙ pick_both (eqb modifier (op_modifier_of o)) (in_modifier_right g o n) (command_on o n) None

  -- its number is 0 if both are right, and else 3
  pub command_number : command_found_number (read_command g o modifier n) ≡ pick (command_right g o modifier n) 0 3
  command_number =
      ap command_found_number command_read
      ∙ pick_ap command_found_number (command_right g o modifier n) (command_on o n) None
      ∙ ap (λ (k : ℕ). pick (command_right g o modifier n) k 3) (on_number_lem o n)

  -- what is right is found
  pub command_found : command_right g o modifier n ≡ true → read_command g o modifier n ≡ command_on o n
  command_found h = command_read ∙ sym (pick_yes (command_right g o modifier n) _ _ _ h refl)

  -- what is found is right, and is that op on that number
  pub command_right_lem : (c : Option CommandAsked) → read_command g o modifier n ≡ c → ¬ (c ≡ None)
      → (command_right g o modifier n ≡ true) × (c ≡ command_on o n)
  command_right_lem c e some =
      by_pick (λ (x : Option CommandAsked). read_command g o modifier n ≡ x → (command_right g o modifier n ≡ true) × (c ≡ command_on o n))
      (command_right g o modifier n) (command_on o n) None
      (λ h f. (h, sym e ∙ f))
      (λ h f. absurd (some (sym e ∙ f)))
      command_read

-- an answer that is what the definition gives has its number
pub command_answer_lem : (r : Option CommandAsked) (g : Logs) (o : Op) (modifier n : ℕ) → r ≡ read_command g o modifier n
    → (r ≡ read_command g o modifier n) × (command_found_number r ≡ pick (command_right g o modifier n) 0 3)
command_answer_lem r g o modifier n e = (e, ap command_found_number e ∙ command_number g o modifier n)
