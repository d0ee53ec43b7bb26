-- Only the needed front of a mailbox is looked at (01, Commands): what stands behind it does not change what a request writes.
use Rattle.std.specs.Prelude.{◌≡◌, refl, Bool, true, false, List, ◌++◌, ℕ, ◌-◌, ◌≤◌, eqb, ltb, length}
use Rattle.std.proofs.Common.{ap, ap₂, arith, ltb-true}
use Rattle.std.proofs.Math.ListN.{get_or-append}
use Rattle.words.specs.Choice.{pick, within}
use Rattle.words.proofs.Tests.{within_low, within_high}
use Rattle.edges.specs.Edges.{to_of}
use Rattle.edges.specs.declared.Edge.{Edge}
use Rattle.requests.specs.declared.Owned.{Owned}
use Rattle.requests.specs.declared.Command.{Command}
use Rattle.requests.specs.declared.Command.TheVariants as command
use Rattle.requests.specs.declared.Request.{Request}
use Rattle.requests.specs.declared.Request.TheVariants as request
use Rattle.mailboxes.specs.Mailboxes.{stored_of, edge_need, command_need, need_of}
use Rattle.byte_rule.specs.Taken.{takes_word, word_of, zeroes}
use Rattle.byte_rule.specs.Bytes.{with_state, taken_byte, edge_byte, sw2hw_byte, resize_byte, command_byte, byte_of}
use Rattle.byte_rule.proofs.Needed.{taken_needed}

-- a choice whose first values agree where the test holds
pick_same : (b : Bool) (x y z : ℕ) → (b ≡ true → x ≡ y) → pick b x z ≡ pick b y z
pick_same true x y z f = f refl
pick_same false x y z f = refl

taken_front : (e : Edge) (mail t : List ℕ) (i old : ℕ) → edge_need e ≤ length mail → taken_byte e (mail ++ t) i old ≡ taken_byte e mail i old
unfolding taken_byte
taken_front e mail t i old h =
    pick_same (takes_word e (word_of i)) _ _ old (λ b. get_or-append mail t 0 i (omega (arith, taken_needed e i b)))

edge_front : (e : Edge) (mail t : List ℕ) (i old : ℕ) → edge_need e ≤ length mail → edge_byte e (mail ++ t) i old ≡ edge_byte e mail i old
unfolding edge_byte
edge_front e mail t i old h = ap (λ (b : ℕ). pick (zeroes e) 0 (with_state (to_of e) i b)) (taken_front e mail t i old h)

sw2hw_front : (o : Owned) (mail t : List ℕ) (i : ℕ) → stored_of o ≤ length mail → sw2hw_byte o (mail ++ t) i ≡ sw2hw_byte o mail i
unfolding sw2hw_byte
sw2hw_front o mail t i h =
    pick_same (ltb i (stored_of o)) _ _ _ (λ b. get_or-append mail t 0 i (omega (arith, ltb-true i (stored_of o) b)))

resize_front : (mail t : List ℕ) (i old : ℕ) → 8 ≤ length mail → resize_byte (mail ++ t) i old ≡ resize_byte mail i old
unfolding resize_byte
resize_front mail t i old h =
    ap₂ (pick (eqb i 0x0c)) (get_or-append mail t 0 0 (omega arith))
    (pick_same (within 0x18 0x1b i) _ _ old
    (λ b. get_or-append mail t 0 (i - 0x14) (omega (arith, within_low 0x18 0x1b i b, within_high 0x18 0x1b i b))))

command_front : (c : Command) (mail t : List ℕ) (i old : ℕ) → command_need c ≤ length mail
    → command_byte c (mail ++ t) i old ≡ command_byte c mail i old
command_front (command.Sw2Hw o) mail t i old h = sw2hw_front o mail t i h
command_front (command.Hw2Sw o) mail t i old h = refl
command_front (command.ResizeCq n) mail t i old h = resize_front mail t i old h
command_front (command.QueryQp n) mail t i old h = refl
command_front (command.ModifyQp e n) mail t i old h = edge_front e mail t i old h

pub byte_front : (q : Request) (mail t : List ℕ) (i old : ℕ) → need_of q ≤ length mail → byte_of q (mail ++ t) i old ≡ byte_of q mail i old
byte_front (request.Command c) mail t i old h = command_front c mail t i old h
byte_front (request.Engine e) mail t i old h = refl
