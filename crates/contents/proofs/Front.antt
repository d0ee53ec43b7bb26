-- Only the needed front of a mailbox is looked at (01, Commands): what stands behind it does not change whether its content holds.
use Rattle.std.specs.Prelude.{◌≡◌, refl, List, ◌++◌, ℕ, ◌+◌, ◌≤◌, eqb, length}
use Rattle.std.proofs.Common.{ap, arith, length-append}
use Rattle.std.proofs.Math.ListN.{get_or-append}
use Rattle.words.proofs.Parts.{part_agrees}
use Rattle.words.specs.Words.{be_value, be32}
use Rattle.edges.specs.States.{is_service}
use Rattle.edges.specs.declared.Edge.{Edge}
use Rattle.edges.specs.declared.Edge.TheVariants.{ResetToInit, InitToInit, InitToRtr, RtrToRts, RtsToRts, SqeToRts}
use Rattle.edges.specs.declared.Edge.TheVariants.{RtsToSqd, SqdToSqd, SqdToRts, ToErr, ToReset}
use Rattle.requests.specs.declared.Owned.{Owned}
use Rattle.requests.specs.declared.Owned.TheVariants as owned
use Rattle.requests.specs.declared.Command.{Command}
use Rattle.requests.specs.declared.Command.TheVariants as command
use Rattle.requests.specs.declared.Request.{Request}
use Rattle.requests.specs.declared.Request.TheVariants as request
use Rattle.mailboxes.specs.Mailboxes.{stored_of, edge_need, command_need, need_of}
use Rattle.checks.specs.Fields.{service_of}
use Rattle.contents.specs.Content.{owned_content, edge_content, command_content, content_holds}

-- a word inside a list stays where something follows the list
word_front : (at : ℕ) (l t : List ℕ) → at + 4 ≤ length l → be32 at (l ++ t) ≡ be32 at l
unfolding be32
word_front at l t h =
    ap be_value (part_agrees at 4 (l ++ t) l (omega (arith, length-append l t)) h (λ i j. get_or-append l t 0 (at + i) (omega arith)))

owned_front : (o : Owned) (mail t : List ℕ) → stored_of o ≤ length mail → owned_content o (mail ++ t) ≡ owned_content o mail
owned_front (owned.Mpt n) mail t h = refl
owned_front (owned.Eq n) mail t h = refl
owned_front (owned.Cq n) mail t h = ap (λ (w : ℕ). eqb w n.0) (word_front 0x2c mail t (omega arith))

edge_front : (e : Edge) (mail t : List ℕ) → edge_need e ≤ length mail → edge_content e (mail ++ t) ≡ edge_content e mail
unfolding service_of
edge_front ResetToInit mail t h = ap is_service (get_or-append mail t 0 1 (omega arith))
edge_front InitToInit mail t h = refl
edge_front InitToRtr mail t h = refl
edge_front RtrToRts mail t h = refl
edge_front RtsToRts mail t h = refl
edge_front SqeToRts mail t h = refl
edge_front RtsToSqd mail t h = refl
edge_front SqdToSqd mail t h = refl
edge_front SqdToRts mail t h = refl
edge_front ToErr mail t h = refl
edge_front ToReset mail t h = refl

command_front : (c : Command) (mail t : List ℕ) → command_need c ≤ length mail → command_content c (mail ++ t) ≡ command_content c mail
command_front (command.Sw2Hw o) mail t h = owned_front o mail t h
command_front (command.Hw2Sw o) mail t h = refl
command_front (command.ResizeCq n) mail t h = refl
command_front (command.QueryQp n) mail t h = refl
command_front (command.ModifyQp e n) mail t h = edge_front e mail t h

pub content_front : (q : Request) (mail t : List ℕ) → need_of q ≤ length mail → content_holds q (mail ++ t) ≡ content_holds q mail
content_front (request.Command c) mail t h = command_front c mail t h
content_front (request.Engine e) mail t h = refl
