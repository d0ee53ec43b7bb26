-- Which mailbox contents a request accepts.
use Rattle.std.specs.Prelude.{Bool, true, List, ℕ, eqb}
use Rattle.words.specs.Words.{be32}
use Rattle.edges.specs.States.{is_service}
use Rattle.edges.specs.declared.Edge.{Edge}
use Rattle.edges.specs.declared.Edge.TheVariants.{ResetToInit, InitToInit, InitToRtr, RtrToRts, RtsToRts, SqeToRts}
use Rattle.edges.specs.declared.Edge.TheVariants.{RtsToSqd, SqdToSqd, SqdToRts, ToErr, ToReset}
use Rattle.requests.specs.declared.Owned.{Owned}
use Rattle.requests.specs.declared.Owned.TheVariants as owned
use Rattle.requests.specs.declared.Command.{Command}
use Rattle.requests.specs.declared.Command.TheVariants as command
use Rattle.requests.specs.declared.Request.{Request}
use Rattle.requests.specs.declared.Request.TheVariants as request
use Rattle.checks.specs.Fields.{service_of}

-- The image of a completion queue names its index in word 2Ch (01, Commands).
abbrev pub owned_content : Owned → List ℕ → Bool
owned_content (owned.Mpt n) mail = true
owned_content (owned.Eq n) mail = true
owned_content (owned.Cq n) mail = eqb (be32 0x2c mail) n.0

-- The image of RESET to INIT has one of the service types; the other edges ask nothing (01, Commands).
abbrev pub edge_content : Edge → List ℕ → Bool
edge_content ResetToInit mail = is_service (service_of mail)
edge_content InitToInit mail = true
edge_content InitToRtr mail = true
edge_content RtrToRts mail = true
edge_content RtsToRts mail = true
edge_content SqeToRts mail = true
edge_content RtsToSqd mail = true
edge_content SqdToSqd mail = true
edge_content SqdToRts mail = true
edge_content ToErr mail = true
edge_content ToReset mail = true

-- SW2HW and the edges have a content that can be wrong (01, Numbers returned, the third 3).
abbrev pub command_content : Command → List ℕ → Bool
command_content (command.Sw2Hw o) mail = owned_content o mail
command_content (command.Hw2Sw o) mail = true
command_content (command.ResizeCq n) mail = true
command_content (command.QueryQp n) mail = true
command_content (command.ModifyQp e n) mail = edge_content e mail

-- An engine request has no mailbox (01, Engine requests).
abbrev pub content_holds : Request → List ℕ → Bool
content_holds (request.Command c) mail = command_content c mail
content_holds (request.Engine e) mail = true
